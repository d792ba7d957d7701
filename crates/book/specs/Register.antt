-- What a register means, and how its calls answer. Assumes nothing.
use Rattle.std.specs.Prelude.{◌≡◌, ℕ, List, length, take, Ok, Err, Result}
use Rattle.short_list.specs.ShortList.{items}
use Rattle.sheet.specs.Facts.{facts}
use Rattle.sheet.specs.Offer.{Offer}
use Rattle.sheet.specs.declared.offer.Offer.{Offer as Kept}
use Rattle.book.specs.Fault.{number_and_place}
use Rattle.book.specs.Roll.{Roll}
use Rattle.book.specs.Step.{Answer, Call, Step, accepted, refusal, text_saved}
use Rattle.book.specs.Table.{days_of as table_days, offers_of}
use Rattle.book.specs.declared.fault.RegisterFault.{RegisterFault}
use Rattle.book.specs.declared.register.Register.{Register}

-- the day count of each period of its month
abbrev pub days_of : Register → List ℕ
days_of register = table_days register.table

-- how many periods its month has
abbrev pub periods_of : Register → ℕ
periods_of register = length (days_of register)

-- the offers that stand in it and its needs by period
abbrev pub roll_of : Register → Roll
roll_of register = record { offers = offers_of register.table; needs = items register.needs }

-- a call turns one register into another: answer and roll are those of its step, and the month stays
pub record Turns (before : Register) (call : Call) (answer : Answer) (after : Register) : Type 0 where
  pub step : Step (periods_of before) (roll_of before) call answer (roll_of after)
  pub days : days_of after ≡ days_of before

-- the answer of a call that is accepted or refused
abbrev pub answer_of : Result (Unit {0}) RegisterFault → Answer
answer_of (Ok u) = accepted
answer_of (Err fault) = refusal (number_and_place fault)

-- the answer of a save into a buffer: the text is its first bytes then
abbrev pub save_answer_of : (buffer : List ℕ) → Result ℕ RegisterFault → Answer
save_answer_of buffer (Ok long) = text_saved (take long buffer)
save_answer_of buffer (Err fault) = refusal (number_and_place fault)

-- the offer that was read
abbrev pub offer_read : Result Kept RegisterFault → Result Offer RegisterFault
offer_read (Ok offer) = Ok (facts offer)
offer_read (Err fault) = Err fault
