-- A register made from a deposit. Assumes nothing.
use Rattle.std.specs.Prelude.{◌≡◌, List, length, replicate, Ok, Err, Result}
use Rattle.calendar.specs.Month.{day_counts}
use Rattle.calendar.specs.declared.month.Calendar.{Calendar}
use Rattle.book.specs.Needs.{no_need}
use Rattle.book.specs.Register.{days_of, roll_of}
use Rattle.book.specs.declared.unread.DepositFault.{DepositFault}
use Rattle.book.specs.declared.unread.DepositFault.TheVariants.{Register as Refused, Memory}
use Rattle.book.specs.declared.register.Register.{Register}
use Rattle.sheet.specs.Offer.{Offer}
use Rattle.book.specs.declared.fault.RegisterFault.{RegisterFault}

-- a new register with the list of a deposit, or its refusal, unless there is no memory
abbrev pub Deposited : Calendar → Result (List Offer) RegisterFault → Result Register DepositFault → Type 0
Deposited calendar expected (Ok register) =
    (Ok (roll_of register).offers ≡ expected)
    × (days_of register ≡ day_counts calendar)
    × ((roll_of register).needs ≡ replicate (length (day_counts calendar)) no_need)
Deposited calendar expected (Err (Refused fault)) = Err fault ≡ expected
Deposited calendar expected (Err Memory) = Unit {0}
