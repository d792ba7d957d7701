-- The needs of a tender's text: line 3 has the RR needs by period, line 4 the RC needs. Assumes nothing.
use Rattle.std.specs.Prelude.{ℕ, ◌+◌, List, Some, None, Ok, Err, Option, Result, position, nat_lt}
use Rattle.text.specs.Judging.{◌>>=◌, ◌>>◌}
use Rattle.book.specs.Needs.{highest_need}
use Rattle.book.specs.declared.fault.RegisterFault.TheVariants.{Period}
use Rattle.tender_text.specs.Opening.{numbers}
use Rattle.tender_text.specs.declared.fault.TenderFault.{TenderFault}
use Rattle.tender_text.specs.declared.fault.TenderFault.TheVariants.{Register}

-- where the first need that is too high stands, counted from 0
abbrev pub first_high : List ℕ → Option ℕ
first_high = position (λ need. nat_lt highest_need need)

-- a need that is too high is refused with its period
abbrev pub no_high : Option ℕ → Result (Unit {0}) TenderFault
no_high None = Ok tt
no_high (Some past) = Err (Register (Period (past + 1)))

-- a line of the needs of one product in a month of T periods, and what follows it
abbrev pub need_line : (line T : ℕ) → List ℕ → Result (List ℕ × List ℕ) TenderFault
need_line line T text = do
  (needs, rest) ← numbers line T text
  no_high (first_high needs)
  Ok (needs, rest)
