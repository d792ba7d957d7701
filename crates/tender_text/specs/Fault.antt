-- The refusals of a tender's text: the number and the place of each. Assumes nothing.
use Rattle.std.specs.Prelude.{ℕ, List, ◌++◌, codes, decimal}
use Rattle.book.specs.Fault as book
use Rattle.calendar.specs.Fault as calendar
use Rattle.tender_text.specs.declared.fault.TenderFault.{TenderFault}
use Rattle.tender_text.specs.declared.fault.TenderFault.TheVariants.{Form, Calendar, Register, Space}

abbrev pub number : TenderFault → ℕ
number (Form line) = 1
number (Calendar fault) = calendar.number fault
number (Register fault) = (book.number_and_place fault).0
number Space = 13

abbrev pub place : TenderFault → ℕ
place (Form line) = line
place (Calendar fault) = calendar.place fault
place (Register fault) = (book.number_and_place fault).1
place Space = 0

-- a refusal's number and place, as they are written
abbrev pub refusal_text : TenderFault → List ℕ
refusal_text fault = codes "refused;" ++ (decimal (number fault) ++ (codes ";" ++ (decimal (place fault) ++ codes ";")))
