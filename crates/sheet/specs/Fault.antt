-- Number and place of a refusal. Assumes nothing.
use Rattle.std.specs.Prelude.{ℕ}
use Rattle.sheet.specs.declared.fault.SheetFault.{SheetFault}
use Rattle.sheet.specs.declared.fault.SheetFault.TheVariants.{Form, Value, Marks, Order, PartMonth}
use Rattle.sheet.specs.declared.fault.SaveFault.{SaveFault}
use Rattle.sheet.specs.declared.fault.SaveFault.TheVariants.{Space}

abbrev pub number_and_place : SheetFault → ℕ × ℕ
number_and_place (Form l) = (1, l)
number_and_place (Value l) = (2, l)
number_and_place (Marks l) = (3, l)
number_and_place (Order l) = (4, l)
number_and_place (PartMonth l) = (5, l)

abbrev pub save_number_and_place : SaveFault → ℕ × ℕ
save_number_and_place Space = (13, 0)
