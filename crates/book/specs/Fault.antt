-- The refusals of a register: the number and the place of each. Assumes nothing.
use Rattle.std.specs.Prelude.{ℕ, ◌+◌, Bool, Ok, Err, Result, ◌==◌}
use Rattle.sheet.specs.Fault as sheet
use Rattle.sheet.specs.declared.fault.SheetFault.{SheetFault}
use Rattle.sheet.specs.declared.fault.SheetFault.TheVariants.{Form, Value, Marks, Order, PartMonth}
use Rattle.book.specs.declared.fault.RegisterFault.{RegisterFault}
use Rattle.book.specs.declared.fault.RegisterFault.TheVariants.{Sheet, Known, Unknown, Full, Pairs, Volume, Blocks, Period, Space}

abbrev pub number_and_place : RegisterFault → ℕ × ℕ
number_and_place (Sheet fault) = sheet.number_and_place fault
number_and_place Known = (6, 0)
number_and_place Unknown = (7, 0)
number_and_place Full = (8, 0)
number_and_place (Pairs t) = (9, t)
number_and_place Volume = (10, 0)
number_and_place Blocks = (11, 0)
number_and_place (Period t) = (12, t)
number_and_place Space = (13, 0)

-- a sheet's refusal, whole, inside the register's
abbrev pub of_sheet : {X : Type 0} → Result X SheetFault → Result X RegisterFault
of_sheet (Ok x) = Ok x
of_sheet (Err fault) = Err (Sheet fault)

-- refusal 1, of a sheet whose form is broken
abbrev pub breaks_form : RegisterFault → Bool
breaks_form fault = (number_and_place fault).0 == 1

-- the same refusal with so many lines before the sheet
abbrev pub sheet_later : (lines : ℕ) → SheetFault → SheetFault
sheet_later lines (Form l) = Form (lines + l)
sheet_later lines (Value l) = Value (lines + l)
sheet_later lines (Marks l) = Marks (lines + l)
sheet_later lines (Order l) = Order (lines + l)
sheet_later lines (PartMonth l) = PartMonth (lines + l)

abbrev pub later : (lines : ℕ) → RegisterFault → RegisterFault
later lines (Sheet fault) = Sheet (sheet_later lines fault)
later lines Known = Known
later lines Unknown = Unknown
later lines Full = Full
later lines (Pairs t) = Pairs t
later lines Volume = Volume
later lines Blocks = Blocks
later lines (Period t) = Period t
later lines Space = Space
