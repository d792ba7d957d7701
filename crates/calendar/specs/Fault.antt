-- The refusals of a calendar: the number and the place of each. Assumes nothing.
use Rattle.std.specs.Prelude.{ℕ}
use Rattle.calendar.specs.declared.fault.CalendarFault.{CalendarFault}
use Rattle.calendar.specs.declared.fault.CalendarFault.TheVariants.{Date, Weeks}

abbrev pub number : CalendarFault → ℕ
number Date = 15
number Weeks = 16

abbrev pub place : CalendarFault → ℕ
place fault = 0
