-- What a calendar tells. Assumes nothing.
use Rattle.std.specs.Prelude.{ℕ, ◌-◌, cond, ◌&&◌, List, length, Some, None, Ok, Err, Option, Result, nat_le, slice_index}
use Rattle.short_list.specs.ShortList.{items}
use Rattle.calendar.specs.declared.fault.CalendarFault.{CalendarFault}
use Rattle.calendar.specs.declared.month.Calendar.{Calendar}

-- the day count of each period
abbrev pub day_counts : Calendar → List ℕ
day_counts calendar = items calendar.days

-- the days of period t, counted from 1; none outside the month
abbrev pub days_in : (counts : List ℕ) (t : ℕ) → Option ℕ
days_in counts t = cond (nat_le 1 t && nat_le t (length counts)) (Some (slice_index counts (t - 1))) None

abbrev pub told : Result Calendar CalendarFault → Result (List ℕ) CalendarFault
told (Ok calendar) = Ok (day_counts calendar)
told (Err fault) = Err fault
