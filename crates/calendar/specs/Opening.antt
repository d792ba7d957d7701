-- For which year, month and holidays a tender is opened, and with which periods. Assumes nothing.
use Rattle.std.specs.Prelude.{ℕ, Bool, true, cond, ◌&&◌, List, [], ◌∷◌, length, Ok, Err, Result, nat_le, nat_lt}
use Rattle.calendar.specs.Date.{month_length, first_weekday}
use Rattle.calendar.specs.Periods.{periods}
use Rattle.calendar.specs.declared.fault.CalendarFault.{CalendarFault}
use Rattle.calendar.specs.declared.fault.CalendarFault.TheVariants.{Date, Weeks}

abbrev pub most_holidays : ℕ
most_holidays = 8

abbrev pub most_periods : ℕ
most_periods = 11

-- a year, a month and a number of holidays that a tender may have
abbrev pub announced : (year month holidays : ℕ) → Bool
announced year month holidays = nat_le 2000 year && nat_le year 2099 && nat_le 1 month && nat_le month 12 && nat_le holidays most_holidays

-- each day after the one before, and none past the last of the month
abbrev pub rising : (after last : ℕ) → List ℕ → Bool
rising after last [] = true
rising after last (day ∷ days) = nat_lt after day && nat_le day last && rising day last days

abbrev pub dated : (year month : ℕ) → List ℕ → Bool
dated year month holidays = announced year month (length holidays) && rising 0 (month_length year month) holidays

-- the day counts of the periods of a month
abbrev pub month_periods : (year month : ℕ) → List ℕ → List ℕ
month_periods year month holidays = periods (first_weekday year month) (month_length year month) holidays

-- the day counts of the tender's periods, or the refusal
unfoldable pub opened : (year month : ℕ) → List ℕ → Result (List ℕ) CalendarFault
opened year month holidays =
    cond (dated year month holidays)
    (cond (nat_le (length (month_periods year month holidays)) most_periods) (Ok (month_periods year month holidays)) (Err Weeks))
    (Err Date)
