-- The periods of a month: each week's working days, then its other days. Assumes nothing.
-- A month is given by the weekday of its first day, its length and its holidays, which are days of the month.
use Rattle.std.specs.Prelude.{ℕ, ◌+◌, ◌-◌, ◌*◌, ◌/◌, ◌%◌, Bool, true, false, cond, not, ◌&&◌, ltb, List, [], ◌∷◌, map, count_by, filter, ◌==◌, nat_lt}
use Rattle.std.specs.List.{range_with_len, concat, list_any}

-- the days from the Monday on or before the first to a day of the month
abbrev pub since_monday : (first day : ℕ) → ℕ
since_monday first day = first + (day - 1)

abbrev pub listed : (day : ℕ) → List ℕ → Bool
listed day holidays = list_any (λ holiday. holiday == day) holidays

-- Monday to Friday, and no holiday
abbrev pub working : (first : ℕ) → List ℕ → (day : ℕ) → Bool
working first holidays day = nat_lt (since_monday first day % 7) 5 && not (listed day holidays)

-- a day belongs to a week, Monday to Sunday, as a working day or as another day
abbrev pub belongs : (first : ℕ) → List ℕ → (week : ℕ) (works : Bool) → (day : ℕ) → Bool
belongs first holidays week works day =
    (since_monday first day / 7 == week) && cond works (working first holidays day) (not (working first holidays day))

-- how many days of the month are working days, or other days, of a week
abbrev pub days_of : (first days : ℕ) → List ℕ → (week : ℕ) (works : Bool) → ℕ
days_of first days holidays week works = count_by (belongs first holidays week works) (range_with_len 1 days)

-- a month touches at most six weeks, which the month's ends cut: for each its working days, then its other days
unfoldable pub by_week : (first days : ℕ) → List ℕ → List ℕ
by_week first days holidays =
    concat (map (λ week. days_of first days holidays week true ∷ days_of first days holidays week false ∷ []) (range_with_len 0 6))

-- the place of a week's working days, or of its other days, in that list
abbrev pub part : (week : ℕ) (works : Bool) → ℕ
part week works = 2 * week + cond works 0 1

-- the day counts of the periods: an empty period is dropped
abbrev pub periods : (first days : ℕ) → List ℕ → List ℕ
periods first days holidays = filter (ltb 0) (by_week first days holidays)
