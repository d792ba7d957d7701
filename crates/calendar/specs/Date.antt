-- Years, months and weekdays, counted from one known date: 1 January 2000 was a Saturday. Assumes nothing.
use Rattle.std.specs.Prelude.{ℕ, ◌+◌, ◌-◌, ◌%◌, Bool, cond, not, ◌&&◌, ◌||◌, List, [], ◌∷◌, map, take, sum, ◌==◌, slice_index}
use Rattle.std.specs.List.{range_with_len}

-- every fourth year, but of the full centuries only every fourth
abbrev pub leap : (year : ℕ) → Bool
leap year = year % 4 == 0 && (not (year % 100 == 0) || year % 400 == 0)

abbrev pub year_length : (year : ℕ) → ℕ
year_length year = cond (leap year) 366 365

-- the days of January to December
abbrev pub month_lengths : (year : ℕ) → List ℕ
month_lengths year = 31 ∷ cond (leap year) 29 28 ∷ 31 ∷ 30 ∷ 31 ∷ 30 ∷ 31 ∷ 31 ∷ 30 ∷ 31 ∷ 30 ∷ 31 ∷ []

-- the days of a month, which is counted from 1; a month past the twelfth has none
abbrev pub month_length : (year month : ℕ) → ℕ
month_length year month = slice_index (month_lengths year) (month - 1)

-- the days from 1 January 2000 to the first of January of a year
abbrev pub days_before_year : (year : ℕ) → ℕ
days_before_year year = sum (map year_length (range_with_len 2000 (year - 2000)))

-- the days from 1 January 2000 to the first of a month
abbrev pub days_before : (year month : ℕ) → ℕ
days_before year month = days_before_year year + sum (take (month - 1) (month_lengths year))

-- the weekday of the first of a month: Monday is 0, Saturday 5 and Sunday 6
abbrev pub first_weekday : (year month : ℕ) → ℕ
first_weekday year month = (5 + days_before year month) % 7
