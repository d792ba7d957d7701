-- What the periods of every tender keep. Assumes nothing.
use Rattle.std.specs.Prelude.{◌≡◌, ℕ, ◌≤◌, Bool, true, ◌&&◌, List, [], ◌∷◌, length, sum, nat_le}
use Rattle.std.specs.List.{AllByRecursion}
use Rattle.calendar.specs.Opening.{most_periods}

-- the day counts of a month of so many days
pub record Kept (days : ℕ) (counts : List ℕ) : Type 0 where
  -- there is a period, and there are at most eleven
  pub some_period : 1 ≤ length counts
  pub few_periods : length counts ≤ most_periods
  -- each has one to seven days
  pub each_period : AllByRecursion (λ count. (1 ≤ count) × (count ≤ 7)) counts
  -- together they are the month
  pub whole_month : sum counts ≡ days

abbrev pub week_long : List ℕ → Bool
week_long [] = true
week_long (count ∷ counts) = nat_le 1 count && nat_le count 7 && week_long counts

-- the same as a test, which every calendar passes, for a month of at most 31 days
abbrev pub sound : List ℕ → Bool
sound counts = nat_le 1 (length counts) && nat_le (length counts) most_periods && nat_le (sum counts) 31 && week_long counts
