-- At most so many days before a year and before a month.
use Rattle.std.proofs.Common.{ℕ, zero, suc, ◌+◌, ◌*◌, ◌≤◌, Bool, true, false, cond, map, take, sum, arith}
use Rattle.std.specs.List.{range_with_len}
use Rattle.std.proofs.lemmas.List.Sums.{sum_by-cons, sum_by-take-le}
use Rattle.calendar.specs.Date.{leap, year_length, month_lengths}

day_more : (leap_day : Bool) (days : ℕ) → cond leap_day (days + 1) days ≤ days + 1
day_more true days = omega arith
day_more false days = omega arith

pub years_most : (a n : ℕ) → sum (map year_length (range_with_len a n)) ≤ 366 * n
years_most a zero = omega arith
years_most a (suc n) = omega (arith, day_more (leap a) 365, sum_by-cons (λ days. days) (year_length a) (map year_length (range_with_len (a + 1) n)), years_most (a + 1) n)

pub months_most : (year n : ℕ) → sum (take n (month_lengths year)) ≤ 366
months_most year n = omega (arith, day_more (leap year) 28, sum_by-take-le (λ days. days) (month_lengths year) n)
