-- The days of a month, counted week by week.
use Rattle.std.proofs.Common.{◌≡◌, ℕ, zero, suc, ◌+◌, ◌-◌, ◌/◌, ◌<◌, ◌≤◌, Bool, true, false, cond, not, ◌&&◌, eqb, List, [], ◌∷◌, map, length, get_or, set, count_by, refl, ◌∙◌, add-zero, arith}
use Rattle.std.specs.List.{range_with_len, concat, AllByRecursion}
use Rattle.std.proofs.lemmas.List.Sums.{count_by-le-length}
use Rattle.std.proofs.lemmas.List.FromFn.{length-range_with_len, sum_by-map-range_with_len_more}
use Rattle.std.proofs.lemmas.List.{map-id}
use Rattle.std.proofs.ByRecursion.{All-get_or}
use Rattle.calendar.specs.Periods.{since_monday, working, belongs, days_of, part, by_week}

-- ---- one number more

pub count_more : (test : ℕ → Bool) (n : ℕ) → count_by test (range_with_len 1 (n + 1)) ≡ count_by test (range_with_len 1 n) + cond (test (n + 1)) 1 0
count_more test n =
    simp map-id at (sum_by-map-range_with_len_more (λ day. cond (test day) 1 0) (λ day. day) 1 n (n + 1) (omega arith))

pub count_most : (test : ℕ → Bool) (n : ℕ) → count_by test (range_with_len 1 n) ≤ n
count_most test n = omega (arith, count_by-le-length test (range_with_len 1 n), length-range_with_len 1 n)

-- ---- six weeks, side by side

abbrev pub laid : (ℕ → Bool → ℕ) → List ℕ → List ℕ
laid f weeks = concat (map (λ week. f week true ∷ f week false ∷ []) weeks)

pub laid_same : (f g : ℕ → Bool → ℕ) → ((week : ℕ) (works : Bool) → f week works ≡ g week works) → (weeks : List ℕ) → laid f weeks ≡ laid g weeks
laid_same f g same [] = refl
laid_same f g same (week ∷ weeks) = rw (same week true, same week false, laid_same f g same weeks) refl

pub laid_all : (P : ℕ → Type 0) (f : ℕ → Bool → ℕ) → ((week : ℕ) (works : Bool) → P (f week works)) → (weeks : List ℕ) → AllByRecursion P (laid f weeks)
laid_all P f each [] = tt
laid_all P f each (week ∷ weeks) = (each week true, (each week false, laid_all P f each weeks))

-- one day more of one kind, in one week
abbrev pub with_day : (week : ℕ) → Bool → (ℕ → Bool → ℕ) → ℕ → Bool → ℕ
with_day week works f w b = f w b + cond (eqb week w && cond b works (not works)) 1 0

pub laid_more : (f : ℕ → Bool → ℕ) (week : ℕ) (works : Bool) → week < 6 → laid (with_day week works f) (range_with_len 0 6) ≡ set (laid f (range_with_len 0 6)) (part week works) (get_or (laid f (range_with_len 0 6)) (part week works) 0 + 1)
laid_more f zero true h = simp add-zero
laid_more f zero false h = simp add-zero
laid_more f (suc zero) true h = simp add-zero
laid_more f (suc zero) false h = simp add-zero
laid_more f (suc (suc zero)) true h = simp add-zero
laid_more f (suc (suc zero)) false h = simp add-zero
laid_more f (suc (suc (suc zero))) true h = simp add-zero
laid_more f (suc (suc (suc zero))) false h = simp add-zero
laid_more f (suc (suc (suc (suc zero)))) true h = simp add-zero
laid_more f (suc (suc (suc (suc zero)))) false h = simp add-zero
laid_more f (suc (suc (suc (suc (suc zero))))) true h = simp add-zero
laid_more f (suc (suc (suc (suc (suc zero))))) false h = simp add-zero
laid_more f (suc (suc (suc (suc (suc (suc n)))))) works h = absurd (omega arith)

-- ---- one day of the month more

module _ (first : ℕ) (holidays : List ℕ) (n : ℕ) where
  pub month_more : since_monday first (n + 1) / 7 < 6 → (let k = part (since_monday first (n + 1) / 7) (working first holidays (n + 1)) in by_week first (n + 1) holidays ≡ set (by_week first n holidays) k (get_or (by_week first n holidays) k 0 + 1))
  unfolding by_week
  month_more within =
      laid_same (days_of first (n + 1) holidays) (with_day week works (days_of first n holidays)) (λ w b. count_more (belongs first holidays w b) n) (range_with_len 0 6)
      ∙ laid_more (days_of first n holidays) week works within
    where
      week : ℕ
      week = since_monday first (n + 1) / 7

      works : Bool
      works = working first holidays (n + 1)

  pub length_by_week : length (by_week first n holidays) ≡ 12
  unfolding by_week
  length_by_week = refl

  pub parts_most : AllByRecursion (λ days. days ≤ n) (by_week first n holidays)
  unfolding by_week
  parts_most = laid_all (λ days. days ≤ n) (days_of first n holidays) (λ w b. count_most (belongs first holidays w b) n) (range_with_len 0 6)

  pub part_most : (k : ℕ) → k < 12 → get_or (by_week first n holidays) k 0 ≤ n
  part_most k within = All-get_or (λ days. days ≤ n) (by_week first n holidays) k 0 (omega (arith, length_by_week)) parts_most

-- the counts with one day more, which the program writes in place
pub day_counted : (first day : ℕ) (holidays counts : List ℕ) (k : ℕ) → 1 ≤ day → since_monday first day / 7 < 6 → counts ≡ by_week first (day - 1) holidays → k ≡ part (since_monday first day / 7) (working first holidays day) → set counts k (get_or counts k 0 + 1) ≡ by_week first day holidays
day_counted first day holidays counts k some within counted at =
    let is : day - 1 + 1 ≡ day = omega arith in
    let more = month_more first holidays (day - 1) (omega arith) in
    let here = rw is at more in
    cc

pub month_none : (first : ℕ) (holidays : List ℕ) → by_week first 0 holidays ≡ 0 ∷ 0 ∷ 0 ∷ 0 ∷ 0 ∷ 0 ∷ 0 ∷ 0 ∷ 0 ∷ 0 ∷ 0 ∷ 0 ∷ []
unfolding by_week
month_none first holidays = refl
