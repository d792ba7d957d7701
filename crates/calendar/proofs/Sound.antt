-- What the periods of every month keep: one to seven days each, all days of the month together, at most eleven.
use Rattle.std.proofs.Common.{◌≡◌, ℕ, zero, suc, ◌+◌, ◌-◌, ◌*◌, ◌/◌, ◌<◌, ◌≤◌, Bool, true, false, cond, not, ◌&&◌, eqb, ltb, List, [], ◌∷◌, length, get_or, take, sum, count_by, filter, refl, ap, ◌∙◌, subst, ⊎_elim, add-one, arith, rules, tests, length-drop, length-take-le}
use Rattle.std.specs.List.{range_with_len, AllByRecursion}
use Rattle.std.proofs.lemmas.Grind.{common_steps}
use Rattle.std.proofs.lemmas.List.Sums.{sum_by-set, sum_by-take-drop, sum_by-drop_more, count_by-le-length, length-filter}
use Rattle.std.proofs.lemmas.List.{take_all}
use Rattle.std.proofs.ByRecursion.{all_kept_by, kept_by_passes}
use Rattle.std.proofs.lemmas.Bool.{cases_lt}
use Rattle.calendar.specs.Kept.{Kept, week_long, sound}
use Rattle.calendar.specs.Periods.{since_monday, working, belongs, days_of, part, by_week, periods}
use Rattle.calendar.proofs.ByWeek.{count_more, laid_all, month_more, month_none, length_by_week}

-- ---- a week has seven days

week_grows : (first week n count : ℕ) (other : Bool) → (count ≤ first + n - 7 * week) × (count ≤ 7) → (let more = count + cond (eqb (since_monday first (n + 1) / 7) week && other) 1 0 in (more ≤ first + (n + 1) - 7 * week) × (more ≤ 7))
week_grows first week n count other (low, high) = (grind (arith, common_steps), grind (arith, common_steps))

week_most : (first : ℕ) (holidays : List ℕ) (week : ℕ) (works : Bool) (n : ℕ) → (days_of first n holidays week works ≤ first + n - 7 * week) × (days_of first n holidays week works ≤ 7)
week_most first holidays week works zero = (omega arith, omega arith)
week_most first holidays week works (suc n) =
    subst (λ k. (days_of first k holidays week works ≤ first + k - 7 * week) × (days_of first k holidays week works ≤ 7)) (add-one n)
    (let other = cond works (working first holidays (n + 1)) (not (working first holidays (n + 1))) in
    let grown = week_grows first week n (days_of first n holidays week works) other (week_most first holidays week works n) in
    let more = count_more (belongs first holidays week works) n in
    (omega (arith, grown.0, more), omega (arith, grown.1, more)))

-- ---- the days of all weeks are the month's

sum_kept : (xs : List ℕ) → sum (filter (ltb 0) xs) ≡ sum xs
sum_kept [] = refl
sum_kept (x ∷ xs) = grind (arith, common_steps, sum_kept xs)

part_within : (week : ℕ) (works : Bool) → week < 6 → part week works < 12
part_within week true within = omega arith
part_within week false within = omega arith

module _ (first : ℕ) (holidays : List ℕ) (early : first < 7) where
  sum_by_week : (n : ℕ) → n ≤ 31 → sum (by_week first n holidays) ≡ n
  sum_by_week zero short = ap sum (month_none first holidays)
  sum_by_week (suc n) short = subst (λ k. sum (by_week first k holidays) ≡ k) (add-one n)
      (let within : since_monday first (n + 1) / 7 < 6 = omega arith in
      let k = part (since_monday first (n + 1) / 7) (working first holidays (n + 1)) in
      let more = ap sum (month_more first holidays n within) in
      let inside : k < length (by_week first n holidays) = rw (length_by_week first holidays n) (part_within (since_monday first (n + 1) / 7) (working first holidays (n + 1)) within) in
      let one = sum_by-set (λ days. days) (by_week first n holidays) k (get_or (by_week first n holidays) k 0 + 1) 0 inside in
      omega (arith, more, one, sum_by_week n (omega arith)))

-- ---- one of the twelve parts is empty

count_short : (test : ℕ → Bool) (xs : List ℕ) (k : ℕ) → k < length xs → test (get_or xs k 0) ≡ false → count_by test xs < length xs
count_short test xs k within fails =
    let worth : ℕ → ℕ = λ x. cond (test x) 1 0 in
    let nothing : worth (get_or xs k 0) ≡ 0 = rw fails refl in
    grind (arith, sum_by-take-drop worth xs k, sum_by-drop_more worth xs k 0 within, count_by-le-length, length-take-le, length-drop)

count_none : (test : ℕ → Bool) (n : ℕ) → ((day : ℕ) → 1 ≤ day → day ≤ n → test day ≡ false) → count_by test (range_with_len 1 n) ≡ 0
count_none test zero never = refl
count_none test (suc n) never = subst (λ k. count_by test (range_with_len 1 k) ≡ 0) (add-one n)
    (let nothing : ◌≡◌ {A = ℕ} (cond (test (n + 1)) 1 0) 0 = rw (never (n + 1) (omega arith) (omega arith)) refl in
    omega (arith, count_more test n, count_none test n (λ day low high. never day low (omega arith))))

-- a first week that begins with a Saturday or a Sunday has no working day
weekend_first : (first n : ℕ) (holidays : List ℕ) → 5 ≤ first → first < 7 → days_of first n holidays 0 true ≡ 0
weekend_first first n holidays late early = count_none (belongs first holidays 0 true) n never
  where
    never : (day : ℕ) → 1 ≤ day → day ≤ n → belongs first holidays 0 true day ≡ false
    never day low high = grind (arith, common_steps)

-- a month that begins before that has no sixth week
no_sixth : (first n : ℕ) (holidays : List ℕ) → first < 5 → n ≤ 31 → days_of first n holidays 5 true ≡ 0
no_sixth first n holidays early short = count_none (belongs first holidays 5 true) n never
  where
    never : (day : ℕ) → 1 ≤ day → day ≤ n → belongs first holidays 5 true day ≡ false
    never day low high = grind (arith, common_steps)

empty_part : (first n : ℕ) (holidays : List ℕ) → first < 7 → n ≤ 31 → (k : ℕ) × (k < 12) × (get_or (by_week first n holidays) k 0 ≡ 0)
unfolding by_week
empty_part first n holidays early short = ⊎_elim
    (λ weekday. (10, omega arith, no_sixth first n holidays weekday short))
    (λ weekend. (0, omega arith, weekend_first first n holidays weekend early))
    (cases_lt first 5)

pub few_periods : (first n : ℕ) (holidays : List ℕ) → first < 7 → n ≤ 31 → length (periods first n holidays) ≤ 11
few_periods first n holidays early short =
    let (k, within, nothing) = empty_part first n holidays early short in
    let long = length_by_week first holidays n in
    omega (arith, length-filter (ltb 0) (by_week first n holidays), count_short (ltb 0) (by_week first n holidays) k (omega arith) (rw nothing refl))

pub all_few : (first n : ℕ) (holidays : List ℕ) → first < 7 → n ≤ 31 → take 11 (periods first n holidays) ≡ periods first n holidays
all_few first n holidays early short = take_all 11 (periods first n holidays) (few_periods first n holidays early short)

-- ---- together

week_long_from : (counts : List ℕ) → AllByRecursion (λ count. (1 ≤ count) × (count ≤ 7)) counts → week_long counts ≡ true
week_long_from [] each = refl
week_long_from (count ∷ counts) (here, rest) = grind (arith, common_steps, week_long_from counts rest)

module _ (first n : ℕ) (holidays : List ℕ) (early : first < 7) (some : 1 ≤ n) (short : n ≤ 31) where
  whole : sum (periods first n holidays) ≡ n
  whole = sum_kept (by_week first n holidays) ∙ sum_by_week first holidays early n short

  some_period : (counts : List ℕ) → sum counts ≡ n → 1 ≤ length counts
  some_period [] is = absurd (omega arith)
  some_period (count ∷ counts) is = omega arith

  both : (counts : List ℕ) → AllByRecursion (λ count. ltb 0 count ≡ true) counts → AllByRecursion (λ count. count ≤ 7) counts → AllByRecursion (λ count. (1 ≤ count) × (count ≤ 7)) counts
  both [] low high = tt
  both (count ∷ counts) (low, lows) (high, highs) = ((search (rules, tests), high), both counts lows highs)

  seven_most : AllByRecursion (λ count. count ≤ 7) (by_week first n holidays)
  unfolding by_week
  seven_most = laid_all (λ count. count ≤ 7) (days_of first n holidays) (λ week works. (week_most first holidays week works n).1) (range_with_len 0 6)

  pub kept : Kept n (periods first n holidays)
  kept = record {
    some_period = some_period (periods first n holidays) whole;
    few_periods = few_periods first n holidays early short;
    each_period = both (periods first n holidays) (kept_by_passes (ltb 0) (by_week first n holidays)) (all_kept_by (ltb 0) (λ count. count ≤ 7) (by_week first n holidays) seven_most);
    whole_month = whole;
  }

  pub is_sound : sound (periods first n holidays) ≡ true
  is_sound =
      let counts = periods first n holidays in
      let facts = kept in
      let each = week_long_from counts kept.each_period in
      grind (arith, common_steps)
