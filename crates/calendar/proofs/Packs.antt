-- Periods that have days, packed one after another.
use Rattle.std.proofs.Common.{◌≡◌, ℕ, zero, suc, ◌+◌, ◌<◌, ◌≤◌, true, ◌&&◌, ltb, leb, List, [], ◌∷◌, ◌++◌, length, get_or, take, sum, filter, refl, ap, append-nil}
use Rattle.std.proofs.lemmas.List.Elements.{filter_more}
use Rattle.std.proofs.lemmas.Bool.{leb-true, lt-ltb, le-ltb, and_parts}
use Rattle.calendar.specs.Kept.{sound, week_long}

-- ---- what the test says

module _ (counts : List ℕ) (passes : sound counts ≡ true) where
  first_three : (leb 1 (length counts) && leb (length counts) 11 && leb (sum counts) 31) ≡ true
  first_three = (and_parts (leb 1 (length counts) && leb (length counts) 11 && leb (sum counts) 31) (week_long counts) passes).0

  first_two : (leb 1 (length counts) && leb (length counts) 11) ≡ true
  first_two = (and_parts (leb 1 (length counts) && leb (length counts) 11) (leb (sum counts) 31) first_three).0

  pub some_periods : 1 ≤ length counts
  some_periods = leb-true 1 (length counts) (and_parts (leb 1 (length counts)) (leb (length counts) 11) first_two).0

  pub few_periods : length counts ≤ 11
  few_periods = leb-true (length counts) 11 (and_parts (leb 1 (length counts)) (leb (length counts) 11) first_two).1

  pub month_most : sum counts ≤ 31
  month_most = leb-true (sum counts) 31 (and_parts (leb 1 (length counts) && leb (length counts) 11) (leb (sum counts) 31) first_three).1

-- ---- a turn

take_front : (n : ℕ) (xs ys : List ℕ) → take n (take n xs ++ ys) ≡ take n (xs ++ ys)
take_front zero xs ys = refl
take_front (suc n) [] ys = refl
take_front (suc n) (x ∷ xs) ys = ap (λ rest. x ∷ rest) (take_front n xs ys)

module _ (n : ℕ) (days parts : List ℕ) (i : ℕ) (within : i < length parts) (so_far : days ≡ take n (filter (ltb 0) (take i parts))) where
  pub packed_more : 0 < get_or parts i 0 → take n (days ++ (get_or parts i 0 ∷ [])) ≡ take n (filter (ltb 0) (take (i + 1) parts))
  packed_more some =
      rw (so_far, take_front, filter_more (ltb 0) parts i 0 within, lt-ltb 0 (get_or parts i 0) some) refl

  pub packed_same : get_or parts i 0 ≤ 0 → days ≡ take n (filter (ltb 0) (take (i + 1) parts))
  packed_same none =
      rw (so_far, filter_more (ltb 0) parts i 0 within, le-ltb 0 (get_or parts i 0) none, append-nil) refl
