-- The priced periods of a month.
use Rattle.std.proofs.Common.{◌≡◌, ℕ, ◌+◌, ◌<◌, Bool, true, false, List, [], ◌∷◌, ◌++◌, map, length, get_or, take, is_some, Some, None, Option, refl, ap, ◌∙◌, arith}
use Rattle.std.specs.List.{count_by}
use Rattle.std.proofs.lemmas.List.{append-nil, length-map, length-take-le, map_more}
use Rattle.std.proofs.lemmas.List.Sums.{sum_by_from}
use Rattle.sheet.specs.Facts.{PerRange, row_facts}
use Rattle.sheet.specs.Sheet.{priced}

pub priced_length : (t : ℕ) (rows : List (Option PerRange)) → length (priced t (map row_facts rows)) ≡ count_by is_some rows
priced_length t [] = refl
priced_length t (None ∷ rows) = priced_length (t + 1) rows
priced_length t (Some row ∷ rows) = grind (arith, priced_length (t + 1) rows, sum_by_from)

-- ---- the priced periods of a longer list

pub priced_both : (t : ℕ) (xs ys : List (Option (List ℕ))) → priced t (xs ++ ys) ≡ priced t xs ++ priced (t + length xs) ys
priced_both t [] ys = ap (λ k. priced k ys) (omega arith)
priced_both t (None ∷ xs) ys = priced_both (t + 1) xs ys ∙ ap (λ k. priced (t + 1) xs ++ priced k ys) (omega arith)
priced_both t (Some row ∷ xs) ys = ap (λ l. (t, row) ∷ l) (priced_both (t + 1) xs ys ∙ ap (λ k. priced (t + 1) xs ++ priced k ys) (omega arith))

-- the priced periods of one row more
pub priced_more : (rows : List (Option PerRange)) (i : ℕ) → i < length rows → priced 1 (map row_facts (take (i + 1) rows)) ≡ priced 1 (map row_facts (take i rows)) ++ priced (1 + i) (row_facts (get_or rows i None) ∷ [])
priced_more rows i h =
    let before = map row_facts (take i rows) in
    let row = row_facts (get_or rows i None) in
    let long : length before ≡ i = length-map (take i rows) row_facts ∙ length-take-le i rows (omega arith) in
    ap (priced 1) (map_more row_facts rows i None h) ∙ priced_both 1 before (row ∷ []) ∙ ap (λ k. priced 1 before ++ priced (1 + k) (row ∷ [])) long

pub priced_none : (k : ℕ) (row : Option PerRange) → is_some row ≡ false → priced k (row_facts row ∷ []) ≡ []
priced_none k None h = refl
priced_none k (Some r) h = absurd (let z : ◌≡◌ {A = Bool} true false = h in grind arith)

pub priced_some : (k : ℕ) (row : Option PerRange) → is_some row ≡ true → map (λ p. p.0) (priced k (row_facts row ∷ [])) ≡ k ∷ []
priced_some k None h = absurd (let z : ◌≡◌ {A = Bool} false true = h in grind arith)
priced_some k (Some r) h = refl

module _ (rows : List (Option PerRange)) (i : ℕ) (h : i < length rows) where
  -- a row with no prices adds nothing
  pub same_more : is_some (get_or rows i None) ≡ false → priced 1 (map row_facts (take (i + 1) rows)) ≡ priced 1 (map row_facts (take i rows))
  same_more none =
      let before = priced 1 (map row_facts (take i rows)) in
      priced_more rows i h ∙ ap (λ l. before ++ l) (priced_none (1 + i) (get_or rows i None) none) ∙ append-nil before
