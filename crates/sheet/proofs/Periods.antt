-- The priced periods of a month, and its rows found by them.
use Rattle.std.proofs.Common.{◌≡◌, ℕ, zero, suc, ◌+◌, ◌<◌, ◌≤◌, true, eqb, ltb, List, [], ◌∷◌, map, length, Some, None, Option, refl, ap, ⊎_elim, arith}
use Rattle.std.proofs.lemmas.Bool.{eq-eqb, ne_eqb, lt-ltb, ltb-true, and_from, and_parts, cases_eq, cond_both}
use Rattle.std.specs.List.{range_with_len, AllByRecursion}
use Rattle.sheet.specs.Sheet.{priced, row_of, chain}
use Rattle.std.proofs.ByRecursion.{All-weaker}

abbrev pub periods_of : List (ℕ × List ℕ) → List ℕ
periods_of = map (λ p. p.0)

abbrev pub prices_of : List (ℕ × List ℕ) → List (List ℕ)
prices_of = map (λ p. p.1)

pub priced_in : (t : ℕ) (rs : List (Option (List ℕ))) → AllByRecursion (λ p. (t ≤ p) × (p < t + length rs)) (periods_of (priced t rs))
priced_in t [] = tt
priced_in t (None ∷ rs) = All-weaker (λ p. (t + 1 ≤ p) × (p < t + 1 + length rs)) (λ p. (t ≤ p) × (p < t + suc (length rs))) (λ p h. (omega arith, omega arith)) (periods_of (priced (t + 1) rs)) (priced_in (t + 1) rs)
priced_in t (Some r ∷ rs) = ((omega arith, omega arith), All-weaker (λ p. (t + 1 ≤ p) × (p < t + 1 + length rs)) (λ p. (t ≤ p) × (p < t + suc (length rs))) (λ p h. (omega arith, omega arith)) (periods_of (priced (t + 1) rs)) (priced_in (t + 1) rs))

pub priced_after : (t : ℕ) (rs : List (Option (List ℕ))) → AllByRecursion (λ p. t < p) (periods_of (priced (t + 1) rs))
priced_after t rs = All-weaker (λ p. (t + 1 ≤ p) × (p < t + 1 + length rs)) (λ p. t < p) (λ p h. omega arith) (periods_of (priced (t + 1) rs)) (priced_in (t + 1) rs)

pub chain_more : (x : ℕ) (xs : List ℕ) → AllByRecursion (λ y. x < y) xs → chain ltb xs ≡ true → chain ltb (x ∷ xs) ≡ true
chain_more x [] all h = refl
chain_more x (y ∷ ys) all h = and_from (ltb x y) (chain ltb (y ∷ ys)) (lt-ltb x y all.0) h

pub chain_priced : (t : ℕ) (rs : List (Option (List ℕ))) → chain ltb (periods_of (priced t rs)) ≡ true
chain_priced t [] = refl
chain_priced t (None ∷ rs) = chain_priced (t + 1) rs
chain_priced t (Some r ∷ rs) = chain_more t (periods_of (priced (t + 1) rs)) (priced_after t rs) (chain_priced (t + 1) rs)

pub priced_most : (t : ℕ) (rs : List (Option (List ℕ))) → length (priced t rs) ≤ length rs
priced_most t [] = omega arith
priced_most t (None ∷ rs) = let h = priced_most (t + 1) rs in omega arith
priced_most t (Some r ∷ rs) = let h = priced_most (t + 1) rs in omega arith

pub row_before : (t : ℕ) (ps : List ℕ) (rows : List (List ℕ)) → AllByRecursion (λ p. t < p) ps → row_of ps rows t ≡ None
row_before t [] rows all = refl
row_before t (p ∷ ps) [] all = refl
row_before t (p ∷ ps) (row ∷ rows) all = let gt = all.0 in rw (ne_eqb p t (λ e. omega (arith, e))) (row_before t ps rows all.1)

pub rows_skip : (p : ℕ) (row : List ℕ) (ps : List ℕ) (rows : List (List ℕ)) (a n : ℕ) → p < a → map (row_of (p ∷ ps) (row ∷ rows)) (range_with_len a n) ≡ map (row_of ps rows) (range_with_len a n)
rows_skip p row ps rows a zero lt = refl
rows_skip p row ps rows a (suc n) lt = rw (ne_eqb p a (λ e. omega (arith, e)), rows_skip p row ps rows (a + 1) n (omega arith)) refl

pub rows_back : (t : ℕ) (rs : List (Option (List ℕ))) → map (row_of (periods_of (priced t rs)) (prices_of (priced t rs))) (range_with_len t (length rs)) ≡ rs
rows_back t [] = refl
rows_back t (None ∷ rs) = rw (row_before t (periods_of (priced (t + 1) rs)) (prices_of (priced (t + 1) rs)) (priced_after t rs), rows_back (t + 1) rs) refl
rows_back t (Some r ∷ rs) = rw (eq-eqb t t refl, rows_skip t r (periods_of (priced (t + 1) rs)) (prices_of (priced (t + 1) rs)) (t + 1) (length rs) (omega arith), rows_back (t + 1) rs) refl

-- ---- the rows found by rising periods of a month are as many

pub chain_tail : (x : ℕ) (xs : List ℕ) → chain ltb (x ∷ xs) ≡ true → chain ltb xs ≡ true
chain_tail x [] h = refl
chain_tail x (y ∷ ys) h = (and_parts (ltb x y) (chain ltb (y ∷ ys)) h).1

pub chain_above : (x : ℕ) (xs : List ℕ) → chain ltb (x ∷ xs) ≡ true → AllByRecursion (λ y. x < y) xs
chain_above x [] h = tt
chain_above x (y ∷ ys) h =
    let both = and_parts (ltb x y) (chain ltb (y ∷ ys)) h in
    let lt = ltb-true x y both.0 in
    (lt, All-weaker (λ z. y < z) (λ z. x < z) (λ z g. omega arith) ys (chain_above y ys both.1))

pub both_all : {X : Type 0} (P Q : X → Type 0) (xs : List X) → AllByRecursion P xs → AllByRecursion Q xs → AllByRecursion (λ x. P x × Q x) xs
both_all P Q [] p q = tt
both_all P Q (x ∷ xs) p q = ((p.0, q.0), both_all P Q xs p.1 q.1)

abbrev pub Within : ℕ → ℕ → List ℕ → Type 0
Within t n ps = AllByRecursion (λ p. (t ≤ p) × (p < t + n)) ps

pub priced_count : (t n : ℕ) (ps : List ℕ) (rows : List (List ℕ)) → length rows ≡ length ps → chain ltb ps ≡ true → Within t n ps → length (priced t (map (row_of ps rows) (range_with_len t n))) ≡ length ps
priced_count t zero [] rows long rising inside = refl
priced_count t zero (p ∷ ps) rows long rising inside = let here = inside.0 in absurd (omega arith)
priced_count t (suc n) [] rows long rising inside = priced_count (t + 1) n [] rows long rising tt
priced_count t (suc n) (p ∷ ps) [] long rising inside = absurd (omega arith)
priced_count t (suc n) (p ∷ ps) (row ∷ rows) long rising inside =
    let here = inside.0 in
    let above : AllByRecursion (λ y. p < y) ps = chain_above p ps rising in
    let fewer : length rows ≡ length ps = omega arith in
    ⊎_elim
    (λ e.
    let later : Within (t + 1) n ps = All-weaker (λ x. (p < x) × ((t ≤ x) × (x < t + suc n))) (λ x. (t + 1 ≤ x) × (x < t + 1 + n)) (λ x g. (omega arith, omega arith)) ps (both_all (λ x. p < x) (λ x. (t ≤ x) × (x < t + suc n)) ps above inside.1) in
    let next : p < t + 1 = omega (arith, e) in
    rw (eq-eqb p t e, rows_skip p row ps rows (t + 1) n next) (ap suc (priced_count (t + 1) n ps rows fewer (chain_tail p ps rising) later)))
    (λ ne.
    let gt : t < p = omega (arith, ne) in
    let later : Within (t + 1) n (p ∷ ps) = ((omega arith, omega arith), All-weaker (λ x. (p < x) × ((t ≤ x) × (x < t + suc n))) (λ x. (t + 1 ≤ x) × (x < t + 1 + n)) (λ x g. (omega arith, omega arith)) ps (both_all (λ x. p < x) (λ x. (t ≤ x) × (x < t + suc n)) ps above inside.1)) in
    rw (row_before t (p ∷ ps) (row ∷ rows) (gt, All-weaker (λ x. p < x) (λ x. t < x) (λ x g. omega arith) ps above)) (priced_count (t + 1) n (p ∷ ps) (row ∷ rows) long rising later))
    (cases_eq p t)

-- what holds of each row holds of what is found
pub row_of_each : (P : Option (List ℕ) → Type 0) → P None → (ps : List ℕ) (rows : List (List ℕ)) (t : ℕ) → AllByRecursion (λ row. P (Some row)) rows → P (row_of ps rows t)
row_of_each P none [] rows t all = none
row_of_each P none (p ∷ ps) [] t all = none
row_of_each P none (p ∷ ps) (row ∷ rows) t all = let rest = row_of_each P none ps rows t all.1 in cond_both (eqb p t) (Some row) (row_of ps rows t) P (λ _. all.0) (λ _. rest)

pub all_found : {X Y : Type 0} (f : X → Y) (P : Y → Type 0) → ((x : X) → P (f x)) → (xs : List X) → AllByRecursion P (map f xs)
all_found f P h [] = tt
all_found f P h (x ∷ xs) = (h x, all_found f P h xs)
