-- The values of a line, judged one after another.
use Rattle.std.proofs.Common.{◌≡◌, ℕ, zero, suc, sum, ◌*◌, ◌^◌, ◌<◌, ◌≤◌, Bool, true, false, ◌&&◌, eqb, leb, List, [], ◌∷◌, length, get_or, sym, refl, add-one, arith}
use Rattle.std.proofs.lemmas.List.Recursion.{is_sum_by}
use Rattle.std.proofs.lemmas.Bool.{and_from, and_left, and_parts, and_right}
use Rattle.std.proofs.lemmas.List.Sums.{sum_by-le}
use Rattle.std.proofs.ByRecursion.{All-get_or}
use Rattle.std.specs.List.{AllByRecursion, IsAllAdjacentAnswer}
use Rattle.text.proofs.FormKeeps.{within_from}
use Rattle.sheet.specs.Limits.{widest, highest_price}
use Rattle.sheet.proofs.Each.{all_from_every}
use Rattle.text.specs.Form.{between}
use Rattle.sheet.specs.Offer.{total}
use Rattle.sheet.specs.Sheet.{every, chain, widths_fit}

-- what a test of each with the next answered
pub chain_answered : (tied : ℕ → ℕ → Bool) (xs : List ℕ) (r : Bool) → IsAllAdjacentAnswer (λ x y b. b ≡ tied x y) xs r → r ≡ chain tied xs
chain_answered tied xs true h = all_tied xs (λ k d lt. rw add-one at (h k d (omega arith)))
  where
    all_tied : (xs : List ℕ) → ((k d : ℕ) → suc k < length xs → true ≡ tied (get_or xs k d) (get_or xs (suc k) d)) → true ≡ chain tied xs
    all_tied [] h = refl
    all_tied (x ∷ []) h = refl
    all_tied (x ∷ y ∷ ys) h = sym (and_from (tied x y) (chain tied (y ∷ ys)) (sym (h 0 0 (omega arith))) (sym (all_tied (y ∷ ys) (λ k d lt. h (suc k) d (omega arith)))))
chain_answered tied xs false h = one_not xs h.0 (omega (arith, h.1)) (λ d. rw add-one at (h.2 d))
  where
    one_not : (xs : List ℕ) (k : ℕ) → suc k < length xs → ((d : ℕ) → false ≡ tied (get_or xs k d) (get_or xs (suc k) d)) → false ≡ chain tied xs
    one_not [] k lt h = absurd (omega arith)
    one_not (x ∷ []) k lt h = absurd (omega arith)
    one_not (x ∷ y ∷ ys) zero lt h = sym (and_left (tied x y) (chain tied (y ∷ ys)) (sym (h 0)))
    one_not (x ∷ y ∷ ys) (suc k) lt h = sym (and_right (tied x y) (chain tied (y ∷ ys)) (sym (one_not (y ∷ ys) k (omega arith) h)))

pub total_is_sum : (xs : List ℕ) → total xs ≡ sum xs
total_is_sum xs = is_sum_by total (λ x. x) refl (λ _ _. refl) xs

pub sum_small : (xs : List ℕ) → length xs ≤ 11 → AllByRecursion (λ v. v < 10 ^ 10) xs → sum xs < 2 ^ 64
sum_small xs few all =
    let most : sum xs ≤ length xs * 10 ^ 10 = sum_by-le (λ x. x) (10 ^ 10) xs (λ k d lt. let here = All-get_or (λ v. v < 10 ^ 10) xs k d lt all in omega arith) in
    omega (arith, most)

-- ---- values that were judged fit their place

pub widths_small : (floor : ℕ) (ws : List ℕ) → widths_fit floor ws ≡ true → AllByRecursion (λ w. w < 2 ^ 32) ws
widths_small floor ws h =
    let first = (and_parts (every (between 1 widest) ws && eqb (get_or ws 0 0) floor) (leb (total ws) widest) h).0 in
    let each = (and_parts (every (between 1 widest) ws) (eqb (get_or ws 0 0) floor) first).0 in
    all_from_every (between 1 widest) (λ w. w < 2 ^ 32) (λ w t. let most = within_from 1 widest w t in omega arith) ws each

pub prices_small : (ps : List ℕ) → every (between 0 highest_price) ps ≡ true → AllByRecursion (λ p. p < 2 ^ 32) ps
prices_small ps h = all_from_every (between 0 highest_price) (λ p. p < 2 ^ 32) (λ p t. let most = within_from 0 highest_price p t in omega arith) ps h
