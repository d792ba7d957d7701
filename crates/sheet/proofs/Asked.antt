-- Sums of widths.
use Rattle.std.proofs.Common.{◌≡◌, ℕ, suc, ◌+◌, ◌*◌, ◌≤◌, List, [], ◌∷◌, length, get_or, sum, Fits, w32, refl, sym, ap, ◌∙◌, arith}
use Rattle.std.proofs.lemmas.List.Sums.{sum_by-cons}
use Rattle.sheet.specs.Offer.{total}

pub total_sum : (widths : List ℕ) → total widths ≡ sum widths
total_sum [] = refl
total_sum (width ∷ widths) = ap (λ n. width + n) (total_sum widths) ∙ sym (sum_by-cons (λ x. x) width widths)

pub total_most : (widths : List ℕ) → ((i : ℕ) → Fits w32 (get_or widths i 0)) → total widths ≤ length widths * 4294967296
total_most [] small = omega arith
total_most (width ∷ widths) small =
    let rest = total_most widths (λ i. small (suc i)) in
    let here = small 0 in
    omega (arith, rest, here)
