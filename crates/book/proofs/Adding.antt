-- A share of each offer, added up.
use Rattle.std.proofs.Common.{◌≡◌, ℕ, ◌+◌, ◌<◌, Option, fold, List, ◌++◌, map, sum, sym, refl, ap, ◌∙◌, arith}
use Rattle.std.proofs.lemmas.List.Sums.{sum-map}
use Rattle.std.proofs.lemmas.List.Recursion.{is_sum_by}
use Rattle.std.proofs.lemmas.List.{map-append}
use Rattle.std.specs.Borrow.{Bor}
use Rattle.std.specs.Iterator.Runs.{WholeRun, EachRunFrom}
use Rattle.std.specs.Fn.{Mut, FnReturnsAt}
use denote.Param.Members.{MutLaws, FnLaws}
use Rattle.sheet.specs.declared.offer.Offer.{Offer as Kept}
use Rattle.sheet.specs.Facts.{facts}
use Rattle.sheet.specs.Offer.{Offer, total}

-- a call of an `Fn` at a reference leaves it as it is
pub returned_at : {F X R : Type 0} (g : Mut F (Bor X × Unit {0}) R) → MutLaws g → FnLaws g → (f : F) (x : Bor X) (r : R) (f' : F) → g.steps f (x, tt) r f' → (f' ≡ f) × FnReturnsAt g f x.now r
returned_at g law stays f x r f' step =
    (stays.step_stays f (x, tt) r f' (record { met = step }), record { shown = x; shows = refl; says = record { met = (law.post_iff f (x, tt) r).1 (f', record { met = step }) } })

-- what a whole run adds up is below what each run stays below
pub run_below : {S : Type 0} {steps : S → Option ℕ → S → Type 0} {s : S} (r top : ℕ) → WholeRun steps s (λ p. r ≡ fold (λ a x. a + x) 0 p.items) → EachRunFrom steps s (λ p. fold (λ a x. a + x) 0 p.items < top) → r < top
run_below r top run fits = omega (arith, fits run.0 run.0.seen run.1, run.3)

-- the sum of std is the crate's own
pub sum_total : (xs : List ℕ) → sum xs ≡ total xs
sum_total xs = sym (is_sum_by total (λ n. n) refl (λ _ _. refl) xs)

-- what is added up of the offers before a place and those after it
pub sum_shares : (of : Offer → ℕ) (before after : List Kept) → sum (map (λ o. of (facts o)) (before ++ after)) ≡ total (map of (map facts before ++ map facts after))
sum_shares of before after =
    sum-map (λ o. of (facts o)) (before ++ after)
    ∙ sym (is_sum_by (λ (os : List Kept). total (map of (map facts os))) (λ o. of (facts o)) refl (λ _ _. refl) (before ++ after))
    ∙ ap (λ os. total (map of os)) (map-append facts before after)
