-- The first cheapest of a list of costs. Assumes nothing.
use Rattle.std.specs.Prelude.{◌≡◌, ℕ, ◌<◌, List, length, Option, MatchOption, slice_index_or}
use Rattle.cost.specs.Rule.{Rule}

-- the first cheapest of the first n costs stands at r
pub record Cheapest (R : Rule) {C : Type 0} (meaning : C → R.Meaning) (costs : List C) (n r : ℕ) : Type 0 where
  pub among : r < n
  -- none is cheaper
  pub least : (k : ℕ) (d : C) → k < n → R.cheaper (meaning (slice_index_or costs k d)) (meaning (slice_index_or costs r d)) → ⊥
  -- each one before it is dearer
  pub first : (k : ℕ) (d : C) → k < r → R.cheaper (meaning (slice_index_or costs r d)) (meaning (slice_index_or costs k d))

abbrev pub FirstCheapest : (R : Rule) {C : Type 0} → (C → R.Meaning) → List C → ℕ → Type 0
FirstCheapest R meaning costs r = Cheapest R meaning costs (length costs) r

-- what a scan answers: where the first cheapest cost stands, or none where there is no cost
abbrev pub Scanned : (R : Rule) {C : Type 0} → (C → R.Meaning) → List C → Option ℕ → Type 0
Scanned R meaning costs r = MatchOption r (length costs ≡ 0) (FirstCheapest R meaning costs)
