-- At fixed prices and volumes each product is decided alone: the powers of one product's offers, and which of them go first. Assumes nothing.
use Rattle.std.specs.Prelude.{◌≡◌, ℕ, ◌<◌, Bool, true, false, cond, ◌⊎◌, List, [], ◌∷◌}
use Rattle.sheet.specs.Offer.{Offer}
use Rattle.sheet.specs.declared.product.Product.{Product}
use Rattle.sheet.specs.declared.product.Product.TheVariants.{Rapid}
use Rattle.book.specs.Limits.{is_of}
use Rattle.cost.specs.Rule.{Rule}
use Rattle.clearing.specs.Words.{each, Partners}
use Rattle.clearing.specs.Period.{joining, Marginal, volume, accepted, LawfulPower, charge}

-- ---- what goes first

-- the same, or the larger power at the first place that differs
abbrev pub Ahead : List ℕ → List ℕ → Type 0
Ahead [] [] = Unit {0}
Ahead [] (q ∷ qs) = ⊥
Ahead (p ∷ ps) [] = ⊥
Ahead (p ∷ ps) (q ∷ qs) = (q < p) ⊎ ((p ≡ q) × Ahead ps qs)

-- cheaper, or as cheap and ahead
abbrev pub Leads : (R : Rule) → R.Meaning → List ℕ → R.Meaning → List ℕ → Type 0
Leads R m ps n qs = R.cheaper m n ⊎ ((m ≡ n) × Ahead ps qs)

-- a cheapest of a set of powers
pub record Least (R : Rule) (cost : List ℕ → R.Meaning) (P : List ℕ → Type 0) (ps : List ℕ) : Type 0 where
  pub holds : P ps
  pub least : (qs : List ℕ) → P qs → R.cheaper (cost qs) (cost ps) → ⊥

-- the first among the cheapest
pub record First (R : Rule) (cost : List ℕ → R.Meaning) (P : List ℕ → Type 0) (ps : List ℕ) : Type 0 where
  pub holds : P ps
  pub leads : (qs : List ℕ) → P qs → Leads R (cost ps) ps (cost qs) qs

-- ---- halves

-- the first where the test passes, else the second
abbrev pub Either : Bool → Type 0 → Type 0 → Type 0
Either true A B = A
Either false A B = B

-- the powers of RR offers from the first list, those of RC offers from the second
abbrev pub beside : List Offer → (rr rc : List ℕ) → List ℕ
beside [] us vs = []
beside (o ∷ os) [] vs = []
beside (o ∷ os) (u ∷ us) [] = []
beside (o ∷ os) (u ∷ us) (v ∷ vs) = cond (is_of Rapid o.product) u v ∷ beside os us vs

-- a period of d days, t its number in the month
module _ (d t : ℕ) (offers : List Offer) (product : Product) where
  -- a power for each offer of the product and 0 for the others, lawful at the price, which is the price of these powers, with their volume
  pub record Half (p v : ℕ) (powers : List ℕ) : Type 0 where
    pub lawful : Partners (λ o q. Either (is_of product o.product) (LawfulPower d t (λ _. p) o q) (q ≡ 0)) offers powers
    pub marginal : Marginal (accepted d t product offers powers) p
    pub summed : v ≡ volume product offers powers

  -- only the offers of the product are charged
  abbrev pub half_cost : (R : Rule) (p : ℕ) → List ℕ → R.Meaning
  half_cost R p powers = joining R (each (λ o q. cond (is_of product o.product) (charge d t (λ _. p) R o q) R.nothing) offers powers)
