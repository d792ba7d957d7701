-- The award of one period, for any cost rule: what is lawful, what is admitted, what goes first, and the award so named. Assumes nothing.
use Rattle.std.specs.Prelude.{◌≡◌, ℕ, zero, suc, ◌+◌, ◌*◌, ◌<◌, ◌≤◌, Bool, false, cond, ◌⊎◌, List, [], ◌∷◌, take, ℤ, pos, negsuc, ◌≤ℤ◌, ◌==◌, int_lt}
use Rattle.std.specs.List.{ContainsAt as Has, AllByRecursion}
use Rattle.sheet.specs.Offer.{Offer, total}
use Rattle.sheet.specs.declared.product.Product.{Product}
use Rattle.sheet.specs.declared.product.Product.TheVariants.{Rapid, Complementary}
use Rattle.book.specs.Limits.{count, is_of}
use Rattle.cost.specs.Rule.{Rule}
use Rattle.clearing.specs.Words.{together, each, Partners, Lower}
use Rattle.clearing.specs.Criterion.{pay, megawatts}

-- many costs joined
abbrev pub joining : (R : Rule) → List R.Meaning → R.Meaning
joining R [] = R.nothing
joining R (x ∷ xs) = R.joined x (joining R xs)

-- ---- the award

pub record Award (R : Rule) : Type 0 where
  pub rr_price : ℕ
  pub rc_price : ℕ
  pub rr_volume : ℕ
  pub rc_volume : ℕ
  -- accepted MW of each offer, in book order
  pub powers : List ℕ
  pub cost : R.Meaning
  -- what each offer is paid
  pub pays : List ℕ

abbrev pub of_product : (rr rc : ℕ) → Product → ℕ
of_product rr rc Rapid = rr
of_product rr rc Complementary = rc

abbrev pub price : {R : Rule} → Award R → Product → ℕ
price a product = of_product a.rr_price a.rc_price product

-- what is to be covered: by RR alone, and by both products together
pub record Cover : Type 0 where
  pub rr : ℕ
  pub both : ℕ

-- ---- one offer at a marginal price p

-- MW under the price must be accepted, unless the offer's floor is above this
abbrev pub binding_floor : ℕ
binding_floor = 10

-- the accepted powers that are lawful for an offer of that floor with so many MW under the price and so many at it
abbrev pub Lawful : (floor under at : ℕ) → ℕ → Type 0
Lawful floor (suc u) at power = ((suc u ≤ power) × (power ≤ suc u + at)) ⊎ ((power ≡ 0) × (binding_floor < floor))
Lawful floor zero (suc a) power = (power ≡ 0) ⊎ ((floor ≤ power) × (power ≤ suc a))
Lawful floor zero zero power = power ≡ 0

-- the MW under the price are left out where nothing is accepted
abbrev pub left_out : (under : ℕ) → ℕ → ℕ
left_out under zero = under
left_out under (suc power) = 0

abbrev pub equals : ℕ → ℤ → Bool
equals p (pos c) = c == p
equals p (negsuc c) = false

-- the larger of 0 and the highest criterion among these MW
pub record Marginal (accepted : List ℤ) (p : ℕ) : Type 0 where
  pub none_above : AllByRecursion (λ c. c ≤ℤ pos p) accepted
  pub reached : (p ≡ 0) ⊎ Has accepted (pos p)

-- the powers of the offers of a product, and 0 for the others
abbrev pub part : Product → List Offer → List ℕ → List ℕ
part product offers powers = each (λ o q. cond (is_of product o.product) q 0) offers powers

-- MW of one product
abbrev pub volume : Product → List Offer → List ℕ → ℕ
volume product offers powers = total (part product offers powers)

-- ---- a period: its days and its number in the month
module _ (d t : ℕ) where
  -- MW with a criterion below p
  abbrev pub under : Offer → (p : ℕ) → ℕ
  under o p = count (λ c. int_lt c (pos p)) (megawatts d t o)

  -- MW with the criterion p
  abbrev pub at : Offer → (p : ℕ) → ℕ
  at o p = count (equals p) (megawatts d t o)

  -- the criteria of the accepted MW of a product: the first so many of each of its offers
  abbrev pub accepted : Product → List Offer → List ℕ → List ℤ
  accepted product offers powers = together (each (λ o q. cond (is_of product o.product) (take q (megawatts d t o)) []) offers powers)

  -- at the marginal prices of the two products
  module _ (prices : Product → ℕ) where
    abbrev pub LawfulPower : Offer → ℕ → Type 0
    LawfulPower o q = Lawful o.floor (under o (prices o.product)) (at o (prices o.product)) q

    abbrev pub charge : (R : Rule) → Offer → ℕ → R.Meaning
    charge R o q = R.charged (prices o.product) q (left_out (under o (prices o.product)) q)

    abbrev pub paid : Offer → ℕ → ℕ
    paid o q = q * pay o d (prices o.product)

  module _ (offers : List Offer) where
    -- a power for each offer, lawful at the two prices, which are the prices of these powers, with the two volumes
    pub record Whole (rr rc rr_volume rc_volume : ℕ) (powers : List ℕ) : Type 0 where
      pub lawful : Partners (LawfulPower (of_product rr rc)) offers powers
      pub rr_marginal : Marginal (accepted Rapid offers powers) rr
      pub rc_marginal : Marginal (accepted Complementary offers powers) rc
      pub rr_summed : rr_volume ≡ volume Rapid offers powers
      pub rc_summed : rc_volume ≡ volume Complementary offers powers

    module _ (R : Rule) where
      -- every offer is charged, also one that is not offered in the period
      abbrev pub whole_cost : (rr rc : ℕ) → List ℕ → R.Meaning
      whole_cost rr rc powers = joining R (each (charge (of_product rr rc) R) offers powers)

      module _ (cover : Cover) where
        pub record Admitted (a : Award R) : Type 0 where
          pub whole : Whole a.rr_price a.rc_price a.rr_volume a.rc_volume a.powers
          pub rr_covered : cover.rr ≤ a.rr_volume
          pub both_covered : cover.both ≤ a.rr_volume + a.rc_volume
          pub costed : a.cost ≡ whole_cost a.rr_price a.rc_price a.powers
          pub settled : a.pays ≡ each (paid (price a)) offers a.powers

        abbrev pub NothingAdmitted : Type 0
        NothingAdmitted = (a : Award R) → Admitted a → ⊥

-- in the order of the ties
abbrev pub prices_and_volumes : {R : Rule} → Award R → List ℕ
prices_and_volumes a = a.rr_price ∷ a.rc_price ∷ a.rr_volume ∷ a.rc_volume ∷ []

-- cheaper; of equal cost, lower prices and volumes; of equal ones, the larger power at the first offer that differs
abbrev pub Before : {R : Rule} → Award R → Award R → Type 0
Before {R} a b =
    R.cheaper a.cost b.cost ⊎ ((a.cost ≡ b.cost) ×
    (Lower (prices_and_volumes a) (prices_and_volumes b) ⊎ ((prices_and_volumes a ≡ prices_and_volumes b) ×
    Lower b.powers a.powers)))

pub record Named (d t : ℕ) (offers : List Offer) (R : Rule) (cover : Cover) (a : Award R) : Type 0 where
  pub admitted : Admitted d t offers R cover a
  pub first : (b : Award R) → Admitted d t offers R cover b → Before b a → ⊥
