-- What is proved of the definitions themselves, for every cost rule. Assumes nothing.
use Rattle.std.specs.Prelude.{◌≡◌, ℕ, ◌+◌, ◌<◌, ◌≤◌, ◌⊎◌, List, take, pos, Result, count_ones}
use Rattle.std.specs.List.{ContainsAt as Has, AllByRecursion}
use Rattle.sheet.specs.Offer.{Offer, total}
use Rattle.sheet.specs.declared.product.Product.{Product}
use Rattle.sheet.specs.declared.product.Product.TheVariants.{Rapid, Complementary}
use Rattle.book.specs.declared.need.Need.{Need}
use Rattle.cost.specs.Rule.{Rule}
use Rattle.clearing.specs.declared.fault.ClearingFault.{ClearingFault}
use Rattle.book.specs.Taken.{choices, taken}
use Rattle.clearing.specs.Words.{Partners, SomePartner}
use Rattle.clearing.specs.Criterion.{worth, pay, mw_prices, megawatts}
use Rattle.clearing.specs.Period.{Award, price, Cover, part, Whole, whole_cost, Admitted, Named}
use Rattle.clearing.specs.Month.{cover_of, Block, none, chosen, other, blocks, blocks_taken, still, MonthAward, prices_sum, AdmittedMonth, NamedMonth}
use Rattle.clearing.specs.Answer.{PeriodAnswer, MonthAnswer}
use Rattle.clearing.specs.Halves.{First, beside, Half, half_cost}

-- ---- one answer

module _ (R : Rule) where
  abbrev pub OneAward : Type 0
  OneAward = (d t : ℕ) (offers : List Offer) (cover : Cover) (a b : Award R) → Named d t offers R cover a → Named d t offers R cover b → a ≡ b

  abbrev pub OneMonthAward : Type 0
  OneMonthAward = (days : List ℕ) (offers : List Offer) (needs : List Need) (a b : MonthAward R) → NamedMonth R days offers needs a → NamedMonth R days offers needs b → a ≡ b

  abbrev pub OnePeriodAnswer : Type 0
  OnePeriodAnswer =
      (days : List ℕ) (offers : List Offer) (costs wholes t : ℕ) (n : Need) (x y : Result (Award R) ClearingFault) →
      PeriodAnswer R days offers costs wholes t n x → PeriodAnswer R days offers costs wholes t n y → x ≡ y

  abbrev pub OneMonthAnswer : Type 0
  OneMonthAnswer =
      (days : List ℕ) (offers : List Offer) (costs wholes : ℕ) (needs : List Need) (x y : Result (MonthAward R) ClearingFault) →
      MonthAnswer R days offers costs wholes needs x → MonthAnswer R days offers costs wholes needs y → x ≡ y

-- ---- prices

-- a product's price is 0, or the positive criterion of an accepted MW of one of its offers
abbrev pub PriceReached : Rule → Type 0
PriceReached R =
    (d t : ℕ) (offers : List Offer) (cover : Cover) (a : Award R) → Admitted d t offers R cover a → (product : Product) →
    (price a product ≡ 0) ⊎ ((0 < price a product) ×
    SomePartner (λ o q. (o.product ≡ product) × Has (take q (megawatts d t o)) (pos (price a product))) offers a.powers)

-- ---- pay

-- every accepted MW of an offer in a period is paid at least its price
abbrev pub UnitsPaid : Rule → Type 0
UnitsPaid R =
    (d t : ℕ) (offers : List Offer) (cover : Cover) (a : Award R) → Admitted d t offers R cover a →
    Partners (λ o q. AllByRecursion (λ x. x ≤ pay o d (price a o.product)) (take q (mw_prices t o))) offers a.powers

-- and in full: what an observed offer is paid less is never above what it is taken from
abbrev pub UnitsPaidWhole : Rule → Type 0
UnitsPaidWhole R =
    (d t : ℕ) (offers : List Offer) (cover : Cover) (a : Award R) → Admitted d t offers R cover a →
    Partners (λ o q. 0 < q → worth o.observed d ≤ price a o.product + worth o.short d) offers a.powers

-- a taken block is paid at least its price, and in full
abbrev pub BlockWellPaid : {R : Rule} → (days : List ℕ) → List (Award R) → Offer → Block → Type 0
BlockWellPaid days awards o none = Unit {0}
BlockWellPaid days awards o (chosen p) =
    (p ≤ pay o (total days) (prices_sum awards o.product)) × (worth o.observed (total days) ≤ prices_sum awards o.product + worth o.short (total days))
BlockWellPaid days awards o (other p) = Unit {0}

abbrev pub BlocksPaid : Rule → Type 0
BlocksPaid R =
    (days : List ℕ) (offers : List Offer) (needs : List Need) (a : MonthAward R) → AdmittedMonth R days offers needs a →
    Partners (BlockWellPaid days a.periods) offers (blocks offers a.choice)

-- ---- halves, at the prices rr and rc and the volumes v and w

-- the cost of a whole is that of its two parts
abbrev pub CostSplits : Rule → Type 0
CostSplits R =
    (d t : ℕ) (offers : List Offer) (rr rc : ℕ) (powers : List ℕ) →
    whole_cost d t offers R rr rc powers ≡ R.joined (half_cost d t offers Rapid R rr (part Rapid offers powers)) (half_cost d t offers Complementary R rc (part Complementary offers powers))

-- for the first among the cheapest, and for the cheapest
module _ (R : Rule) (Best : (cost : List ℕ → R.Meaning) (P : List ℕ → Type 0) → List ℕ → Type 0) where
  -- the best RR half beside the best RC half is the best whole
  abbrev pub HalvesJoin : Type 0
  HalvesJoin =
      (d t : ℕ) (offers : List Offer) (rr rc v w : ℕ) (us vs : List ℕ) →
      Best (half_cost d t offers Rapid R rr) (Half d t offers Rapid rr v) us →
      Best (half_cost d t offers Complementary R rc) (Half d t offers Complementary rc w) vs →
      Best (whole_cost d t offers R rr rc) (Whole d t offers rr rc v w) (beside offers us vs)

  -- the parts of these powers are the best halves, and side by side they are these powers
  pub record OfHalves (d t : ℕ) (offers : List Offer) (rr rc v w : ℕ) (powers : List ℕ) : Type 0 where
    pub rr_best : Best (half_cost d t offers Rapid R rr) (Half d t offers Rapid rr v) (part Rapid offers powers)
    pub rc_best : Best (half_cost d t offers Complementary R rc) (Half d t offers Complementary rc w) (part Complementary offers powers)
    pub both : beside offers (part Rapid offers powers) (part Complementary offers powers) ≡ powers

  -- the best whole is made of best halves
  abbrev pub WholeSplits : Type 0
  WholeSplits =
      (d t : ℕ) (offers : List Offer) (rr rc v w : ℕ) (powers : List ℕ) →
      Best (whole_cost d t offers R rr rc) (Whole d t offers rr rc v w) powers → OfHalves d t offers rr rc v w powers

-- the named award is made of the first halves at its own prices and volumes
abbrev pub NamedSplits : Rule → Type 0
NamedSplits R =
    (d t : ℕ) (offers : List Offer) (cover : Cover) (a : Award R) → Named d t offers R cover a →
    OfHalves R (First R) d t offers a.rr_price a.rc_price a.rr_volume a.rc_volume a.powers

-- ---- a choice of blocks

-- where no block is taken, the book and what is to be covered are the period's own
abbrev pub NoneTaken : Type 0
NoneTaken = (offers : List Offer) (n : Need) → (taken 0 offers ≡ offers) × (still offers 0 n ≡ cover_of n)

-- as many blocks are taken as the set number has ones
abbrev pub OnesTaken : Type 0
OnesTaken = (offers : List Offer) (choice : ℕ) → choice < choices offers → blocks_taken offers choice ≡ count_ones choice
