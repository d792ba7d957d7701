-- The award of a month: which blocks are taken, and the award named for each period from the book that they leave. Assumes nothing.
use Rattle.std.specs.Prelude.{◌≡◌, ℕ, ◌+◌, ◌-◌, ◌*◌, ◌<◌, Bool, true, false, cond, ◌⊎◌, List, [], ◌∷◌, ◌++◌, map, pos, ◌≤ℤ◌, Some, None, Option, int_lt, slice_index}
use Rattle.sheet.specs.Offer.{Offer, total, width}
use Rattle.sheet.specs.declared.product.Product.{Product}
use Rattle.sheet.specs.declared.product.Product.TheVariants.{Rapid, Complementary}
use Rattle.book.specs.Limits.{count}
use Rattle.book.specs.Needs.{need_of}
use Rattle.book.specs.declared.need.Need.{Need}
use Rattle.cost.specs.Rule.{Rule}
use Rattle.book.specs.Taken.{choices, takes, taken}
use Rattle.clearing.specs.Words.{together, each, Partners}
use Rattle.clearing.specs.Criterion.{criterion, pay}
use Rattle.clearing.specs.Period.{joining, Award, price, Cover, volume, Named, NothingAdmitted}

-- what a period without blocks has to cover
abbrev pub cover_of : Need → Cover
cover_of n = record { rr = n.rapid; both = n.rapid + n.complementary }

-- ---- a choice of blocks

-- what a choice makes of an offer's block, with its price
pub data Block : Type 0 where
  none : Block
  chosen : (price : ℕ) → Block
  other : (price : ℕ) → Block

abbrev pub block_of : Option ℕ → (is_taken : Bool) → Block
block_of None is_taken = none
block_of (Some p) true = chosen p
block_of (Some p) false = other p

module _ (offers : List Offer) (choice : ℕ) where
  -- what the periods' own awards are named from
  abbrev pub remaining : List Offer
  remaining = taken choice offers

  -- what the choice makes of each offer
  abbrev pub blocks : List Block
  blocks = each (λ o is_taken. block_of o.block is_taken) offers (takes choice offers)

  abbrev pub blocks_taken : ℕ
  blocks_taken = count (λ is_taken. is_taken) (takes choice offers)

  -- MW of the taken blocks of a product
  abbrev pub taken_mw : Product → ℕ
  taken_mw product = volume product offers (each (λ o is_taken. cond is_taken (width o) 0) offers (takes choice offers))

  -- what the periods' own awards have still to cover: RR blocks serve the RR need and both needs together, RC blocks only these
  abbrev pub still : Need → Cover
  still n = record { rr = n.rapid - taken_mw Rapid; both = (n.rapid + n.complementary) - (taken_mw Rapid + taken_mw Complementary) }

-- ---- the award

pub record MonthAward (R : Rule) : Type 0 where
  pub choice : ℕ
  -- prices, volumes and powers of each period; blocks are no part of them
  pub periods : List (Award R)
  pub month_cost : R.Meaning
  -- what each offer is paid for the month
  pub month_pays : List ℕ

-- the sum of a product's prices over the month
abbrev pub prices_sum : {R : Rule} → List (Award R) → Product → ℕ
prices_sum awards product = total (map (λ a. price a product) awards)

-- each offer's pay for its block and in each period, added up
abbrev pub added_up : {R : Rule} → List ℕ → List (Award R) → List ℕ
added_up pays [] = pays
added_up pays (a ∷ as') = each ◌+◌ a.pays (added_up pays as')

-- by the month's days and the awards of its periods
module _ (R : Rule) (days : List ℕ) (awards : List (Award R)) where
  -- a taken block's criterion over all days may equal the sum, and not exceed it
  abbrev pub BlockAdmitted : Offer → Block → Type 0
  BlockAdmitted o none = Unit {0}
  BlockAdmitted o (chosen p) = criterion o (total days) p ≤ℤ pos (prices_sum awards o.product)
  BlockAdmitted o (other p) = Unit {0}

  -- a taken block is charged in each period, any other once, with its MW left out if its criterion is below the sum
  abbrev pub block_charges : Offer → Block → List R.Meaning
  block_charges o none = []
  block_charges o (chosen p) = map (λ a. R.charged (price a o.product) (width o) 0) awards
  block_charges o (other p) = R.charged 0 0 (cond (int_lt (criterion o (total days) p) (pos (prices_sum awards o.product))) (width o) 0) ∷ []

  abbrev pub block_paid : Offer → Block → ℕ
  block_paid o none = 0
  block_paid o (chosen p) = width o * pay o (total days) (prices_sum awards o.product)
  block_paid o (other p) = 0

-- cheaper; of equal cost, fewer blocks; of as many, the smaller set number
abbrev pub BeforeMonth : {R : Rule} → List Offer → MonthAward R → MonthAward R → Type 0
BeforeMonth {R} offers a b =
    R.cheaper a.month_cost b.month_cost ⊎ ((a.month_cost ≡ b.month_cost) ×
    ((blocks_taken offers a.choice < blocks_taken offers b.choice) ⊎ ((blocks_taken offers a.choice ≡ blocks_taken offers b.choice) ×
    (a.choice < b.choice))))

module _ (R : Rule) (days : List ℕ) (offers : List Offer) (needs : List Need) where
  -- the award named for period t of d days from the book that the choice leaves
  abbrev pub NamedPeriod : (choice d t : ℕ) → Award R → Type 0
  NamedPeriod choice d t a = Named d t (remaining offers choice) R (still offers choice (need_of needs t)) a

  -- so for each of these periods, from t on
  abbrev pub NamedPeriods : (choice t : ℕ) → List ℕ → List (Award R) → Type 0
  NamedPeriods choice t [] [] = Unit {0}
  NamedPeriods choice t [] (a ∷ as') = ⊥
  NamedPeriods choice t (d ∷ ds) [] = ⊥
  NamedPeriods choice t (d ∷ ds) (a ∷ as') = NamedPeriod choice d t a × NamedPeriods choice (t + 1) ds as'

  pub record AdmittedMonth (a : MonthAward R) : Type 0 where
    pub choice_of_these : a.choice < choices offers
    pub named : NamedPeriods a.choice 1 days a.periods
    pub blocks_admitted : Partners (BlockAdmitted R days a.periods) offers (blocks offers a.choice)
    pub costed : a.month_cost ≡ joining R (map (λ p. p.cost) a.periods ++ together (each (block_charges R days a.periods) offers (blocks offers a.choice)))
    pub settled : a.month_pays ≡ added_up (each (block_paid R days a.periods) offers (blocks offers a.choice)) a.periods

  pub record NamedMonth (a : MonthAward R) : Type 0 where
    pub admitted : AdmittedMonth a
    pub first : (b : MonthAward R) → AdmittedMonth b → BeforeMonth offers b a → ⊥

  abbrev pub NothingAdmittedMonth : Type 0
  NothingAdmittedMonth = (a : MonthAward R) → AdmittedMonth a → ⊥

  -- period t has no award when no block is taken
  abbrev pub Short : ℕ → Type 0
  Short t = NothingAdmitted (slice_index days (t - 1)) t offers R (cover_of (need_of needs t))
