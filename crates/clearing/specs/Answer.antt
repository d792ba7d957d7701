-- What a clearing answers: one award or one refusal, for every book, every rule and every need. Assumes nothing.
use Rattle.std.specs.Prelude.{◌≡◌, ℕ, ◌+◌, ◌-◌, ◌*◌, ◌<◌, ◌≤◌, max, List, length, Ok, Err, Result, slice_index}
use Rattle.sheet.specs.Offer.{Offer}
use Rattle.sheet.specs.declared.product.Product.TheVariants.{Rapid, Complementary}
use Rattle.book.specs.Limits.{breadth, InMonth}
use Rattle.book.specs.Needs.{highest_need, need_of}
use Rattle.book.specs.declared.need.Need.{Need}
use Rattle.cost.specs.Rule.{Rule}
use Rattle.clearing.specs.declared.fault.ClearingFault.{ClearingFault}
use Rattle.clearing.specs.declared.fault.ClearingFault.TheVariants.{Period, Space, Shortage}
use Rattle.clearing.specs.Period.{Award, Named, NothingAdmitted}
use Rattle.clearing.specs.Month.{cover_of, MonthAward, NamedMonth, NothingAdmittedMonth, Short}

-- the first of the places in question at which P holds
abbrev pub Earliest : (ℕ → Type 0) → (ℕ → Type 0) → ℕ → Type 0
Earliest In P p = In p × P p × ((t : ℕ) → In t → t < p → P t → ⊥)

-- no need is too high
abbrev pub Bounded : Need → Type 0
Bounded n = (n.rapid ≤ highest_need) × (n.complementary ≤ highest_need)

-- rows of cells for each offer, and for one more
abbrev pub rows_per_offer : ℕ
rows_per_offer = 8

-- the cells that each grid must have, by the number of offers and the larger product's whole width
abbrev pub cells : List Offer → ℕ
cells offers = rows_per_offer * (length offers + 1) * (max (breadth Rapid offers) (breadth Complementary offers) + 1)

-- both grids reach it: that of costs and that of whole numbers
abbrev pub Roomy : List Offer → (costs wholes : ℕ) → Type 0
Roomy offers costs wholes = (cells offers ≤ costs) × (cells offers ≤ wholes)

module _ (R : Rule) (days : List ℕ) (offers : List Offer) (costs wholes : ℕ) where
  -- period t of the month, with its needs
  module _ (t : ℕ) (n : Need) where
    abbrev pub Fit : Type 0
    Fit = InMonth days t × Bounded n

    abbrev pub PeriodAnswer : Result (Award R) ClearingFault → Type 0
    PeriodAnswer (Err (Period p)) = (p ≡ t) × (Fit → ⊥)
    PeriodAnswer (Err Space) = Fit × (Roomy offers costs wholes → ⊥)
    PeriodAnswer (Err (Shortage p)) = (p ≡ t) × Fit × Roomy offers costs wholes × NothingAdmitted (slice_index days (t - 1)) t offers R (cover_of n)
    PeriodAnswer (Ok a) = Fit × Roomy offers costs wholes × Named (slice_index days (t - 1)) t offers R (cover_of n) a

  -- the month, with its needs by period
  module _ (needs : List Need) where
    abbrev pub FitNeed : ℕ → Type 0
    FitNeed t = Bounded (need_of needs t)

    abbrev pub FitMonth : Type 0
    FitMonth = (t : ℕ) → InMonth days t → FitNeed t

    abbrev pub MonthAnswer : Result (MonthAward R) ClearingFault → Type 0
    MonthAnswer (Err (Period p)) = Earliest (InMonth days) (λ t. FitNeed t → ⊥) p
    MonthAnswer (Err Space) = FitMonth × (Roomy offers costs wholes → ⊥)
    MonthAnswer (Err (Shortage p)) = FitMonth × Roomy offers costs wholes × NothingAdmittedMonth R days offers needs × Earliest (InMonth days) (Short R days offers needs) p
    MonthAnswer (Ok a) = FitMonth × Roomy offers costs wholes × NamedMonth R days offers needs a
