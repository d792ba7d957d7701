-- A clearing has one answer. Assumes nothing.
use Rattle.std.proofs.Common.{◌≡◌, ℕ, ◌-◌, List, get_or, Ok, Err, Result, sym, refl, ap, ◌∙◌}
use Rattle.sheet.specs.Offer.{Offer}
use Rattle.book.specs.declared.need.Need.{Need}
use Rattle.cost.specs.Rule.{Rule}
use Rattle.clearing.specs.declared.fault.ClearingFault.{ClearingFault}
use Rattle.clearing.specs.declared.fault.ClearingFault.TheVariants.{Period, Space, Shortage}
use Rattle.clearing.specs.Period.{Award}
use Rattle.clearing.specs.Month.{cover_of, MonthAward}
use Rattle.clearing.specs.Answer.{Earliest, PeriodAnswer, MonthAnswer}
use Rattle.clearing.proofs.Unique.{same_numbers, one_named, one_named_month}

one_earliest : (In P : ℕ → Type 0) (p q : ℕ) → Earliest In P p → Earliest In P q → p ≡ q
one_earliest In P p q h k = same_numbers p q (λ l. k.2 p h.0 l h.1) (λ l. h.2 q k.0 l k.1)

module _ (R : Rule) (days : List ℕ) (offers : List Offer) (costs wholes : ℕ) where
  pub one_period_answer : (t : ℕ) (n : Need) (x y : Result (Award R) ClearingFault) → PeriodAnswer R days offers costs wholes t n x → PeriodAnswer R days offers costs wholes t n y → x ≡ y
  one_period_answer t n (Err (Period p)) (Err (Period q)) h k = ap (λ v. Err (Period v)) (h.0 ∙ sym k.0)
  one_period_answer t n (Err (Period p)) (Err Space) h k = absurd (h.1 k.0)
  one_period_answer t n (Err (Period p)) (Err (Shortage q)) h k = absurd (h.1 k.1)
  one_period_answer t n (Err (Period p)) (Ok b) h k = absurd (h.1 k.0)
  one_period_answer t n (Err Space) (Err (Period q)) h k = absurd (k.1 h.0)
  one_period_answer t n (Err Space) (Err Space) h k = refl
  one_period_answer t n (Err Space) (Err (Shortage q)) h k = absurd (h.1 k.2)
  one_period_answer t n (Err Space) (Ok b) h k = absurd (h.1 k.1)
  one_period_answer t n (Err (Shortage p)) (Err (Period q)) h k = absurd (k.1 h.1)
  one_period_answer t n (Err (Shortage p)) (Err Space) h k = absurd (k.1 h.2)
  one_period_answer t n (Err (Shortage p)) (Err (Shortage q)) h k = ap (λ v. Err (Shortage v)) (h.0 ∙ sym k.0)
  one_period_answer t n (Err (Shortage p)) (Ok b) h k = absurd (h.3 b k.2.admitted)
  one_period_answer t n (Ok a) (Err (Period q)) h k = absurd (k.1 h.0)
  one_period_answer t n (Ok a) (Err Space) h k = absurd (k.1 h.1)
  one_period_answer t n (Ok a) (Err (Shortage q)) h k = absurd (k.3 a h.2.admitted)
  one_period_answer t n (Ok a) (Ok b) h k = ap Ok (one_named (get_or days (t - 1) 0) t offers R (cover_of n) a b h.2 k.2)

  pub one_month_answer : (needs : List Need) (x y : Result (MonthAward R) ClearingFault) → MonthAnswer R days offers costs wholes needs x → MonthAnswer R days offers costs wholes needs y → x ≡ y
  one_month_answer needs (Err (Period p)) (Err (Period q)) h k = ap (λ v. Err (Period v)) (one_earliest _ _ p q h k)
  one_month_answer needs (Err (Period p)) (Err Space) h k = absurd (h.1 (k.0 p h.0))
  one_month_answer needs (Err (Period p)) (Err (Shortage q)) h k = absurd (h.1 (k.0 p h.0))
  one_month_answer needs (Err (Period p)) (Ok b) h k = absurd (h.1 (k.0 p h.0))
  one_month_answer needs (Err Space) (Err (Period q)) h k = absurd (k.1 (h.0 q k.0))
  one_month_answer needs (Err Space) (Err Space) h k = refl
  one_month_answer needs (Err Space) (Err (Shortage q)) h k = absurd (h.1 k.1)
  one_month_answer needs (Err Space) (Ok b) h k = absurd (h.1 k.1)
  one_month_answer needs (Err (Shortage p)) (Err (Period q)) h k = absurd (k.1 (h.0 q k.0))
  one_month_answer needs (Err (Shortage p)) (Err Space) h k = absurd (k.1 h.1)
  one_month_answer needs (Err (Shortage p)) (Err (Shortage q)) h k = ap (λ v. Err (Shortage v)) (one_earliest _ _ p q h.3 k.3)
  one_month_answer needs (Err (Shortage p)) (Ok b) h k = absurd (h.2 b k.2.admitted)
  one_month_answer needs (Ok a) (Err (Period q)) h k = absurd (k.1 (h.0 q k.0))
  one_month_answer needs (Ok a) (Err Space) h k = absurd (k.1 h.1)
  one_month_answer needs (Ok a) (Err (Shortage q)) h k = absurd (k.2 a h.2.admitted)
  one_month_answer needs (Ok a) (Ok b) h k = ap Ok (one_named_month R days offers needs a b h.2 k.2)
