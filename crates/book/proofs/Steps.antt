-- A call on a register is the roll's own step.
use Rattle.std.proofs.Common.{◌≡◌, ℕ, zero, suc, ◌-◌, ◌≤◌, List, [], ◌∷◌, ◌++◌, take, set, Ok, Err, Result, sym, refl, ap, ◌∙◌, subst, arith}
use Rattle.std.proofs.lemmas.Bool.{le-leb}
use Rattle.book.specs.declared.need.Need.{Need}
use Rattle.sheet.specs.Offer.{Offer}
use Rattle.sheet.specs.Sheet.{read_alone}
use Rattle.sheet.specs.declared.fault.SheetFault.{SheetFault}
use Rattle.text.specs.Judging.{◌>>=◌, ◌>>◌, must}
use Rattle.book.specs.Calls.{amendable, withdrawable, if_ok}
use Rattle.book.specs.Fault.{of_sheet}
use Rattle.book.specs.Register.{answer_of}
use Rattle.book.specs.Roll.{Roll, stands, others, beside, admitted, replaced, entered, amended, withdrawn}
use Rattle.book.specs.Step.{Step, Changed, enter, amend, withdraw, need, accepted}
use Rattle.book.specs.declared.fault.RegisterFault.{RegisterFault}
use Rattle.book.specs.declared.fault.RegisterFault.TheVariants.{Unknown}

-- a call that is refused, or leaves the roll that it makes
pub changed : (e : Result Roll RegisterFault) (roll next : Roll) (r : Result (Unit {0}) RegisterFault) (after : Roll) → e ≡ (r >> Ok next) → after ≡ if_ok r next roll → Changed e roll (answer_of r) after
changed e roll next (Ok u) after is then = subst (λ e'. Changed e' roll accepted after) (sym is) (refl, then)
changed e roll next (Err fault) after is then = subst (λ e'. Changed e' roll (answer_of (Err fault)) after) (sym is) (refl, then)

-- the list after a call that may be refused, in its roll
split : (roll : Roll) (next : List Offer) (r : Result (Unit {0}) RegisterFault) → ◌≡◌ {A = Roll} (record { offers = if_ok r next roll.offers; needs = roll.needs }) (if_ok r (record { offers = next; needs = roll.needs }) roll)
split roll next (Ok u) = refl
split roll next (Err fault) = refl

pub from_sheet : (r : Result Offer SheetFault) (o : Offer) → Ok o ≡ of_sheet r → r ≡ Ok o
from_sheet (Ok p) o is = cc
from_sheet (Err fault) o is = let z : ◌≡◌ {A = ℕ} 0 1 = cc in absurd (omega arith)

module _ (T : ℕ) (roll : Roll) (text : List ℕ) where
  pub enter_broken : (fault : RegisterFault) → Err fault ≡ of_sheet (read_alone T text) → Step T roll (enter text) (answer_of (Err fault)) roll
  enter_broken fault broken = changed (entered T roll text) roll roll (Err fault) roll (rw (← broken) refl) refl

  pub amend_broken : (fault : RegisterFault) → Err fault ≡ of_sheet (read_alone T text) → Step T roll (amend text) (answer_of (Err fault)) roll
  amend_broken fault broken = changed (amended T roll text) roll roll (Err fault) roll (rw (← broken) refl) refl

  module _ (o : Offer) (sheet : Ok o ≡ of_sheet (read_alone T text)) (r : Result (Unit {0}) RegisterFault) (offers : List Offer) where
    pub enter_judged : r ≡ admitted T roll.offers o → offers ≡ if_ok r (roll.offers ++ (o ∷ [])) roll.offers → Step T roll (enter text) (answer_of r) (record { offers = offers; needs = roll.needs })
    enter_judged judged then =
        changed (entered T roll text) roll (record { offers = roll.offers ++ (o ∷ []); needs = roll.needs }) r (record { offers = offers; needs = roll.needs })
        (rw (← sheet) (go (admitted T roll.offers o) judged))
        (ap (λ (os : List Offer). record { offers = os; needs = roll.needs }) then ∙ split roll (roll.offers ++ (o ∷ [])) r)
      where
        go : (a : Result (Unit {0}) RegisterFault) → r ≡ a → ◌≡◌ {A = Result Roll RegisterFault} ((a >> Ok (roll.offers ++ (o ∷ []))) >>= (λ offers. Ok (record { offers = offers; needs = roll.needs }))) (r >> Ok (record { offers = roll.offers ++ (o ∷ []); needs = roll.needs }))
        go (Ok u) is = rw is refl
        go (Err fault) is = rw is refl

    pub amend_judged : r ≡ amendable T roll.offers o → offers ≡ if_ok r (replaced o roll.offers) roll.offers → Step T roll (amend text) (answer_of r) (record { offers = offers; needs = roll.needs })
    amend_judged judged then =
        changed (amended T roll text) roll (record { offers = replaced o roll.offers; needs = roll.needs }) r (record { offers = offers; needs = roll.needs })
        (rw (← sheet) (go (must (stands o.name o.number roll.offers) Unknown) (beside T (others o.name o.number roll.offers) o) judged))
        (ap (λ (os : List Offer). record { offers = os; needs = roll.needs }) then ∙ split roll (replaced o roll.offers) r)
      where
        go : (a b : Result (Unit {0}) RegisterFault) → r ≡ (a >> b) → ◌≡◌ {A = Result Roll RegisterFault} (a >> (b >> Ok (record { offers = replaced o roll.offers; needs = roll.needs }))) (r >> Ok (record { offers = replaced o roll.offers; needs = roll.needs }))
        go (Ok u) (Ok v) is = rw is refl
        go (Ok u) (Err fault) is = rw is refl
        go (Err fault) b is = rw is refl

pub withdraw_judged : (T : ℕ) (roll : Roll) (name : List ℕ) (number : ℕ) (r : Result (Unit {0}) RegisterFault) (offers : List Offer) → r ≡ withdrawable name number roll.offers → offers ≡ if_ok r (others name number roll.offers) roll.offers → Step T roll (withdraw name number) (answer_of r) (record { offers = offers; needs = roll.needs })
withdraw_judged T roll name number r offers judged then =
    changed (withdrawn T roll name number) roll (record { offers = others name number roll.offers; needs = roll.needs }) r (record { offers = offers; needs = roll.needs })
    (ap (λ (a : Result (Unit {0}) RegisterFault). a >> Ok (record { offers = others name number roll.offers; needs = roll.needs })) (sym judged))
    (ap (λ (os : List Offer). record { offers = os; needs = roll.needs }) then ∙ split roll (others name number roll.offers) r)

set_within : {X : Type 0} (n : ℕ) (xs : List X) (i : ℕ) (x : X) → take n (set xs i x) ≡ set (take n xs) i x
set_within zero xs i x = refl
set_within (suc n) [] i x = refl
set_within (suc n) (y ∷ ys) zero x = refl
set_within (suc n) (y ∷ ys) (suc i) x = ap (λ rest. y ∷ rest) (set_within n ys i x)

pub need_set : (T : ℕ) (offers : List Offer) (needs : List Need) (t rr rc : ℕ) → 1 ≤ t → t ≤ T → rr ≤ 1000 → rc ≤ 1000 → Step T (record { offers = offers; needs = take T needs }) (need t rr rc) accepted (record { offers = offers; needs = take T (set needs (t - 1) (record { rapid = rr; complementary = rc })) })
need_set T offers needs t rr rc low high rr_low rc_low =
    rw (le-leb 1 t low, le-leb t T high, le-leb rr 1000 rr_low, le-leb rc 1000 rc_low)
    (refl, ap (λ (ns : List Need). record { offers = offers; needs = ns }) (set_within T needs (t - 1) (record { rapid = rr; complementary = rc })))
