-- What an accepted call says of its parts.
use Rattle.std.proofs.Common.{◌≡◌, ℕ, ◌-◌, ◌<◌, ◌≤◌, Bool, true, false, not, ◌&&◌, ltb, leb, ◌⊎◌, List, [], ◌∷◌, ◌++◌, length, set, Ok, Err, Result, sym, refl, ap, ◌∙◌, inl, inr}
use Rattle.std.proofs.lemmas.Bool.{ltb-true, leb-true, and_parts, not-true}
use Rattle.text.specs.Form.{between}
use Rattle.text.specs.Judging.{◌>>=◌, ◌>>◌, must}
use Rattle.sheet.specs.Offer.{Offer}
use Rattle.sheet.specs.Sheet.{read_alone}
use Rattle.sheet.specs.declared.fault.SheetFault.{SheetFault}
use Rattle.book.specs.Fault.{number_and_place, of_sheet}
use Rattle.book.specs.Limits.{most_offers}
use Rattle.book.specs.Needs.{highest_need}
use Rattle.book.specs.Roll.{Roll, stands, others, replaced, beside, admitted, with, entered, amended, withdrawn, needed}
use Rattle.book.specs.Step.{Answer, accepted, refusal, Changed}
use Rattle.book.specs.declared.fault.RegisterFault.{RegisterFault}
use Rattle.book.specs.declared.fault.RegisterFault.TheVariants.{Known, Unknown, Full, Period}

pub bind_parts : {X Y F : Type 0} (r : Result X F) (next : X → Result Y F) (y : Y) → (r >>= next) ≡ Ok y → (x : X) × (r ≡ Ok x) × (next x ≡ Ok y)
bind_parts (Ok x) next y h = (x, refl, h)
bind_parts (Err f) next y h = absurd (cc)

pub then_parts : {Y F : Type 0} (r : Result (Unit {0}) F) (next : Result Y F) (y : Y) → (r >> next) ≡ Ok y → (r ≡ Ok tt) × (next ≡ Ok y)
then_parts (Ok tt) next y h = (refl, h)
then_parts (Err f) next y h = absurd (cc)

pub must_parts : {Y F : Type 0} (b : Bool) (f : F) (next : Result Y F) (y : Y) → (must b f >> next) ≡ Ok y → (b ≡ true) × (next ≡ Ok y)
must_parts true f next y h = (refl, h)
must_parts false f next y h = absurd (cc)

pub ok_same : {X F : Type 0} (x y : X) → ◌≡◌ {A = Result X F} (Ok x) (Ok y) → x ≡ y
ok_same x y e = cc

pub of_sheet_parts : {X : Type 0} (r : Result X SheetFault) (x : X) → of_sheet r ≡ Ok x → r ≡ Ok x
of_sheet_parts (Ok y) x h = cc
of_sheet_parts (Err f) x h = absurd (cc)

pub changed_parts : (r : Result Roll RegisterFault) (roll : Roll) (a : Answer) (after : Roll) → Changed r roll a after →
    ((r ≡ Ok after) × (a ≡ accepted)) ⊎ ((f : RegisterFault) × (a ≡ refusal (number_and_place f)) × (after ≡ roll))
changed_parts (Ok next) roll a after h = inl (ap Ok (sym h.1), h.0)
changed_parts (Err f) roll a after h = inr (f, h.0, h.1)

module _ (T : ℕ) where
  -- an offer that may enter
  pub record Admitted (offers : List Offer) (o : Offer) : Type 0 where
    pub new_one : stands o.name o.number offers ≡ false
    pub room : length offers < most_offers
    pub within : beside T offers o ≡ Ok tt

  pub admitted_parts : (offers : List Offer) (o : Offer) → admitted T offers o ≡ Ok tt → Admitted offers o
  admitted_parts offers o h =
      let p = must_parts (not (stands o.name o.number offers)) Known _ tt h in
      let q = must_parts (ltb (length offers) most_offers) Full _ tt p.1 in
      record { new_one = not-true _ p.0; room = ltb-true _ _ q.0; within = q.1 }

  pub with_parts : (offers : List Offer) (o : Offer) (after : List Offer) → with T offers o ≡ Ok after → Admitted offers o × (after ≡ offers ++ (o ∷ []))
  with_parts offers o after h =
      let p = then_parts (admitted T offers o) _ after h in
      (admitted_parts offers o p.0, sym (ok_same {F = RegisterFault} _ _ p.1))

  module _ (roll : Roll) where
    pub record Entered (text : List ℕ) (after : Roll) : Type 0 where
      pub offer : Offer
      pub sheet : read_alone T text ≡ Ok offer
      pub enters : Admitted roll.offers offer
      pub joins : with T roll.offers offer ≡ Ok after.offers
      pub made : after ≡ record { offers = roll.offers ++ (offer ∷ []); needs = roll.needs }

    pub entered_parts : (text : List ℕ) (after : Roll) → entered T roll text ≡ Ok after → Entered text after
    entered_parts text after h =
        let p = bind_parts (of_sheet (read_alone T text)) _ after h in
        let o = p.0 in
        let q = bind_parts (with T roll.offers o) _ after p.2 in
        let w = with_parts roll.offers o q.0 q.1 in
        let e = q.2 in
        let f = w.1 in
        let made : after ≡ record { offers = roll.offers ++ (o ∷ []); needs = roll.needs } = cc in
        record { offer = o; sheet = of_sheet_parts _ o p.1; enters = w.0; joins = q.1 ∙ ap Ok (f ∙ sym (ap (λ r. r.offers) made)); made = made }

    pub record Amended (text : List ℕ) (after : Roll) : Type 0 where
      pub offer : Offer
      pub sheet : read_alone T text ≡ Ok offer
      pub known : stands offer.name offer.number roll.offers ≡ true
      pub within : beside T (others offer.name offer.number roll.offers) offer ≡ Ok tt
      pub made : after ≡ record { offers = replaced offer roll.offers; needs = roll.needs }

    pub amended_parts : (text : List ℕ) (after : Roll) → amended T roll text ≡ Ok after → Amended text after
    amended_parts text after h =
        let p = bind_parts (of_sheet (read_alone T text)) _ after h in
        let o = p.0 in
        let q = must_parts (stands o.name o.number roll.offers) Unknown _ after p.2 in
        let r = then_parts (beside T (others o.name o.number roll.offers) o) _ after q.1 in
        record { offer = o; sheet = of_sheet_parts _ o p.1; known = q.0; within = r.0; made = sym (ok_same {F = RegisterFault} _ _ r.1) }

    pub withdrawn_parts : (name : List ℕ) (number : ℕ) (after : Roll) → withdrawn T roll name number ≡ Ok after →
        (stands name number roll.offers ≡ true) × (after ≡ record { offers = others name number roll.offers; needs = roll.needs })
    withdrawn_parts name number after h =
        let p = must_parts (stands name number roll.offers) Unknown _ after h in
        (p.0, sym (ok_same {F = RegisterFault} _ _ p.1))

    pub needed_parts : (t rr rc : ℕ) (after : Roll) → needed T roll t rr rc ≡ Ok after →
        (1 ≤ t) × (t ≤ T) × (after ≡ record { offers = roll.offers; needs = set roll.needs (t - 1) (record { rapid = rr; complementary = rc }) })
    needed_parts t rr rc after h =
        let p = must_parts (between 1 T t && leb rr highest_need && leb rc highest_need) (Period t) _ after h in
        let q = and_parts (between 1 T t && leb rr highest_need) (leb rc highest_need) p.0 in
        let b = and_parts (between 1 T t) (leb rr highest_need) q.0 in
        let c = and_parts (leb 1 t) (leb t T) b.0 in
        (leb-true _ _ c.0, leb-true _ _ c.1, sym (ok_same {F = RegisterFault} _ _ p.1))
