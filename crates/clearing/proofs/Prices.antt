-- A product's price is 0 or the criterion of one of its accepted MW. Assumes nothing.
use Rattle.std.proofs.Common.{◌≡◌, ℕ, zero, suc, ◌<◌, cond, ◌⊎◌, List, [], ◌∷◌, take, ℤ, pos, refl, inl, inr, arith}
use Rattle.std.specs.List.{ContainsAt as Has}
use Rattle.std.proofs.ByRecursion.{has_append_cases}
use Rattle.sheet.specs.Offer.{Offer}
use Rattle.sheet.specs.declared.product.Product.{Product}
use Rattle.sheet.specs.declared.product.Product.TheVariants.{Rapid, Complementary}
use Rattle.book.specs.Limits.{is_of}
use Rattle.cost.specs.Rule.{Rule}
use Rattle.clearing.specs.Words.{SomePartner}
use Rattle.clearing.specs.Criterion.{megawatts}
use Rattle.clearing.specs.Period.{Marginal, accepted}
use Rattle.clearing.specs.Laws.{PriceReached}

has_none : {X : Type 0} (x : X) → Has [] x → ⊥
has_none x h = let l = h.1 in omega arith

own : (product other : Product) (cs : List ℤ) (c : ℤ) → Has (cond (is_of product other) cs []) c → (other ≡ product) × Has cs c
own Rapid Rapid cs c h = (refl, h)
own Rapid Complementary cs c h = absurd (has_none c h)
own Complementary Rapid cs c h = absurd (has_none c h)
own Complementary Complementary cs c h = (refl, h)

module _ (d t : ℕ) (product : Product) (c : ℤ) where
  -- an accepted MW is one of some offer
  of_some_offer : (offers : List Offer) (powers : List ℕ) → Has (accepted d t product offers powers) c → SomePartner (λ o q. (o.product ≡ product) × Has (take q (megawatts d t o)) c) offers powers
  of_some_offer [] powers h = has_none c h
  of_some_offer (o ∷ os) [] h = has_none c h
  of_some_offer (o ∷ os) (q ∷ qs) h =
      elim (has_append_cases (cond (is_of product o.product) (take q (megawatts d t o)) []) (accepted d t product os qs) c h) [
        | inl k ↦ inl (own product o.product (take q (megawatts d t o)) c k)
        | inr k ↦ inr (of_some_offer os qs k)
      ]

  zero_or_reached : (offers : List Offer) (powers : List ℕ) (p : ℕ) → c ≡ pos p → Marginal (accepted d t product offers powers) p →
      (p ≡ 0) ⊎ ((0 < p) × SomePartner (λ o q. (o.product ≡ product) × Has (take q (megawatts d t o)) c) offers powers)
  zero_or_reached offers powers zero e m = inl refl
  zero_or_reached offers powers (suc p) e m = elim m.reached [ inl k ↦ inl k | inr h ↦ inr (omega arith, of_some_offer offers powers (rw e h)) ]

pub price_reached : (R : Rule) → PriceReached R
price_reached R d t offers cover a h Rapid = zero_or_reached d t Rapid (pos a.rr_price) offers a.powers a.rr_price refl h.whole.rr_marginal
price_reached R d t offers cover a h Complementary = zero_or_reached d t Complementary (pos a.rc_price) offers a.powers a.rc_price refl h.whole.rc_marginal
