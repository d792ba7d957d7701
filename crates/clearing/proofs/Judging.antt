-- Tests that compute what the definitions of a period's award ask, and what a passed or failed test tells. Assumes nothing.
use Rattle.std.proofs.Common.{◌≡◌, ℕ, zero, suc, ◌+◌, Bool, true, false, cond, ◌&&◌, ◌||◌, T, eqb, ltb, leb, List, [], ◌∷◌, ℤ, pos, negsuc, ◌≤ℤ◌, Ordering, Less, Equal, Greater, sym, refl, ap, subst, inl, inr, arith, eqb→eq, ltb→lt, leb→le, ltb-false, ltb-true, eqb-true}
use lib.Signed.{le_z}
use lib.Dec.{eqb_refl}
use borrow.Author.Tests.{eqb-false}
use Rattle.std.specs.List.{ContainsAt as Has, AllByRecursion}
use Rattle.std.proofs.ByRecursion.{all-has}
use Rattle.std.specs.Ordering.{ordering_then}
use Rattle.sheet.specs.Offer.{Offer}
use Rattle.sheet.specs.declared.product.Product.TheVariants.{Rapid, Complementary}
use Rattle.cost.specs.Rule.{Rule, Ranks}
use Rattle.cost.specs.Whole.{whole}
use Rattle.cost.specs.Pair.{pair_rule}
use Rattle.cost.proofs.Order.{not_same, not_both}
use Rattle.clearing.specs.Words.{each}
use Rattle.clearing.specs.Period.{Award, price, Cover, binding_floor, Lawful, equals, Marginal, volume, accepted, under, at, paid, whole_cost, Admitted, prices_and_volumes, Before}
use Rattle.clearing.proofs.Tests.{and_left, and_right, and_both, or_left, or_right, or_split, same_number, every, same_list, same_list_refl, same_list_is, lower, lower_told, partners, partners_is}

-- ---- comparing costs by computation

pub record Compares (R : Rule) : Type 0 where
  pub told : R.Meaning → R.Meaning → Ordering
  pub tells : (x y : R.Meaning) → Ranks R x y (told x y)

abbrev pub whole_told : ℕ → ℕ → Ordering
whole_told x y = cond (ltb x y) Less (cond (eqb x y) Equal Greater)

abbrev pub whole_compares : (f : ℕ → ℕ → ℕ → ℕ) → Compares (whole f)
whole_compares f = record { told = whole_told; tells = λ x y. by x y (ltb x y) (eqb x y) refl refl }
  where
    by : (x y : ℕ) (b c : Bool) → ltb x y ≡ b → eqb x y ≡ c → Ranks (whole f) x y (cond b Less (cond c Equal Greater))
    by x y true c p q = ltb-true x y p
    by x y false true p q = eqb-true x y q
    by x y false false p q = let h = ltb-false x y p in let k = eqb-false x y q in omega arith

abbrev pub pair_compares : (A B : Rule) → Compares A → Compares B → Compares (pair_rule A B)
pair_compares A B a b = record { told = λ p q. ordering_then (a.told p.0 q.0) (b.told p.1 q.1); tells = λ p q. by p q (a.told p.0 q.0) (b.told p.1 q.1) (a.tells p.0 q.0) (b.tells p.1 q.1) }
  where
    by : (p q : A.Meaning × B.Meaning) (o r : Ordering) → Ranks A p.0 q.0 o → Ranks B p.1 q.1 r → Ranks (pair_rule A B) p q (ordering_then o r)
    by p q Less r h k = inl h
    by p q Equal Less h k = inr (h, k)
    by p q Equal Equal h k = λ i. (h i, k i)
    by p q Equal Greater h k = inr (sym h, k)
    by p q Greater r h k = inl h

module _ (R : Rule) (K : Compares R) where
  abbrev pub same_cost : R.Meaning → R.Meaning → Bool
  same_cost x y = elim (K.told x y) [ Less ↦ false | Equal ↦ true | Greater ↦ false ]

  pub same_cost_is : (x y : R.Meaning) → T (same_cost x y) → x ≡ y
  same_cost_is x y t = by (K.told x y) (K.tells x y) t
    where
      by : (o : Ordering) → Ranks R x y o → T (elim o [ Less ↦ false | Equal ↦ true | Greater ↦ false ]) → x ≡ y
      by Less h t = absurd t
      by Equal h t = h
      by Greater h t = absurd t

  -- of equal cost
  abbrev pub tie : Award R → Award R → Bool
  tie a b = lower (prices_and_volumes a) (prices_and_volumes b) || (same_list (prices_and_volumes a) (prices_and_volumes b) && lower b.powers a.powers)

  abbrev pub before : Award R → Award R → Bool
  before a b = elim (K.told a.cost b.cost) [ Less ↦ true | Equal ↦ tie a b | Greater ↦ false ]

  pub before_told : (a b : Award R) → Before a b → T (before a b)
  before_told a b h = by (K.told a.cost b.cost) (K.tells a.cost b.cost) h
    where
      by : (o : Ordering) → Ranks R a.cost b.cost o → Before a b → T (elim o [ Less ↦ true | Equal ↦ tie a b | Greater ↦ false ])
      by Less r h = tt
      by Equal r (inl c) = absurd (not_same R a.cost b.cost r c)
      by Equal r (inr (e, inl l)) = or_left (lower (prices_and_volumes a) (prices_and_volumes b)) (same_list (prices_and_volumes a) (prices_and_volumes b) && lower b.powers a.powers) (lower_told (prices_and_volumes a) (prices_and_volumes b) l)
      by Equal r (inr (e, inr (f, l))) = or_right (lower (prices_and_volumes a) (prices_and_volumes b)) (same_list (prices_and_volumes a) (prices_and_volumes b) && lower b.powers a.powers) (and_both (same_list (prices_and_volumes a) (prices_and_volumes b)) (lower b.powers a.powers) (subst (λ v. T (same_list (prices_and_volumes a) v)) f (same_list_refl (prices_and_volumes a))) (lower_told b.powers a.powers l))
      by Greater r (inl c) = absurd (not_both R a.cost b.cost r c)
      by Greater r (inr (e, l)) = absurd (not_same R b.cost a.cost (sym e) r)

-- ---- one power, and the marginal price

abbrev pub lawful : (floor under at : ℕ) → ℕ → Bool
lawful floor (suc u) at power = (leb (suc u) power && leb power (suc u + at)) || (eqb power 0 && ltb binding_floor floor)
lawful floor zero (suc a) power = eqb power 0 || (leb floor power && leb power (suc a))
lawful floor zero zero power = eqb power 0

pub lawful_is : (floor under at power : ℕ) → T (lawful floor under at power) → Lawful floor under at power
lawful_is floor (suc u) at power t =
    elim (or_split (leb (suc u) power && leb power (suc u + at)) (eqb power 0 && ltb binding_floor floor) t) [
      | inl s ↦ inl (leb→le (suc u) power (and_left (leb (suc u) power) _ s), leb→le power (suc u + at) (and_right (leb (suc u) power) _ s))
      | inr s ↦ inr (eqb→eq power 0 (and_left (eqb power 0) _ s), ltb→lt binding_floor floor (and_right (eqb power 0) _ s))
    ]
lawful_is floor zero (suc a) power t =
    elim (or_split (eqb power 0) (leb floor power && leb power (suc a)) t) [
      | inl s ↦ inl (eqb→eq power 0 s)
      | inr s ↦ inr (leb→le floor power (and_left (leb floor power) _ s), leb→le power (suc a) (and_right (leb floor power) _ s))
    ]
lawful_is floor zero zero power t = eqb→eq power 0 t

abbrev pub has : ℕ → List ℤ → Bool
has p [] = false
has p (c ∷ cs) = equals p c || has p cs

equals_is : (p : ℕ) (c : ℤ) → T (equals p c) → c ≡ pos p
equals_is p (pos c) t = ap pos (eqb→eq c p t)
equals_is p (negsuc c) t = absurd t

pub has_is : (p : ℕ) (cs : List ℤ) → T (has p cs) → Has cs (pos p)
has_is p [] t = absurd t
has_is p (c ∷ cs) t =
    elim (or_split (equals p c) (has p cs) t) [
      | inl s ↦ (0, omega arith, λ d. equals_is p c s)
      | inr s ↦ let h = has_is p cs s in (suc h.0, omega (arith, h.1), h.2)
    ]

-- the test fails: no element is it
lacks : (p : ℕ) (cs : List ℤ) → (T (has p cs) → ⊥) → AllByRecursion (λ c. c ≡ pos p → ⊥) cs
lacks p [] n = tt
lacks p (c ∷ cs) n = (λ e. n (or_left (equals p c) (has p cs) (subst (λ v. T (equals p v)) (sym e) (eqb_refl p))), lacks p cs (λ t. n (or_right (equals p c) (has p cs) t)))

pub has_told : (p : ℕ) (cs : List ℤ) → Has cs (pos p) → T (has p cs)
has_told p cs h = by (has p cs) refl
  where
    by : (b : Bool) → has p cs ≡ b → T b
    by true e = tt
    by false e = all-has (λ c. c ≡ pos p → ⊥) cs (pos p) (lacks p cs (λ t. subst T e t)) h refl

abbrev pub reached : List ℤ → ℕ → Bool
reached cs p = eqb p 0 || has p cs

pub reached_told : (cs : List ℤ) (p : ℕ) → Marginal cs p → T (reached cs p)
reached_told cs p m = elim m.reached [ inl e ↦ or_left (eqb p 0) (has p cs) (same_number p 0 e) | inr h ↦ or_right (eqb p 0) (has p cs) (has_told p cs h) ]

abbrev pub marginal : List ℤ → ℕ → Bool
marginal cs p = every (λ c. le_z c (pos p)) cs && reached cs p

none_over : (p : ℕ) (cs : List ℤ) → T (every (λ c. le_z c (pos p)) cs) → AllByRecursion (λ c. c ≤ℤ pos p) cs
none_over p [] t = tt
none_over p (c ∷ cs) t = (record { le = and_left (le_z c (pos p)) _ t }, none_over p cs (and_right (le_z c (pos p)) _ t))

pub marginal_is : (cs : List ℤ) (p : ℕ) → T (marginal cs p) → Marginal cs p
marginal_is cs p t = record {
  none_above = none_over p cs (and_left (every (λ c. le_z c (pos p)) cs) _ t);
  reached =
      elim (or_split (eqb p 0) (has p cs) (and_right (every (λ c. le_z c (pos p)) cs) _ t)) [ inl s ↦ inl (eqb→eq p 0 s) | inr s ↦ inr (has_is p cs s) ];
}

-- ---- an award is admitted

module _ (d t : ℕ) (offers : List Offer) (R : Rule) (K : Compares R) (cover : Cover) (a : Award R) where
  abbrev lawful_power : Offer → ℕ → Bool
  lawful_power o q = lawful o.floor (under d t o (price a o.product)) (at d t o (price a o.product)) q

  abbrev all_lawful : Bool
  all_lawful = partners lawful_power offers a.powers

  abbrev rr_price_right : Bool
  rr_price_right = marginal (accepted d t Rapid offers a.powers) a.rr_price

  abbrev rc_price_right : Bool
  rc_price_right = marginal (accepted d t Complementary offers a.powers) a.rc_price

  abbrev rr_volume_right : Bool
  rr_volume_right = eqb a.rr_volume (volume Rapid offers a.powers)

  abbrev rc_volume_right : Bool
  rc_volume_right = eqb a.rc_volume (volume Complementary offers a.powers)

  abbrev covers : Bool
  covers = leb cover.rr a.rr_volume && leb cover.both (a.rr_volume + a.rc_volume)

  abbrev cost_right : Bool
  cost_right = same_cost R K a.cost (whole_cost d t offers R a.rr_price a.rc_price a.powers)

  abbrev pays_right : Bool
  pays_right = same_list a.pays (each (paid d t (price a)) offers a.powers)

  abbrev pub admitted : Bool
  admitted = all_lawful && (rr_price_right && (rc_price_right && (rr_volume_right && (rc_volume_right && (covers && (cost_right && pays_right))))))

  pub admitted_is : T admitted → Admitted d t offers R cover a
  admitted_is s0 =
      let s1 = and_right all_lawful _ s0 in
      let s2 = and_right rr_price_right _ s1 in
      let s3 = and_right rc_price_right _ s2 in
      let s4 = and_right rr_volume_right _ s3 in
      let s5 = and_right rc_volume_right _ s4 in
      let s6 = and_right covers _ s5 in
      let c = and_left covers _ s5 in
      record {
        whole = record {
          lawful = partners_is _ _ (λ o q h. lawful_is o.floor (under d t o (price a o.product)) (at d t o (price a o.product)) q h) offers a.powers (and_left all_lawful _ s0);
          rr_marginal = marginal_is _ _ (and_left rr_price_right _ s1);
          rc_marginal = marginal_is _ _ (and_left rc_price_right _ s2);
          rr_summed = eqb→eq _ _ (and_left rr_volume_right _ s3);
          rc_summed = eqb→eq _ _ (and_left rc_volume_right _ s4);
        };
        rr_covered = leb→le _ _ (and_left (leb cover.rr a.rr_volume) _ c);
        both_covered = leb→le _ _ (and_right (leb cover.rr a.rr_volume) _ c);
        costed = same_cost_is R K _ _ (and_left cost_right _ s6);
        settled = same_list_is _ _ (and_right cost_right _ s6);
      }
