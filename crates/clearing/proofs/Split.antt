-- At fixed prices and volumes the two products are independent: the first whole is the first halves side by side. Assumes nothing.
use Rattle.std.proofs.Common.{◌≡◌, ℕ, Bool, true, false, cond, List, [], ◌∷◌, ◌++◌, take, sym, refl, ap, ◌∙◌, subst, inl, inr, arith}
use Rattle.sheet.specs.Offer.{Offer, total}
use Rattle.sheet.specs.declared.product.Product.{Product}
use Rattle.sheet.specs.declared.product.Product.TheVariants.{Rapid, Complementary}
use Rattle.book.specs.Limits.{is_of}
use Rattle.clearing.specs.Words.{Partners}
use Rattle.clearing.specs.Criterion.{megawatts}
use Rattle.clearing.specs.Period.{of_product, Marginal, part, volume, accepted, LawfulPower, Whole}
use Rattle.clearing.specs.Halves.{Ahead, Either, beside, Half}
use Rattle.clearing.proofs.Pairs.{partners_weaker}

-- ---- powers of one product, and 0 for the other

abbrev Zeros : Product → List Offer → List ℕ → Type 0
Zeros product offers powers = Partners (λ o q. Either (is_of product o.product) (Unit {0}) (q ≡ 0)) offers powers

either_unit : (s : Bool) (A B : Type 0) → Either s A B → Either s (Unit {0}) B
either_unit true A B h = tt
either_unit false A B h = h

zeros : (product : Product) (L : Offer → ℕ → Type 0) (offers : List Offer) (powers : List ℕ) → Partners (λ o q. Either (is_of product o.product) (L o q) (q ≡ 0)) offers powers → Zeros product offers powers
zeros product L = partners_weaker (λ o q. Either (is_of product o.product) (L o q) (q ≡ 0)) (λ o q. Either (is_of product o.product) (Unit {0}) (q ≡ 0)) (λ o q. either_unit (is_of product o.product) (L o q) (q ≡ 0))

-- what one offer's power is in the parts and side by side
first_of : (k : Product) (u v : ℕ) → Either (is_of Rapid k) (Unit {0}) (u ≡ 0) → cond (is_of Rapid k) (cond (is_of Rapid k) u v) 0 ≡ u
first_of Rapid u v h = refl
first_of Complementary u v h = sym h

second_of : (k : Product) (u v : ℕ) → Either (is_of Complementary k) (Unit {0}) (v ≡ 0) → cond (is_of Complementary k) (cond (is_of Rapid k) u v) 0 ≡ v
second_of Rapid u v h = sym h
second_of Complementary u v h = refl

both_of : (k : Product) (p : ℕ) → cond (is_of Rapid k) (cond (is_of Rapid k) p 0) (cond (is_of Complementary k) p 0) ≡ p
both_of Rapid p = refl
both_of Complementary p = refl

rr_of_beside : (offers : List Offer) (us vs : List ℕ) → Zeros Rapid offers us → Zeros Complementary offers vs → part Rapid offers (beside offers us vs) ≡ us
rr_of_beside [] [] vs h k = refl
rr_of_beside [] (u ∷ us) vs h k = absurd h
rr_of_beside (o ∷ os) [] vs h k = absurd h
rr_of_beside (o ∷ os) (u ∷ us) [] h k = absurd k
rr_of_beside (o ∷ os) (u ∷ us) (v ∷ vs) h k = λ i. first_of o.product u v h.0 i ∷ rr_of_beside os us vs h.1 k.1 i

rc_of_beside : (offers : List Offer) (us vs : List ℕ) → Zeros Rapid offers us → Zeros Complementary offers vs → part Complementary offers (beside offers us vs) ≡ vs
rc_of_beside [] us [] h k = refl
rc_of_beside [] us (v ∷ vs) h k = absurd k
rc_of_beside (o ∷ os) [] vs h k = absurd h
rc_of_beside (o ∷ os) (u ∷ us) [] h k = absurd k
rc_of_beside (o ∷ os) (u ∷ us) (v ∷ vs) h k = λ i. second_of o.product u v k.0 i ∷ rc_of_beside os us vs h.1 k.1 i

pub beside_parts : (P : Offer → ℕ → Type 0) (offers : List Offer) (ps : List ℕ) → Partners P offers ps → beside offers (part Rapid offers ps) (part Complementary offers ps) ≡ ps
beside_parts P [] [] h = refl
beside_parts P [] (p ∷ ps) h = absurd h
beside_parts P (o ∷ os) [] h = absurd h
beside_parts P (o ∷ os) (p ∷ ps) h = λ i. both_of o.product p i ∷ beside_parts P os ps h.1 i

-- ---- the order

heads : (k : Product) (u v m n : ℕ) (us vs ms ns ps qs : List ℕ) →
    Either (is_of Rapid k) (Unit {0}) (u ≡ 0) → Either (is_of Complementary k) (Unit {0}) (v ≡ 0) → Either (is_of Rapid k) (Unit {0}) (m ≡ 0) → Either (is_of Complementary k) (Unit {0}) (n ≡ 0) →
    (Ahead us ms → Ahead vs ns → Ahead ps qs) → Ahead (u ∷ us) (m ∷ ms) → Ahead (v ∷ vs) (n ∷ ns) → Ahead (cond (is_of Rapid k) u v ∷ ps) (cond (is_of Rapid k) m n ∷ qs)
heads Rapid u v m n us vs ms ns ps qs hu hv hm hn rest (inl h) k = inl h
heads Rapid u v m n us vs ms ns ps qs hu hv hm hn rest (inr h) (inl k) = absurd (omega arith)
heads Rapid u v m n us vs ms ns ps qs hu hv hm hn rest (inr h) (inr k) = inr (h.0, rest h.1 k.1)
heads Complementary u v m n us vs ms ns ps qs hu hv hm hn rest h (inl k) = inl k
heads Complementary u v m n us vs ms ns ps qs hu hv hm hn rest (inl h) (inr k) = absurd (omega arith)
heads Complementary u v m n us vs ms ns ps qs hu hv hm hn rest (inr h) (inr k) = inr (k.0, rest h.1 k.1)

ahead_beside : (offers : List Offer) (us vs ms ns : List ℕ) → Zeros Rapid offers us → Zeros Complementary offers vs → Zeros Rapid offers ms → Zeros Complementary offers ns →
    Ahead us ms → Ahead vs ns → Ahead (beside offers us vs) (beside offers ms ns)
ahead_beside [] us vs ms ns hu hv hm hn a b = tt
ahead_beside (o ∷ os) [] vs ms ns hu hv hm hn a b = absurd hu
ahead_beside (o ∷ os) (u ∷ us) [] ms ns hu hv hm hn a b = absurd hv
ahead_beside (o ∷ os) (u ∷ us) (v ∷ vs) [] ns hu hv hm hn a b = absurd hm
ahead_beside (o ∷ os) (u ∷ us) (v ∷ vs) (m ∷ ms) [] hu hv hm hn a b = absurd hn
ahead_beside (o ∷ os) (u ∷ us) (v ∷ vs) (m ∷ ms) (n ∷ ns) hu hv hm hn a b =
    heads o.product u v m n us vs ms ns (beside os us vs) (beside os ms ns) hu.0 hv.0 hm.0 hn.0 (ahead_beside os us vs ms ns hu.1 hv.1 hm.1 hn.1) a b

rr_head : (k : Product) (u m v : ℕ) (us ms ps qs : List ℕ) → Either (is_of Rapid k) (Unit {0}) (u ≡ 0) → Either (is_of Rapid k) (Unit {0}) (m ≡ 0) →
    (Ahead ps qs → Ahead us ms) → Ahead (cond (is_of Rapid k) u v ∷ ps) (cond (is_of Rapid k) m v ∷ qs) → Ahead (u ∷ us) (m ∷ ms)
rr_head Rapid u m v us ms ps qs hu hm rest (inl h) = inl h
rr_head Rapid u m v us ms ps qs hu hm rest (inr h) = inr (h.0, rest h.1)
rr_head Complementary u m v us ms ps qs hu hm rest (inl h) = absurd (omega arith)
rr_head Complementary u m v us ms ps qs hu hm rest (inr h) = inr (hu ∙ sym hm, rest h.1)

rc_head : (k : Product) (v n u : ℕ) (vs ns ps qs : List ℕ) → Either (is_of Complementary k) (Unit {0}) (v ≡ 0) → Either (is_of Complementary k) (Unit {0}) (n ≡ 0) →
    (Ahead ps qs → Ahead vs ns) → Ahead (cond (is_of Rapid k) u v ∷ ps) (cond (is_of Rapid k) u n ∷ qs) → Ahead (v ∷ vs) (n ∷ ns)
rc_head Rapid v n u vs ns ps qs hv hn rest (inl h) = absurd (omega arith)
rc_head Rapid v n u vs ns ps qs hv hn rest (inr h) = inr (hv ∙ sym hn, rest h.1)
rc_head Complementary v n u vs ns ps qs hv hn rest (inl h) = inl h
rc_head Complementary v n u vs ns ps qs hv hn rest (inr h) = inr (h.0, rest h.1)

rr_ahead : (offers : List Offer) (us ms vs : List ℕ) → Zeros Rapid offers us → Zeros Rapid offers ms → Zeros Complementary offers vs → Ahead (beside offers us vs) (beside offers ms vs) → Ahead us ms
rr_ahead [] [] [] vs hu hm hv a = tt
rr_ahead [] [] (m ∷ ms) vs hu hm hv a = absurd hm
rr_ahead [] (u ∷ us) ms vs hu hm hv a = absurd hu
rr_ahead (o ∷ os) [] ms vs hu hm hv a = absurd hu
rr_ahead (o ∷ os) (u ∷ us) [] vs hu hm hv a = absurd hm
rr_ahead (o ∷ os) (u ∷ us) (m ∷ ms) [] hu hm hv a = absurd hv
rr_ahead (o ∷ os) (u ∷ us) (m ∷ ms) (v ∷ vs) hu hm hv a =
    rr_head o.product u m v us ms (beside os us vs) (beside os ms vs) hu.0 hm.0 (rr_ahead os us ms vs hu.1 hm.1 hv.1) a

rc_ahead : (offers : List Offer) (us vs ns : List ℕ) → Zeros Rapid offers us → Zeros Complementary offers vs → Zeros Complementary offers ns → Ahead (beside offers us vs) (beside offers us ns) → Ahead vs ns
rc_ahead [] us [] [] hu hv hn a = tt
rc_ahead [] us [] (n ∷ ns) hu hv hn a = absurd hn
rc_ahead [] us (v ∷ vs) ns hu hv hn a = absurd hv
rc_ahead (o ∷ os) [] vs ns hu hv hn a = absurd hu
rc_ahead (o ∷ os) (u ∷ us) [] ns hu hv hn a = absurd hv
rc_ahead (o ∷ os) (u ∷ us) (v ∷ vs) [] hu hv hn a = absurd hn
rc_ahead (o ∷ os) (u ∷ us) (v ∷ vs) (n ∷ ns) hu hv hn a =
    rc_head o.product v n u vs ns (beside os us vs) (beside os us ns) hv.0 hn.0 (rc_ahead os us vs ns hu.1 hv.1 hn.1) a

-- ---- a period

part_twice : (product : Product) (offers : List Offer) (ps : List ℕ) → part product offers (part product offers ps) ≡ part product offers ps
part_twice product [] ps = refl
part_twice product (o ∷ os) [] = refl
part_twice product (o ∷ os) (p ∷ ps) = λ i. twice (is_of product o.product) i ∷ part_twice product os ps i
  where
    twice : (s : Bool) → cond s (cond s p 0) 0 ≡ cond s p 0
    twice true = refl
    twice false = refl

module _ (d t : ℕ) where
  -- a product's accepted MW are those of its part
  accepted_part : (product : Product) (offers : List Offer) (ps : List ℕ) → accepted d t product offers (part product offers ps) ≡ accepted d t product offers ps
  accepted_part product [] ps = refl
  accepted_part product (o ∷ os) [] = refl
  accepted_part product (o ∷ os) (p ∷ ps) = λ i. of_own (is_of product o.product) i ++ accepted_part product os ps i
    where
      of_own : (s : Bool) → cond s (take (cond s p 0) (megawatts d t o)) [] ≡ cond s (take p (megawatts d t o)) []
      of_own true = refl
      of_own false = refl

  module _ (rr rc : ℕ) where
    -- a lawful power at its product's price, in each part
    rr_power : (k : Product) (L : ℕ → ℕ → Type 0) (q : ℕ) → L (of_product rr rc k) q → Either (is_of Rapid k) (L rr (cond (is_of Rapid k) q 0)) (cond (is_of Rapid k) q 0 ≡ 0)
    rr_power Rapid L q h = h
    rr_power Complementary L q h = refl

    rc_power : (k : Product) (L : ℕ → ℕ → Type 0) (q : ℕ) → L (of_product rr rc k) q → Either (is_of Complementary k) (L rc (cond (is_of Complementary k) q 0)) (cond (is_of Complementary k) q 0 ≡ 0)
    rc_power Rapid L q h = refl
    rc_power Complementary L q h = h

    own_power : (k : Product) (L : ℕ → ℕ → Type 0) (u v : ℕ) → Either (is_of Rapid k) (L rr u) (u ≡ 0) → Either (is_of Complementary k) (L rc v) (v ≡ 0) → L (of_product rr rc k) (cond (is_of Rapid k) u v)
    own_power Rapid L u v h k = h
    own_power Complementary L u v h k = k

    rr_lawful : (offers : List Offer) (ps : List ℕ) → Partners (LawfulPower d t (of_product rr rc)) offers ps →
        Partners (λ o q. Either (is_of Rapid o.product) (LawfulPower d t (λ _. rr) o q) (q ≡ 0)) offers (part Rapid offers ps)
    rr_lawful [] [] h = tt
    rr_lawful [] (p ∷ ps) h = absurd h
    rr_lawful (o ∷ os) [] h = absurd h
    rr_lawful (o ∷ os) (p ∷ ps) h = (rr_power o.product (λ price q. LawfulPower d t (λ _. price) o q) p h.0, rr_lawful os ps h.1)

    rc_lawful : (offers : List Offer) (ps : List ℕ) → Partners (LawfulPower d t (of_product rr rc)) offers ps →
        Partners (λ o q. Either (is_of Complementary o.product) (LawfulPower d t (λ _. rc) o q) (q ≡ 0)) offers (part Complementary offers ps)
    rc_lawful [] [] h = tt
    rc_lawful [] (p ∷ ps) h = absurd h
    rc_lawful (o ∷ os) [] h = absurd h
    rc_lawful (o ∷ os) (p ∷ ps) h = (rc_power o.product (λ price q. LawfulPower d t (λ _. price) o q) p h.0, rc_lawful os ps h.1)

    beside_lawful : (offers : List Offer) (us vs : List ℕ) → Partners (λ o q. Either (is_of Rapid o.product) (LawfulPower d t (λ _. rr) o q) (q ≡ 0)) offers us →
        Partners (λ o q. Either (is_of Complementary o.product) (LawfulPower d t (λ _. rc) o q) (q ≡ 0)) offers vs → Partners (LawfulPower d t (of_product rr rc)) offers (beside offers us vs)
    beside_lawful [] us vs h k = tt
    beside_lawful (o ∷ os) [] vs h k = absurd h
    beside_lawful (o ∷ os) (u ∷ us) [] h k = absurd k
    beside_lawful (o ∷ os) (u ∷ us) (v ∷ vs) h k = (own_power o.product (λ price q. LawfulPower d t (λ _. price) o q) u v h.0 k.0, beside_lawful os us vs h.1 k.1)

    module _ (offers : List Offer) (v w : ℕ) where
      pub rr_half : (ps : List ℕ) → Whole d t offers rr rc v w ps → Half d t offers Rapid rr v (part Rapid offers ps)
      rr_half ps h = record {
        lawful = rr_lawful offers ps h.lawful;
        marginal = subst (λ cs. Marginal cs rr) (sym (accepted_part Rapid offers ps)) h.rr_marginal;
        summed = h.rr_summed ∙ ap total (sym (part_twice Rapid offers ps));
      }

      pub rc_half : (ps : List ℕ) → Whole d t offers rr rc v w ps → Half d t offers Complementary rc w (part Complementary offers ps)
      rc_half ps h = record {
        lawful = rc_lawful offers ps h.lawful;
        marginal = subst (λ cs. Marginal cs rc) (sym (accepted_part Complementary offers ps)) h.rc_marginal;
        summed = h.rc_summed ∙ ap total (sym (part_twice Complementary offers ps));
      }

      rr_zeros : (us : List ℕ) → Half d t offers Rapid rr v us → Zeros Rapid offers us
      rr_zeros us a = zeros Rapid (LawfulPower d t (λ _. rr)) offers us a.lawful

      rc_zeros : (vs : List ℕ) → Half d t offers Complementary rc w vs → Zeros Complementary offers vs
      rc_zeros vs b = zeros Complementary (LawfulPower d t (λ _. rc)) offers vs b.lawful

      module _ (us vs : List ℕ) (a : Half d t offers Rapid rr v us) (b : Half d t offers Complementary rc w vs) where
        pub rr_back : part Rapid offers (beside offers us vs) ≡ us
        rr_back = rr_of_beside offers us vs (rr_zeros us a) (rc_zeros vs b)

        pub rc_back : part Complementary offers (beside offers us vs) ≡ vs
        rc_back = rc_of_beside offers us vs (rr_zeros us a) (rc_zeros vs b)

        pub whole_beside : Whole d t offers rr rc v w (beside offers us vs)
        whole_beside = record {
          lawful = beside_lawful offers us vs a.lawful b.lawful;
          rr_marginal = subst (λ cs. Marginal cs rr) (ap (accepted d t Rapid offers) (sym rr_back) ∙ accepted_part Rapid offers (beside offers us vs)) a.marginal;
          rc_marginal = subst (λ cs. Marginal cs rc) (ap (accepted d t Complementary offers) (sym rc_back) ∙ accepted_part Complementary offers (beside offers us vs)) b.marginal;
          rr_summed = a.summed ∙ ap (volume Rapid offers) (sym rr_back) ∙ ap total (part_twice Rapid offers (beside offers us vs));
          rc_summed = b.summed ∙ ap (volume Complementary offers) (sym rc_back) ∙ ap total (part_twice Complementary offers (beside offers us vs));
        }

      -- where both halves are ahead, so is the whole
      pub whole_ahead : (us vs ms ns : List ℕ) → Half d t offers Rapid rr v us → Half d t offers Complementary rc w vs → Half d t offers Rapid rr v ms → Half d t offers Complementary rc w ns →
          Ahead us ms → Ahead vs ns → Ahead (beside offers us vs) (beside offers ms ns)
      whole_ahead us vs ms ns a b c e = ahead_beside offers us vs ms ns (rr_zeros us a) (rc_zeros vs b) (rr_zeros ms c) (rc_zeros ns e)

      -- where a whole is ahead of one with the same other half, so is its own
      pub rr_half_ahead : (us ms vs : List ℕ) → Half d t offers Rapid rr v us → Half d t offers Rapid rr v ms → Half d t offers Complementary rc w vs →
          Ahead (beside offers us vs) (beside offers ms vs) → Ahead us ms
      rr_half_ahead us ms vs a c b = rr_ahead offers us ms vs (rr_zeros us a) (rr_zeros ms c) (rc_zeros vs b)

      pub rc_half_ahead : (us vs ns : List ℕ) → Half d t offers Rapid rr v us → Half d t offers Complementary rc w vs → Half d t offers Complementary rc w ns →
          Ahead (beside offers us vs) (beside offers us ns) → Ahead vs ns
      rc_half_ahead us vs ns a b e = rc_ahead offers us vs ns (rr_zeros us a) (rc_zeros vs b) (rc_zeros ns e)
