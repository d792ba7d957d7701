-- The cheapest and the first whole are the cheapest and the first halves side by side, and so is the named award. Assumes nothing.
use Rattle.std.proofs.Common.{◌≡◌, ℕ, cond, ◌⊎◌, List, [], ◌∷◌, length, sym, refl, ap, ◌∙◌, subst, inl, inr}
use Rattle.sheet.specs.Offer.{Offer}
use Rattle.sheet.specs.declared.product.Product.{Product}
use Rattle.sheet.specs.declared.product.Product.TheVariants.{Rapid, Complementary}
use Rattle.book.specs.Limits.{is_of}
use Rattle.cost.specs.Rule.{Rule}
use Rattle.clearing.specs.Words.{each, Lower}
use Rattle.clearing.specs.Period.{Award, of_product, price, part, LawfulPower, charge, paid, Whole, whole_cost, Cover, Before, Named}
use Rattle.clearing.specs.Halves.{Ahead, Leads, Least, First, beside, Half, half_cost}
use Rattle.clearing.specs.Laws.{CostSplits, OfHalves}
use Rattle.clearing.proofs.Lead.{ahead_or_lower, strict_left, leads_beside, leads_first, leads_second, none_below}
use Rattle.clearing.proofs.Split.{beside_parts, rr_half, rc_half, rr_back, rc_back, whole_beside, whole_ahead, rr_half_ahead, rc_half_ahead}
use Rattle.clearing.proofs.Unique.{partners_length}

-- ---- the cost

module _ (R : Rule) (rr rc : ℕ) where
  -- one charge more goes to its own part
  charge_splits : (k : Product) (C : ℕ → ℕ → R.Meaning) (q : ℕ) (a b : R.Meaning) →
      R.joined (C (of_product rr rc k) q) (R.joined a b) ≡
      R.joined (R.joined (cond (is_of Rapid k) (C rr (cond (is_of Rapid k) q 0)) R.nothing) a) (R.joined (cond (is_of Complementary k) (C rc (cond (is_of Complementary k) q 0)) R.nothing) b)
  charge_splits Rapid C q a b = sym (R.laws.assoc (C rr q) a b) ∙ ap (R.joined (R.joined (C rr q) a)) (sym (R.laws.unit b))
  charge_splits Complementary C q a b =
      sym (R.laws.assoc (C rc q) a b) ∙ ap (λ c. R.joined c b) (R.laws.commutes (C rc q) a) ∙ R.laws.assoc a (C rc q) b ∙ ap (λ c. R.joined c (R.joined (C rc q) b)) (sym (R.laws.unit a))

pub cost_splits : (R : Rule) → CostSplits R
cost_splits R d t [] rr rc ps = sym (R.laws.unit R.nothing)
cost_splits R d t (o ∷ os) rr rc [] = sym (R.laws.unit R.nothing)
cost_splits R d t (o ∷ os) rr rc (p ∷ ps) =
    ap (R.joined (charge d t (of_product rr rc) R o p)) (cost_splits R d t os rr rc ps) ∙
    charge_splits R rr rc o.product (λ price q. charge d t (λ _. price) R o q) p (half_cost d t os Rapid R rr (part Rapid os ps)) (half_cost d t os Complementary R rc (part Complementary os ps))

module _ (R : Rule) (d t : ℕ) (offers : List Offer) (rr rc v w : ℕ) where
  abbrev RRHalf : List ℕ → Type 0
  RRHalf = Half d t offers Rapid rr v

  abbrev RCHalf : List ℕ → Type 0
  RCHalf = Half d t offers Complementary rc w

  abbrev rr_cost : List ℕ → R.Meaning
  rr_cost = half_cost d t offers Rapid R rr

  abbrev rc_cost : List ℕ → R.Meaning
  rc_cost = half_cost d t offers Complementary R rc

  abbrev cost : List ℕ → R.Meaning
  cost = whole_cost d t offers R rr rc

  -- what the two halves cost side by side
  cost_beside : (us vs : List ℕ) → RRHalf us → RCHalf vs → cost (beside offers us vs) ≡ R.joined (rr_cost us) (rc_cost vs)
  cost_beside us vs a b =
      cost_splits R d t offers rr rc (beside offers us vs) ∙ (λ i. R.joined (rr_cost (rr_back d t rr rc offers v w us vs a b i)) (rc_cost (rc_back d t rr rc offers v w us vs a b i)))

  -- ---- the first among the cheapest

  pub first_joins : (us vs : List ℕ) → First R rr_cost RRHalf us → First R rc_cost RCHalf vs → First R cost (Whole d t offers rr rc v w) (beside offers us vs)
  first_joins us vs f g = record { holds = whole_beside d t rr rc offers v w us vs f.holds g.holds; leads = leads }
    where
      leads : (qs : List ℕ) → Whole d t offers rr rc v w qs → Leads R (cost (beside offers us vs)) (beside offers us vs) (cost qs) qs
      leads qs h =
          let ms = part Rapid offers qs in
          let ns = part Complementary offers qs in
          let a = rr_half d t rr rc offers v w qs h in
          let b = rc_half d t rr rc offers v w qs h in
          subst (λ m. Leads R m (beside offers us vs) (cost qs) qs) (sym (cost_beside us vs f.holds g.holds))
          (subst (λ n. Leads R (R.joined (rr_cost us) (rc_cost vs)) (beside offers us vs) n qs) (sym (cost_splits R d t offers rr rc qs))
          (leads_beside R (rr_cost us) (rc_cost vs) (rr_cost ms) (rc_cost ns) us vs ms ns (beside offers us vs) qs
          (λ l k. subst (Ahead (beside offers us vs)) (beside_parts (LawfulPower d t (of_product rr rc)) offers qs h.lawful) (whole_ahead d t rr rc offers v w us vs ms ns f.holds g.holds a b l k))
          (f.leads ms a) (g.leads ns b)))

  pub first_splits : (ps : List ℕ) → First R cost (Whole d t offers rr rc v w) ps → OfHalves R (First R) d t offers rr rc v w ps
  first_splits ps f = record { rr_best = record { holds = a; leads = rr_leads }; rc_best = record { holds = b; leads = rc_leads }; both = same }
    where
      us : List ℕ
      us = part Rapid offers ps

      vs : List ℕ
      vs = part Complementary offers ps

      a : RRHalf us
      a = rr_half d t rr rc offers v w ps f.holds

      b : RCHalf vs
      b = rc_half d t rr rc offers v w ps f.holds

      same : beside offers us vs ≡ ps
      same = beside_parts (LawfulPower d t (of_product rr rc)) offers ps f.holds.lawful

      -- it leads what another pair of halves makes
      over : (ms ns : List ℕ) → RRHalf ms → RCHalf ns → Leads R (R.joined (rr_cost us) (rc_cost vs)) (beside offers us vs) (R.joined (rr_cost ms) (rc_cost ns)) (beside offers ms ns)
      over ms ns c e =
          subst (λ m. Leads R m (beside offers us vs) (R.joined (rr_cost ms) (rc_cost ns)) (beside offers ms ns)) (cost_splits R d t offers rr rc ps)
          (subst (λ n. Leads R (cost ps) (beside offers us vs) n (beside offers ms ns)) (cost_beside ms ns c e)
          (subst (λ qs. Leads R (cost ps) qs (cost (beside offers ms ns)) (beside offers ms ns)) (sym same) (f.leads (beside offers ms ns) (whole_beside d t rr rc offers v w ms ns c e))))

      rr_leads : (ms : List ℕ) → RRHalf ms → Leads R (rr_cost us) us (rr_cost ms) ms
      rr_leads ms c = leads_first R (rr_cost us) (rr_cost ms) (rc_cost vs) us ms (beside offers us vs) (beside offers ms vs) (rr_half_ahead d t rr rc offers v w us ms vs a c b) (over ms vs c b)

      rc_leads : (ns : List ℕ) → RCHalf ns → Leads R (rc_cost vs) vs (rc_cost ns) ns
      rc_leads ns e = leads_second R (rr_cost us) (rc_cost vs) (rc_cost ns) vs ns (beside offers us vs) (beside offers us ns) (rc_half_ahead d t rr rc offers v w us vs ns a b e) (over us ns a e)

  -- ---- the cheapest

  pub least_joins : (us vs : List ℕ) → Least R rr_cost RRHalf us → Least R rc_cost RCHalf vs → Least R cost (Whole d t offers rr rc v w) (beside offers us vs)
  least_joins us vs f g = record { holds = whole_beside d t rr rc offers v w us vs f.holds g.holds; least = least }
    where
      least : (qs : List ℕ) → Whole d t offers rr rc v w qs → R.cheaper (cost qs) (cost (beside offers us vs)) → ⊥
      least qs h less =
          let ms = part Rapid offers qs in
          let ns = part Complementary offers qs in
          none_below R (rr_cost us) (rc_cost vs) (rr_cost ms) (rc_cost ns) (f.least ms (rr_half d t rr rc offers v w qs h)) (g.least ns (rc_half d t rr rc offers v w qs h))
          (subst (λ m. R.cheaper m (R.joined (rr_cost us) (rc_cost vs))) (cost_splits R d t offers rr rc qs) (subst (λ n. R.cheaper (cost qs) n) (cost_beside us vs f.holds g.holds) less))

  pub least_splits : (ps : List ℕ) → Least R cost (Whole d t offers rr rc v w) ps → OfHalves R (Least R) d t offers rr rc v w ps
  least_splits ps f = record { rr_best = record { holds = a; least = rr_least }; rc_best = record { holds = b; least = rc_least }; both = beside_parts (LawfulPower d t (of_product rr rc)) offers ps f.holds.lawful }
    where
      us : List ℕ
      us = part Rapid offers ps

      vs : List ℕ
      vs = part Complementary offers ps

      a : RRHalf us
      a = rr_half d t rr rc offers v w ps f.holds

      b : RCHalf vs
      b = rc_half d t rr rc offers v w ps f.holds

      under : (ms ns : List ℕ) → RRHalf ms → RCHalf ns → R.cheaper (R.joined (rr_cost ms) (rc_cost ns)) (R.joined (rr_cost us) (rc_cost vs)) → ⊥
      under ms ns c e less =
          f.least (beside offers ms ns) (whole_beside d t rr rc offers v w ms ns c e)
          (subst (λ m. R.cheaper m (cost ps)) (sym (cost_beside ms ns c e)) (subst (λ n. R.cheaper (R.joined (rr_cost ms) (rc_cost ns)) n) (sym (cost_splits R d t offers rr rc ps)) less))

      rr_least : (ms : List ℕ) → RRHalf ms → R.cheaper (rr_cost ms) (rr_cost us) → ⊥
      rr_least ms c less = under ms vs c b (strict_left R (rr_cost ms) (rr_cost us) (rc_cost vs) less)

      rc_least : (ns : List ℕ) → RCHalf ns → R.cheaper (rc_cost ns) (rc_cost vs) → ⊥
      rc_least ns e less = under us ns a e (R.laws.strict (rc_cost ns) (rc_cost vs) (rr_cost us) less)

-- ---- the named award

module _ (R : Rule) (d t : ℕ) (offers : List Offer) (cover : Cover) (a : Award R) (n : Named d t offers R cover a) where
  -- the award with the same prices and volumes and other powers
  abbrev with_powers : List ℕ → Award R
  with_powers qs = record {
    rr_price = a.rr_price;
    rc_price = a.rc_price;
    rr_volume = a.rr_volume;
    rc_volume = a.rc_volume;
    powers = qs;
    cost = whole_cost d t offers R a.rr_price a.rc_price qs;
    pays = each (paid d t (price a)) offers qs;
  }

  leads_all : (qs : List ℕ) → Whole d t offers a.rr_price a.rc_price a.rr_volume a.rc_volume qs →
      Leads R (whole_cost d t offers R a.rr_price a.rc_price a.powers) a.powers (whole_cost d t offers R a.rr_price a.rc_price qs) qs
  leads_all qs h = by (R.laws.total (whole_cost d t offers R a.rr_price a.rc_price a.powers) (with_powers qs).cost) (ahead_or_lower a.powers qs one_length)
    where
      one_length : length a.powers ≡ length qs
      one_length = sym (partners_length (LawfulPower d t (price a)) offers a.powers n.admitted.whole.lawful) ∙ partners_length (LawfulPower d t (price a)) offers qs h.lawful

      not_before : Before (with_powers qs) a → ⊥
      not_before = n.first (with_powers qs) (record { whole = h; rr_covered = n.admitted.rr_covered; both_covered = n.admitted.both_covered; costed = refl; settled = refl })

      m : R.Meaning
      m = whole_cost d t offers R a.rr_price a.rc_price a.powers

      by : ((R.cheaper m (with_powers qs).cost ⊎ (m ≡ (with_powers qs).cost)) ⊎ R.cheaper (with_powers qs).cost m) → Ahead a.powers qs ⊎ Lower a.powers qs → Leads R m a.powers (with_powers qs).cost qs
      by (inl (inl l)) o = inl l
      by (inl (inr e)) (inl o) = inr (e, o)
      by (inl (inr e)) (inr o) = absurd (not_before (inr (sym (n.admitted.costed ∙ e), inr (refl, o))))
      by (inr l) o = absurd (not_before (inl (subst (λ c. R.cheaper (with_powers qs).cost c) (sym n.admitted.costed) l)))

  pub named_splits : OfHalves R (First R) d t offers a.rr_price a.rc_price a.rr_volume a.rc_volume a.powers
  named_splits = first_splits R d t offers a.rr_price a.rc_price a.rr_volume a.rc_volume a.powers (record { holds = n.admitted.whole; leads = leads_all })
