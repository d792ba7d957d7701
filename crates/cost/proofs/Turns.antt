-- The first cheapest: one turn of a scan for it, and that there is one; for every rule. Assumes nothing.
use Rattle.std.proofs.Common.{◌≡◌, ℕ, ◌+◌, ◌<◌, ◌≤◌, List, [], ◌∷◌, length, get_or, Ordering, Less, Equal, Greater, ap, inl, inr, arith, below_more, map, drop, sym, ◌∙◌, Option, Some, None}
use Rattle.std.proofs.lemmas.Iterator.{YieldsList, items_from_drains}
use Rattle.std.proofs.lemmas.List.{get_or_read, drop_more, drop_all, length-drop}
use Rattle.std.proofs.lemmas.List.FromFn.{length-enumerate_from}
use Rattle.std.proofs.Math.Decide.{dec_lt}
use Rattle.std.proofs.Math.Logic.{by_cases}
use Rattle.std.proofs.lemmas.Bool.{cases_order}
use Rattle.std.specs.Fn.{CalledAtTwo}
use Rattle.std.specs.Iterator.{PickTurn, PicksByCall}
use Rattle.std.specs.Option.{option_map}
use Rattle.std.specs.List.{FoldsTo, enumerate_from}
use Rattle.std.specs.Ordering.{min_by_ordering}
use denote.Param.Members.{Mut}
use denote.Ref.{Bor}
use Rattle.cost.specs.Rule.{Rule, Ranks}
use Rattle.cost.specs.Scan.{Cheapest, FirstCheapest, Scanned}
use Rattle.cost.proofs.Order.{under, not_same, not_both}

module _ (R : Rule) {C : Type 0} (meaning : C → R.Meaning) (xs : List C) (i b : ℕ) (x y : C) (so : Cheapest R meaning xs i b) (lt : i < length xs) (xi : x ≡ get_or xs i x) (yb : y ≡ get_or xs b y) where
  here : (d : C) → meaning x ≡ meaning (get_or xs i d)
  here d = ap meaning (get_or_read xs i x lt xi d)

  best : (d : C) → meaning y ≡ meaning (get_or xs b d)
  best d = let w = so.among in let v : b < length xs = omega arith in ap meaning (get_or_read xs b y v yb d)

  cheapest_keeps : (R.cheaper (meaning x) (meaning y) → ⊥) → Cheapest R meaning xs (i + 1) b
  cheapest_keeps no_less = record {
    among = let w = so.among in omega arith;
    least = λ k d. below_more (λ j. R.cheaper (meaning (get_or xs j d)) (meaning (get_or xs b d)) → ⊥) i (λ j h. so.least j d h) (λ less. no_less (rw (here d, best d) less)) k;
    first = so.first;
  }

  cheapest_takes : R.cheaper (meaning x) (meaning y) → Cheapest R meaning xs (i + 1) i
  cheapest_takes less =
      let less_at : (d : C) → R.cheaper (meaning (get_or xs i d)) (meaning (get_or xs b d)) = λ d. rw (here d, best d) at less in
      record {
        among = omega arith;
        least = λ k d. below_more (λ j. R.cheaper (meaning (get_or xs j d)) (meaning (get_or xs i d)) → ⊥) i (λ j h l. so.least j d h (R.laws.transitive _ _ _ l (less_at d))) (R.laws.irreflexive _) k;
        first = λ k d h. under R _ _ _ (less_at d) (so.least k d h);
      }

-- a turn of `min_by` over the costs and their places: of equal costs the first stays
module _ (R : Rule) {C : Type 0} (meaning : C → R.Meaning) (xs : List C) where
  abbrev Place : Type 0
  Place = ℕ × Bor C

  abbrev seen : Place → ℕ × C
  seen p = (p.0, p.1.now)

  turn : (n : ℕ) (b z : Place) (o : Ordering) → Cheapest R meaning xs n b.0 → n < length xs → n ≡ z.0 → z.1.now ≡ get_or xs n z.1.now → b.1.now ≡ get_or xs b.0 b.1.now →
      Ranks R (meaning b.1.now) (meaning z.1.now) o → let p : Place = min_by_ordering o b z in Cheapest R meaning xs (n + 1) p.0 × (p.1.now ≡ get_or xs p.0 p.1.now)
  turn n b z Less so lt i zi bi h = (cheapest_keeps R meaning xs n b.0 z.1.now b.1.now so lt zi bi (not_both R _ _ h), bi)
  turn n b z Equal so lt i zi bi h = (cheapest_keeps R meaning xs n b.0 z.1.now b.1.now so lt zi bi (not_same R _ _ (sym h)), bi)
  turn n b z Greater so lt i zi bi h = rw (← i) (cheapest_takes R meaning xs n b.0 z.1.now b.1.now so lt zi bi h, zi)

  alone : Cheapest R meaning xs 1 0
  alone = record {
    among = omega arith;
    least = λ k d lt less. let e : k ≡ 0 = omega arith in R.laws.irreflexive _ (rw e at less);
    first = λ k d lt. absurd (omega arith);
  }

  -- what is seen at the head of the places from n on
  head : (z : Place) (zs : List Place) (n : ℕ) → map seen (z ∷ zs) ≡ enumerate_from n (drop n xs) →
      (n < length xs) × (n ≡ z.0) × (z.1.now ≡ get_or xs n z.1.now) × (map seen zs ≡ enumerate_from (n + 1) (drop (n + 1) xs))
  head z zs n e =
      by_cases (dec_lt n (length xs)) (λ lt.
      let m = rw (drop_more xs n z.1.now lt) at e in
      let q : seen z ≡ (n, get_or xs n z.1.now) = cc in
      (lt, sym (ap (λ (p : ℕ × C). p.0) q), ap (λ (p : ℕ × C). p.1) q, cc))
      (λ far. let m = rw (drop_all n xs (omega arith)) at e in absurd (cc))

  module _ {F : Type 0} (g : Mut F (Bor Place × (Bor Place × Unit {0})) Ordering)
      (ranks : (f : F) (x y : Place) (o : Ordering) (h : F) → CalledAtTwo g f x y o h → Ranks R (meaning x.1.now) (meaning y.1.now) o) where
    turns : (zs : List Place) (n : ℕ) (f : F) (b : Place) (last : F × Place) → Cheapest R meaning xs n b.0 → n ≤ length xs → b.1.now ≡ get_or xs b.0 b.1.now →
        map seen zs ≡ enumerate_from n (drop n xs) → FoldsTo {P = F × Place} (PickTurn min_by_ordering g) (f, b) zs last → FirstCheapest R meaning xs last.1.0
    turns [] n f b last so le bi e run =
        let all : n ≡ length xs = omega (arith, ap length e, length-enumerate_from n (drop n xs), length-drop n xs) in
        rw (← all, ← run) so
    turns (z ∷ zs) n f b last so le bi e run =
        let at = head z zs n e in
        let next = turn n b z run.1.0 so at.0 at.1 at.2 bi (ranks f b z _ _ run.1.1) in
        turns zs (n + 1) run.0.0 run.0.1 last (rw run.1.2 next.0) (omega arith) (rw run.1.2 next.1) at.3 run.2

    pub first_of_least : {S : Type 0} (steps : S → Option Place → S → Type 0) (s : S) (f : F) (r : Option Place) → PicksByCall steps min_by_ordering g s f r → YieldsList steps seen s (enumerate_from 0 xs) → Scanned R meaning xs (option_map (λ p. p.0) r)
    first_of_least steps s f None h e =
        sym (length-enumerate_from 0 xs) ∙ sym (ap length (items_from_drains [] (h.1.0, h.1.1, λ _. (h.0, h.1.2)) e))
    first_of_least steps s f (Some y) h e =
        let all : map seen (h.0 ∷ h.1) ≡ enumerate_from 0 xs = items_from_drains (h.0 ∷ h.1) (h.3.1.0, h.3.1.1, λ _. (h.3.0, h.3.1.2)) e in
        let at = head h.0 h.1 0 all in
        turns h.1 1 f h.0 (h.2, y) (rw (← at.1) alone) (omega arith) (rw (← at.1) at.2) at.3 h.4

-- a list has one first cheapest
pub cheapest_once : (R : Rule) {C : Type 0} (meaning : C → R.Meaning) (xs : List C) (r s : ℕ) → FirstCheapest R meaning xs r → FirstCheapest R meaning xs s → r ≡ s
cheapest_once R meaning [] r s a b = let n = a.among in absurd (omega arith)
cheapest_once R meaning (x ∷ xs) r s a b =
    elim (cases_order r s) [
      | inl e ↦ e
      | inr o ↦ elim o [ inl h ↦ absurd (a.least s x b.among (b.first r x h)) | inr h ↦ absurd (b.least r x a.among (a.first s x h)) ]
    ]
