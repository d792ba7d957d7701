-- All awards that can be admitted in a period, listed from the definitions: every candidate price, every lawful power, all combinations. Assumes nothing.
use Rattle.std.proofs.Common.{◌≡◌, ℕ, zero, suc, ◌+◌, ◌-◌, ◌<◌, ◌≤◌, Bool, true, false, cond, ◌&&◌, T, ltb, leb, List, [], ◌∷◌, ◌++◌, map, take, replicate, ℤ, pos, negsuc, filter, refl, subst, inl, inr, arith, le→leb, lt→ltb}
use mathlib.Core.Logic.{by_cases}
use mathlib.Core.List.Memᴰ
use mathlib.Core.List.{Memᴰ}
use native.Mathlib.Decide.{ℕ_discrete}
use Rattle.std.specs.List.{AllByRecursion}
use Rattle.std.proofs.ByRecursion.{all-has, All-append, All-take, All-map}
use Rattle.sheet.specs.Offer.{Offer}
use Rattle.sheet.specs.declared.product.Product.{Product}
use Rattle.sheet.specs.declared.product.Product.TheVariants.{Rapid, Complementary}
use Rattle.book.specs.Limits.{row, is_of}
use Rattle.cost.specs.Rule.{Rule}
use Rattle.clearing.specs.Words.{together, repeated, each, Partners}
use Rattle.clearing.specs.Criterion.{criterion, mw_prices, megawatts}
use Rattle.clearing.specs.Period.{Award, of_product, price, Cover, binding_floor, Lawful, Marginal, volume, accepted, LawfulPower, under, at, paid, whole_cost, Admitted}
use Rattle.clearing.proofs.Judging.{reached, reached_told}
use Rattle.clearing.proofs.Tests.{and_both}

-- ---- members of made lists

member_together : {X Y : Type 0} (f : X → List Y) {x : X} {y : Y} {xs : List X} → Memᴰ x xs → Memᴰ y (f x) → Memᴰ y (together (map f xs))
member_together f {x} {y} (Memᴰ.head {x = x'} {xs = xs} e) n = Memᴰ.append_left (together (map f xs)) (subst (λ v. Memᴰ y (f v)) e n)
member_together f {x} {y} (Memᴰ.tail {x = x'} {xs = xs} m) n = Memᴰ.append_right (f x') (member_together f m n)

kept_head : {X : Type 0} (b : Bool) {x y : X} (xs : List X) → x ≡ y → T b → Memᴰ x (cond b (y ∷ xs) xs)
kept_head true xs e t = Memᴰ.head e
kept_head false xs e t = absurd t

kept_tail : {X : Type 0} (b : Bool) {x : X} (y : X) (xs : List X) → Memᴰ x xs → Memᴰ x (cond b (y ∷ xs) xs)
kept_tail true y xs m = Memᴰ.tail m
kept_tail false y xs m = m

member_kept : {X : Type 0} (f : X → Bool) {x : X} {xs : List X} → Memᴰ x xs → T (f x) → Memᴰ x (filter f xs)
member_kept f (Memᴰ.head {x = y} {xs = ys} e) t = kept_head (f y) (filter f ys) e (subst (λ v. T (f v)) e t)
member_kept f (Memᴰ.tail {x = y} {xs = ys} m) t = kept_tail (f y) y (filter f ys) (member_kept f m t)

-- ---- the lawful powers of one offer

-- n numbers from low on
abbrev pub run : ℕ → ℕ → List ℕ
run low zero = []
run low (suc n) = low ∷ run (suc low) n

pub member_run : (low n q : ℕ) → low ≤ q → q < low + n → Memᴰ q (run low n)
member_run low zero q h k = absurd (omega arith)
member_run low (suc n) q h k = by_cases (ℕ_discrete q low) (λ e. Memᴰ.head e) (λ ne. Memᴰ.tail (member_run (suc low) n q (omega arith) (omega arith)))

abbrev lawful_powers : (floor under at : ℕ) → List ℕ
lawful_powers floor (suc u) at = run (suc u) (suc at) ++ cond (ltb binding_floor floor) (0 ∷ []) []
lawful_powers floor zero (suc a) = 0 ∷ run floor (suc (suc a) - floor)
lawful_powers floor zero zero = 0 ∷ []

none_member : (b : Bool) {q : ℕ} → q ≡ 0 → T b → Memᴰ q (cond b (0 ∷ []) [])
none_member true e t = Memᴰ.head e
none_member false e t = absurd t

member_lawful : (floor under at q : ℕ) → Lawful floor under at q → Memᴰ q (lawful_powers floor under at)
member_lawful floor (suc u) at q (inl (h, k)) = Memᴰ.append_left (cond (ltb binding_floor floor) (0 ∷ []) []) (member_run (suc u) (suc at) q h (omega arith))
member_lawful floor (suc u) at q (inr (e, k)) = Memᴰ.append_right (run (suc u) (suc at)) (none_member (ltb binding_floor floor) e (lt→ltb binding_floor floor k))
member_lawful floor zero (suc a) q (inl e) = Memᴰ.head e
member_lawful floor zero (suc a) q (inr (h, k)) = Memᴰ.tail (member_run floor (suc (suc a) - floor) q h (omega arith))
member_lawful floor zero zero q e = Memᴰ.head e

-- ---- all powers of all offers

abbrev combined : {X : Type 0} → (X → List ℕ) → List X → List (List ℕ)
combined f [] = [] ∷ []
combined f (x ∷ xs) = let rest = combined f xs in together (map (λ q. map (λ qs. q ∷ qs) rest) (f x))

member_combined : {X : Type 0} (f : X → List ℕ) (P : X → ℕ → Type 0) → ((x : X) (q : ℕ) → P x q → Memᴰ q (f x)) →
    (xs : List X) (qs : List ℕ) → Partners P xs qs → Memᴰ qs (combined f xs)
member_combined f P is [] [] h = Memᴰ.head refl
member_combined f P is [] (q ∷ qs) h = absurd h
member_combined f P is (x ∷ xs) [] h = absurd h
member_combined f P is (x ∷ xs) (q ∷ qs) h =
    member_together (λ p. map (λ ps. p ∷ ps) (combined f xs)) (is x q h.0) (Memᴰ.map (λ ps. q ∷ ps) (member_combined f P is xs qs h.1))

-- ---- the candidate prices of a product

abbrev not_negative : List ℤ → List ℕ
not_negative [] = []
not_negative (pos p ∷ cs) = p ∷ not_negative cs
not_negative (negsuc p ∷ cs) = not_negative cs

-- among these prices, where it is one
abbrev Among : List ℕ → ℤ → Type 0
Among prices (pos p) = Memᴰ p prices
Among prices (negsuc p) = Unit {0}

all_listed : (prices : List ℕ) (cs : List ℤ) → ((p : ℕ) → Memᴰ p (not_negative cs) → Memᴰ p prices) → AllByRecursion (Among prices) cs
all_listed prices [] more = tt
all_listed prices (pos p ∷ cs) more = (more p (Memᴰ.head refl), all_listed prices cs (λ q m. more q (Memᴰ.tail m)))
all_listed prices (negsuc p ∷ cs) more = (tt, all_listed prices cs more)

all_replicate : {X : Type 0} (P : X → Type 0) (n : ℕ) (x : X) → P x → AllByRecursion P (replicate n x)
all_replicate P zero x h = tt
all_replicate P (suc n) x h = (h, all_replicate P n x h)

-- what each range has, each MW has
all_repeated : {X Y : Type 0} (P : Y → Type 0) (f : X → Y) (ns : List ℕ) (xs : List X) → AllByRecursion P (map f xs) → AllByRecursion (λ x. P (f x)) (repeated ns xs)
all_repeated P f [] xs h = tt
all_repeated P f (n ∷ ns) [] h = tt
all_repeated P f (n ∷ ns) (x ∷ xs) h = All-append (λ x. P (f x)) (replicate n x) (repeated ns xs) (all_replicate (λ x. P (f x)) n x h.0) (all_repeated P f ns xs h.1)

module _ (d t : ℕ) where
  -- by range
  abbrev criteria : Offer → List ℤ
  criteria o = map (criterion o d) (row o t)

  abbrev offered : Product → Offer → List ℕ
  offered product o = cond (is_of product o.product) (not_negative (criteria o)) []

  abbrev candidate_prices : Product → List Offer → List ℕ
  candidate_prices product offers = 0 ∷ together (map (offered product) offers)

  one_offer : (prices : List ℕ) (o : Offer) (q : ℕ) (b : Bool) → ((p : ℕ) → Memᴰ p (cond b (not_negative (criteria o)) []) → Memᴰ p prices) →
      AllByRecursion (Among prices) (cond b (take q (megawatts d t o)) [])
  one_offer prices o q true more =
      All-take (Among prices) q (megawatts d t o) (All-map (Among prices) (criterion o d) (mw_prices t o) (all_repeated (Among prices) (criterion o d) o.widths (row o t) (all_listed prices (criteria o) more)))
  one_offer prices o q false more = tt

  all_accepted : (prices : List ℕ) (product : Product) (offers : List Offer) (powers : List ℕ) →
      ((p : ℕ) → Memᴰ p (together (map (offered product) offers)) → Memᴰ p prices) → AllByRecursion (Among prices) (accepted d t product offers powers)
  all_accepted prices product [] powers more = tt
  all_accepted prices product (o ∷ os) [] more = tt
  all_accepted prices product (o ∷ os) (q ∷ qs) more =
      All-append (Among prices) (cond (is_of product o.product) (take q (megawatts d t o)) []) (accepted d t product os qs)
      (one_offer prices o q (is_of product o.product) (λ p m. more p (Memᴰ.append_left (together (map (offered product) os)) m)))
      (all_accepted prices product os qs (λ p m. more p (Memᴰ.append_right (offered product o) m)))

  member_price : (product : Product) (offers : List Offer) (powers : List ℕ) (p : ℕ) → Marginal (accepted d t product offers powers) p → Memᴰ p (candidate_prices product offers)
  member_price product offers powers p m =
      elim m.reached [
        | inl e ↦ Memᴰ.head e
        | inr h ↦ Memᴰ.tail (all-has (Among (together (map (offered product) offers))) (accepted d t product offers powers) (pos p)
            (all_accepted (together (map (offered product) offers)) product offers powers (λ q n. n)) h)
      ]

  -- ---- the candidates

  module _ (offers : List Offer) (R : Rule) where
    -- the award with these prices and powers
    abbrev made : ℕ → ℕ → List ℕ → Award R
    made rr rc powers = record {
      rr_price = rr;
      rc_price = rc;
      rr_volume = volume Rapid offers powers;
      rc_volume = volume Complementary offers powers;
      powers = powers;
      cost = whole_cost d t offers R rr rc powers;
      pays = each (paid d t (of_product rr rc)) offers powers;
    }

    abbrev powers_at : ℕ → ℕ → Offer → List ℕ
    powers_at rr rc o = lawful_powers o.floor (under d t o (of_product rr rc o.product)) (at d t o (of_product rr rc o.product))

    module _ (cover : Cover) where
      abbrev fits : Award R → Bool
      fits a =
          leb cover.rr a.rr_volume && (leb cover.both (a.rr_volume + a.rc_volume)
          && (reached (accepted d t Rapid offers a.powers) a.rr_price && reached (accepted d t Complementary offers a.powers) a.rc_price))

      abbrev candidates_at : ℕ → ℕ → List (Award R)
      candidates_at rr rc = filter fits (map (made rr rc) (combined (powers_at rr rc) offers))

      abbrev pub candidates : List (Award R)
      candidates = let rcs = candidate_prices Complementary offers in together (map (λ rr. together (map (candidates_at rr) rcs)) (candidate_prices Rapid offers))

      -- every admitted award is listed
      pub listed : (a : Award R) → Admitted d t offers R cover a → Memᴰ a candidates
      listed a h =
          member_together (λ rr. together (map (candidates_at rr) (candidate_prices Complementary offers))) (member_price Rapid offers a.powers a.rr_price h.whole.rr_marginal)
          (member_together (candidates_at a.rr_price) (member_price Complementary offers a.powers a.rc_price h.whole.rc_marginal)
          (member_kept fits
          (Memᴰ.cast same (Memᴰ.map (made a.rr_price a.rc_price) (member_combined (powers_at a.rr_price a.rc_price) (LawfulPower d t (price a))
          (λ o q. member_lawful o.floor (under d t o (price a o.product)) (at d t o (price a o.product)) q) offers a.powers h.whole.lawful)))
          (and_both (leb cover.rr a.rr_volume) _ (le→leb cover.rr a.rr_volume h.rr_covered)
          (and_both (leb cover.both (a.rr_volume + a.rc_volume)) _ (le→leb cover.both (a.rr_volume + a.rc_volume) h.both_covered)
          (and_both (reached (accepted d t Rapid offers a.powers) a.rr_price) _
          (reached_told (accepted d t Rapid offers a.powers) a.rr_price h.whole.rr_marginal)
          (reached_told (accepted d t Complementary offers a.powers) a.rc_price h.whole.rc_marginal))))))
        where
          same : a ≡ made a.rr_price a.rc_price a.powers
          same i = record {
            rr_price = a.rr_price;
            rc_price = a.rc_price;
            rr_volume = h.whole.rr_summed i;
            rc_volume = h.whole.rc_summed i;
            powers = a.powers;
            cost = h.costed i;
            pays = h.settled i;
          }
