-- What an accepted MW and a taken block are paid is at least their price, and nothing is cut off. Assumes nothing.
use Rattle.std.proofs.Common.{◌≡◌, ℕ, zero, suc, ◌+◌, ◌<◌, ◌≤◌, Bool, false, cond, List, [], ◌∷◌, ◌++◌, map, take, ℤ, pos, negsuc, ◌≤ℤ◌, ◌<ℤ◌, refl, ap, arith, ne_eqb}
use mathlib.Core.Logic.{by_cases}
use native.Mathlib.Decide.{dec_le}
use lib.Signed.{lt_z}
use borrow.Author.Differences.{ints}
use Rattle.std.specs.List.{AllByRecursion}
use Rattle.sheet.specs.Offer.{Offer, total}
use Rattle.sheet.specs.declared.product.Product.{Product}
use Rattle.sheet.specs.declared.product.Product.TheVariants.{Rapid, Complementary}
use Rattle.book.specs.Limits.{count, is_of}
use Rattle.cost.specs.Rule.{Rule}
use Rattle.clearing.specs.Words.{Partners}
use Rattle.clearing.specs.Criterion.{worth, criterion, pay, mw_prices, megawatts}
use Rattle.clearing.specs.Period.{Award, of_product, price, Lawful, equals, under, at, accepted, LawfulPower}
use Rattle.clearing.specs.Month.{Block, none, chosen, other, blocks, prices_sum, BlockAdmitted}
use Rattle.clearing.specs.Laws.{UnitsPaid, UnitsPaidWhole, BlockWellPaid, BlocksPaid}
use Rattle.clearing.proofs.Pairs.{partners_weaker}

-- ---- at least the price

-- where the marginal price reaches a criterion, the pay reaches the price
reached_pay : (o : Offer) (d x p : ℕ) → criterion o d x ≤ℤ pos p → x ≤ pay o d p
reached_pay o d x p h = omega (arith, ints)

all_parts : {X : Type 0} (P : X → Type 0) (xs ys : List X) → AllByRecursion P (xs ++ ys) → AllByRecursion P xs × AllByRecursion P ys
all_parts P [] ys h = (tt, h)
all_parts P (x ∷ xs) ys h = let k = all_parts P xs ys h.1 in ((h.0, k.0), k.1)

module _ (d p : ℕ) (o : Offer) where
  prices_reached : (q : ℕ) (xs : List ℕ) → AllByRecursion (λ c. c ≤ℤ pos p) (take q (map (criterion o d) xs)) → AllByRecursion (λ x. x ≤ pay o d p) (take q xs)
  prices_reached zero xs h = tt
  prices_reached (suc q) [] h = tt
  prices_reached (suc q) (x ∷ xs) h = (reached_pay o d x p h.0, prices_reached q xs h.1)

own_price : (rr rc : ℕ) (product : Product) (cs : List ℤ) → AllByRecursion (λ c. c ≤ℤ pos rr) (cond (is_of Rapid product) cs []) → AllByRecursion (λ c. c ≤ℤ pos rc) (cond (is_of Complementary product) cs []) →
    AllByRecursion (λ c. c ≤ℤ pos (of_product rr rc product)) cs
own_price rr rc Rapid cs h k = h
own_price rr rc Complementary cs h k = k

module _ (d t rr rc : ℕ) (P : Offer → ℕ → Type 0) where
  units_reached : (offers : List Offer) (powers : List ℕ) → Partners P offers powers → AllByRecursion (λ c. c ≤ℤ pos rr) (accepted d t Rapid offers powers) → AllByRecursion (λ c. c ≤ℤ pos rc) (accepted d t Complementary offers powers) →
      Partners (λ o q. AllByRecursion (λ x. x ≤ pay o d (of_product rr rc o.product)) (take q (mw_prices t o))) offers powers
  units_reached [] [] l h k = tt
  units_reached [] (q ∷ qs) l h k = absurd l
  units_reached (o ∷ os) [] l h k = absurd l
  units_reached (o ∷ os) (q ∷ qs) l h k =
      let ours = all_parts (λ c. c ≤ℤ pos rr) (cond (is_of Rapid o.product) (take q (megawatts d t o)) []) (accepted d t Rapid os qs) h in
      let theirs = all_parts (λ c. c ≤ℤ pos rc) (cond (is_of Complementary o.product) (take q (megawatts d t o)) []) (accepted d t Complementary os qs) k in
      (prices_reached d (of_product rr rc o.product) o q (mw_prices t o) (own_price rr rc o.product (take q (megawatts d t o)) ours.0 theirs.0), units_reached os qs l.1 ours.1 theirs.1)

pub units_paid : (R : Rule) → UnitsPaid R
units_paid R d t offers cover a h =
    units_reached d t a.rr_price a.rc_price (LawfulPower d t (price a)) offers a.powers h.whole.lawful h.whole.rr_marginal.none_above h.whole.rc_marginal.none_above

-- ---- in full

-- an observed MW whose mark is worth more than there is to take from has its criterion above the price
lifted : (o : Offer) (d x p : ℕ) → p + worth o.short d < worth o.observed d → pos p <ℤ criterion o d x
lifted o d x p h = omega (arith, ints)

above : (p : ℕ) (c : ℤ) → pos p <ℤ c → (lt_z c (pos p) ≡ false) × (equals p c ≡ false)
above p (pos c) h = (grind (arith, ints), ne_eqb c p (omega (arith, ints)))
above p (negsuc c) h = absurd h.lt

none_counted : (f : ℤ → Bool) (g : ℕ → ℤ) (xs : List ℕ) → ((x : ℕ) → f (g x) ≡ false) → count f (map g xs) ≡ 0
none_counted f g [] h = refl
none_counted f g (x ∷ xs) h = let e = ap (λ b. cond {A = ℕ} b 1 0) (h x) in let k = none_counted f g xs h in omega (arith, e, k)

some_mw : (floor under at q : ℕ) → Lawful floor under at q → under ≡ 0 → at ≡ 0 → 0 < q → ⊥
some_mw floor (suc u) at q h e f l = omega arith
some_mw floor zero (suc a) q h e f l = omega arith
some_mw floor zero zero q h e f l = omega arith

module _ (d t : ℕ) (prices : Product → ℕ) (o : Offer) (q : ℕ) where
  paid_whole : LawfulPower d t prices o q → 0 < q → worth o.observed d ≤ prices o.product + worth o.short d
  paid_whole h l = by_cases (dec_le (worth o.observed d) (prices o.product + worth o.short d)) (λ yes'. yes') (λ no'. absurd (wrong (omega arith)))
    where
      wrong : prices o.product + worth o.short d < worth o.observed d → ⊥
      wrong less =
          let up = λ (x : ℕ). above (prices o.product) (criterion o d x) (lifted o d x (prices o.product) less) in
          some_mw o.floor (under d t o (prices o.product)) (at d t o (prices o.product)) q h
          (none_counted (λ c. lt_z c (pos (prices o.product))) (criterion o d) (mw_prices t o) (λ x. (up x).0))
          (none_counted (equals (prices o.product)) (criterion o d) (mw_prices t o) (λ x. (up x).1))
          l

pub units_paid_whole : (R : Rule) → UnitsPaidWhole R
units_paid_whole R d t offers cover a h = partners_weaker _ _ (paid_whole d t (price a)) offers a.powers h.whole.lawful

-- ---- blocks

lowered : (o : Offer) (d x p : ℕ) → criterion o d x ≤ℤ pos p → worth o.observed d ≤ p + worth o.short d
lowered o d x p h = omega (arith, ints)

block_paid_well : (R : Rule) (days : List ℕ) (awards : List (Award R)) (o : Offer) (b : Block) → BlockAdmitted R days awards o b → BlockWellPaid days awards o b
block_paid_well R days awards o none h = tt
block_paid_well R days awards o (chosen p) h = (reached_pay o (total days) p (prices_sum awards o.product) h, lowered o (total days) p (prices_sum awards o.product) h)
block_paid_well R days awards o (other p) h = tt

pub blocks_paid : (R : Rule) → BlocksPaid R
blocks_paid R days offers needs a h = partners_weaker (BlockAdmitted R days a.periods) (BlockWellPaid days a.periods) (block_paid_well R days a.periods) offers (blocks offers a.choice) h.blocks_admitted
