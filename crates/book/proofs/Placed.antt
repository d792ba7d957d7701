-- An offer by its place, where each identifier stands once.
use Rattle.std.proofs.Common.{◌≡◌, ℕ, suc, ◌+◌, ◌-◌, ◌≤◌, Bool, true, false, cond, not, List, [], ◌∷◌, ◌++◌, get_or, take, drop, set, is_some, Some, None, refl, ap, ◌∙◌, subst, arith}
use Rattle.sheet.specs.Offer.{Offer}
use Rattle.book.specs.Limits.{is, count}
use Rattle.book.specs.Roll.{standing, stands, others, replaced}
use Rattle.book.specs.Table.{place_from, place_of}

module _ (name : List ℕ) (number : ℕ) where
  -- a place is looked for exactly where an offer stands
  stands_from : (k : ℕ) (offers : List Offer) → stands name number offers ≡ is_some (place_from k name number offers)
  stands_from k [] = refl
  stands_from k (o ∷ os) = go (is name number o) (stands_from (k + 1) os)
    where
      go : (b : Bool) → stands name number os ≡ is_some (place_from (k + 1) name number os) → is_some (cond b (Some o) (standing name number os)) ≡ is_some (cond b (Some k) (place_from (k + 1) name number os))
      go true again = refl
      go false again = again

  pub stands_placed : (offers : List Offer) → stands name number offers ≡ is_some (place_of name number offers)
  stands_placed = stands_from 0

  from_on : (k j : ℕ) (offers : List Offer) → place_from k name number offers ≡ Some j → k ≤ j
  from_on k j [] found = absurd (cc)
  from_on k j (o ∷ os) found = go (is name number o) (from_on (k + 1) j os) found
    where
      go : (b : Bool) → (place_from (k + 1) name number os ≡ Some j → k + 1 ≤ j) → cond b (Some k) (place_from (k + 1) name number os) ≡ Some j → k ≤ j
      go true again here = let same : k ≡ j = cc in omega arith
      go false again later = omega (arith, again later)

  none_others : (offers : List Offer) → count (is name number) offers ≤ 0 → others name number offers ≡ offers
  none_others [] none = refl
  none_others (o ∷ os) none = go (is name number o) (none_others os) none
    where
      go : (b : Bool) → (count (is name number) os ≤ 0 → others name number os ≡ os) → cond b 1 0 + count (is name number) os ≤ 0 → cond (not b) (o ∷ others name number os) (others name number os) ≡ o ∷ os
      go true again some = absurd (omega arith)
      go false again rest = ap (λ xs. o ∷ xs) (again (omega arith))

  others_from : (k j : ℕ) (offers : List Offer) → place_from k name number offers ≡ Some j → count (is name number) offers ≤ 1 → others name number offers ≡ take (j - k) offers ++ drop (j - k + 1) offers
  others_from k j [] found once = absurd (cc)
  others_from k j (o ∷ os) found once = go (is name number o) (others_from (k + 1) j os) found once
    where
      go : (b : Bool) → (place_from (k + 1) name number os ≡ Some j → count (is name number) os ≤ 1 → others name number os ≡ take (j - (k + 1)) os ++ drop (j - (k + 1) + 1) os) → cond b (Some k) (place_from (k + 1) name number os) ≡ Some j → cond b 1 0 + count (is name number) os ≤ 1 → cond (not b) (o ∷ others name number os) (others name number os) ≡ take (j - k) (o ∷ os) ++ drop (j - k + 1) (o ∷ os)
      go true again here alone =
          let same : k ≡ j = cc in
          let first : j - k ≡ 0 = omega arith in
          none_others os (omega arith) ∙ rw first refl
      go false again later rest =
          let past = from_on (k + 1) j os later in
          let next : j - k ≡ suc (j - (k + 1)) = omega arith in
          let after : suc (j - (k + 1)) + 1 ≡ suc (j - (k + 1) + 1) = omega arith in
          ap (λ xs. o ∷ xs) (again later (omega arith)) ∙ rw (next, after) refl

  pub others_placed : (offers : List Offer) (i : ℕ) → place_of name number offers ≡ Some i → count (is name number) offers ≤ 1 → others name number offers ≡ take i offers ++ drop (i + 1) offers
  others_placed offers i found once = let whole : i - 0 ≡ i = omega arith in subst (λ n. others name number offers ≡ take n offers ++ drop (n + 1) offers) whole (others_from 0 i offers found once)

  standing_from : (k j : ℕ) (offers : List Offer) (d : Offer) → place_from k name number offers ≡ Some j → standing name number offers ≡ Some (get_or offers (j - k) d)
  standing_from k j [] d found = absurd (cc)
  standing_from k j (o ∷ os) d found = go (is name number o) (standing_from (k + 1) j os d) found
    where
      go : (b : Bool) → (place_from (k + 1) name number os ≡ Some j → standing name number os ≡ Some (get_or os (j - (k + 1)) d)) → cond b (Some k) (place_from (k + 1) name number os) ≡ Some j → cond b (Some o) (standing name number os) ≡ Some (get_or (o ∷ os) (j - k) d)
      go true again here =
          let same : k ≡ j = cc in
          let first : j - k ≡ 0 = omega arith in
          rw first refl
      go false again later =
          let past = from_on (k + 1) j os later in
          let next : j - k ≡ suc (j - (k + 1)) = omega arith in
          again later ∙ rw next refl

  pub standing_placed : (offers : List Offer) (i : ℕ) (d : Offer) → place_of name number offers ≡ Some i → standing name number offers ≡ Some (get_or offers i d)
  standing_placed offers i d found = let whole : i - 0 ≡ i = omega arith in subst (λ n. standing name number offers ≡ Some (get_or offers n d)) whole (standing_from 0 i offers d found)

  none_from : (k : ℕ) (offers : List Offer) → place_from k name number offers ≡ None → standing name number offers ≡ None
  none_from k [] found = refl
  none_from k (o ∷ os) found = go (is name number o) (none_from (k + 1) os) found
    where
      go : (b : Bool) → (place_from (k + 1) name number os ≡ None → standing name number os ≡ None) → cond b (Some k) (place_from (k + 1) name number os) ≡ None → cond b (Some o) (standing name number os) ≡ None
      go true again here = absurd (cc)
      go false again later = again later

  pub unplaced : (offers : List Offer) → place_of name number offers ≡ None → standing name number offers ≡ None
  unplaced offers nowhere = none_from 0 offers nowhere

module _ (new : Offer) where
  none_replaced : (offers : List Offer) → count (is new.name new.number) offers ≤ 0 → replaced new offers ≡ offers
  none_replaced [] none = refl
  none_replaced (o ∷ os) none = go (is new.name new.number o) (none_replaced os) none
    where
      go : (b : Bool) → (count (is new.name new.number) os ≤ 0 → replaced new os ≡ os) → cond b 1 0 + count (is new.name new.number) os ≤ 0 → cond b new o ∷ replaced new os ≡ o ∷ os
      go true again some = absurd (omega arith)
      go false again rest = ap (λ xs. o ∷ xs) (again (omega arith))

  replaced_from : (k j : ℕ) (offers : List Offer) → place_from k new.name new.number offers ≡ Some j → count (is new.name new.number) offers ≤ 1 → replaced new offers ≡ set offers (j - k) new
  replaced_from k j [] found once = absurd (cc)
  replaced_from k j (o ∷ os) found once = go (is new.name new.number o) (replaced_from (k + 1) j os) found once
    where
      go : (b : Bool) → (place_from (k + 1) new.name new.number os ≡ Some j → count (is new.name new.number) os ≤ 1 → replaced new os ≡ set os (j - (k + 1)) new) → cond b (Some k) (place_from (k + 1) new.name new.number os) ≡ Some j → cond b 1 0 + count (is new.name new.number) os ≤ 1 → cond b new o ∷ replaced new os ≡ set (o ∷ os) (j - k) new
      go true again here alone =
          let same : k ≡ j = cc in
          let first : j - k ≡ 0 = omega arith in
          ap (λ xs. new ∷ xs) (none_replaced os (omega arith)) ∙ rw first refl
      go false again later rest =
          let past = from_on new.name new.number (k + 1) j os later in
          let next : j - k ≡ suc (j - (k + 1)) = omega arith in
          ap (λ xs. o ∷ xs) (again later (omega arith)) ∙ rw next refl

  pub replaced_placed : (offers : List Offer) (i : ℕ) → place_of new.name new.number offers ≡ Some i → count (is new.name new.number) offers ≤ 1 → replaced new offers ≡ set offers i new
  replaced_placed offers i found once = let whole : i - 0 ≡ i = omega arith in subst (λ n. replaced new offers ≡ set offers n new) whole (replaced_from 0 i offers found once)
