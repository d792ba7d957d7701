-- Sums and counts over lists.
use Rattle.std.proofs.Common.{◌≡◌, ℕ, ◌+◌, ◌≤◌, Bool, true, false, cond, not, List, [], ◌∷◌, ◌++◌, map, filter, refl, arith}
use Rattle.sheet.specs.Offer.{Offer, total}
use Rattle.book.specs.Limits.{is, count}
use Rattle.book.specs.Roll.{others, replaced}

module _ {X : Type 0} (g : X → ℕ) where
  pub sum_push : (xs : List X) (y : X) → total (map g (xs ++ (y ∷ []))) ≡ g y + total (map g xs)
  sum_push [] y = refl
  sum_push (x ∷ xs) y = let h = sum_push xs y in omega arith

  -- each element gives way to one that counts as much
  pub sum_same : (f : X → X) → ((x : X) → g (f x) ≡ g x) → (xs : List X) → total (map g (map f xs)) ≡ total (map g xs)
  sum_same f e [] = refl
  sum_same f e (x ∷ xs) = let h = sum_same f e xs in let k = e x in omega arith

  pub sum_kept : (p : X → Bool) (xs : List X) → total (map g (filter p xs)) ≤ total (map g xs)
  sum_kept p [] = omega arith
  sum_kept p (x ∷ xs) = go (p x) (sum_kept p xs)
    where
      go : (b : Bool) → total (map g (filter p xs)) ≤ total (map g xs) → total (map g (cond b (x ∷ filter p xs) (filter p xs))) ≤ g x + total (map g xs)
      go true h = omega arith
      go false h = omega arith

module _ (g : Offer → ℕ) (o : Offer) where
  abbrev known : List Offer → ℕ
  known xs = count (is o.name o.number) xs

  abbrev swapped : List Offer → ℕ
  swapped xs = total (map g (replaced o xs))

  abbrev left : List Offer → ℕ
  left xs = total (map g (others o.name o.number xs))

  none_swapped : (xs : List Offer) → known xs ≡ 0 → swapped xs ≡ left xs
  none_swapped [] h = refl
  none_swapped (x ∷ xs) h = go (is o.name o.number x) (none_swapped xs) h
    where
      go : (b : Bool) → (known xs ≡ 0 → swapped xs ≡ left xs) → cond b 1 0 + known xs ≡ 0 →
          g (cond b o x) + swapped xs ≡ total (map g (cond (not b) (x ∷ others o.name o.number xs) (others o.name o.number xs)))
      go true more h = absurd (omega arith)
      go false more h = let m = more (omega arith) in omega arith

  -- the one offer of an identifier gives way to another
  pub sum_swapped : (xs : List Offer) → count (is o.name o.number) xs ≡ 1 → total (map g (replaced o xs)) ≡ g o + total (map g (others o.name o.number xs))
  sum_swapped [] h = absurd (omega arith)
  sum_swapped (x ∷ xs) h = go (is o.name o.number x) (sum_swapped xs) (none_swapped xs) h
    where
      go : (b : Bool) → (known xs ≡ 1 → swapped xs ≡ g o + left xs) → (known xs ≡ 0 → swapped xs ≡ left xs) → cond b 1 0 + known xs ≡ 1 →
          g (cond b o x) + swapped xs ≡ g o + total (map g (cond (not b) (x ∷ others o.name o.number xs) (others o.name o.number xs)))
      go true more none h = let m = none (omega arith) in omega arith
      go false more none h = let m = more (omega arith) in omega arith
