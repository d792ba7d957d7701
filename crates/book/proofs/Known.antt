-- Offers by name and number: what `is` says, and how many of a list it holds of.
use Rattle.std.proofs.Common.{◌≡◌, ℕ, ◌+◌, ◌≤◌, Bool, true, false, cond, not, List, [], ◌∷◌, is_some, Some, sym, refl, ap, ◌∙◌, arith}
use Rattle.std.proofs.lemmas.Slice.Eq.{bytes_eq-Decides}
use Rattle.std.proofs.lemmas.Bool.{both_ways}
use Rattle.std.specs.List.{AllByRecursion}
use Rattle.std.specs.Str.{bytes_eq}
use Rattle.sheet.specs.Offer.{Offer}
use Rattle.book.specs.Limits.{same, is, count}
use Rattle.book.specs.Roll.{standing, stands, others}
use Rattle.book.specs.Within.{same_decides}

-- ---- the identifier

pub same_bytes : (xs ys : List ℕ) → bytes_eq xs ys ≡ true → xs ≡ ys
same_bytes xs ys = (bytes_eq-Decides xs ys).0

pub same_parts : (name : List ℕ) (number : ℕ) (n : List ℕ) (k : ℕ) → same name number n k ≡ true → (n ≡ name) × (k ≡ number)
same_parts name number n k = (same_decides name number n k).0

pub same_itself : (name : List ℕ) (number : ℕ) → same name number name number ≡ true
same_itself name number = (same_decides name number name number).1 (refl, refl)

-- who is known by an identifier is known by no other
pub is_other : (name : List ℕ) (number : ℕ) (n : List ℕ) (k : ℕ) (o : Offer) → is n k o ≡ true → is name number o ≡ same name number n k
is_other name number n k o h =
    let p = same_parts n k o.name o.number h in
    ap (λ x. same name number x o.number) p.0 ∙ ap (λ x. same name number n x) p.1

pub is_back : (o x : Offer) → is o.name o.number x ≡ false → is x.name x.number o ≡ false
is_back o x h = go (is x.name x.number o) refl
  where
    go : (b : Bool) → is x.name x.number o ≡ b → b ≡ false
    go false e = refl
    go true e =
        let p = same_parts x.name x.number o.name o.number e in
        let s : is o.name o.number x ≡ true = ap (λ n. same n o.number x.name x.number) p.0 ∙ ap (λ k. same x.name k x.name x.number) p.1 ∙ same_itself x.name x.number in
        absurd (both_ways (is o.name o.number x) h s)

-- ---- counts

module _ (name : List ℕ) (number : ℕ) where
  pub count_stands : (xs : List Offer) → stands name number xs ≡ true → 1 ≤ count (is name number) xs
  count_stands [] h = absurd (cc)
  count_stands (x ∷ xs) h = go (is name number x) (count_stands xs) h
    where
      go : (b : Bool) → (stands name number xs ≡ true → 1 ≤ count (is name number) xs) → is_some (cond b (Some x) (standing name number xs)) ≡ true → 1 ≤ cond b 1 0 + count (is name number) xs
      go true more h = omega arith
      go false more h = let k = more h in omega arith

  pub stands_count : (xs : List Offer) → 1 ≤ count (is name number) xs → stands name number xs ≡ true
  stands_count [] h = absurd (omega arith)
  stands_count (x ∷ xs) h = go (is name number x) (stands_count xs) h
    where
      go : (b : Bool) → (1 ≤ count (is name number) xs → stands name number xs ≡ true) → 1 ≤ cond b 1 0 + count (is name number) xs → is_some (cond b (Some x) (standing name number xs)) ≡ true
      go true more h = refl
      go false more h = more (omega arith)

  pub none_counted : (xs : List Offer) → stands name number xs ≡ false → count (is name number) xs ≡ 0
  none_counted [] h = refl
  none_counted (x ∷ xs) h = go (is name number x) (none_counted xs) h
    where
      go : (b : Bool) → (stands name number xs ≡ false → count (is name number) xs ≡ 0) → is_some (cond b (Some x) (standing name number xs)) ≡ false → cond b 1 0 + count (is name number) xs ≡ 0
      go true more h = absurd (cc)
      go false more h = let k = more h in omega arith

  pub none_is : (xs : List Offer) → stands name number xs ≡ false → AllByRecursion (λ x. is name number x ≡ false) xs
  none_is [] h = tt
  none_is (x ∷ xs) h = go (is name number x) refl (none_is xs) h
    where
      go : (b : Bool) → is name number x ≡ b → (stands name number xs ≡ false → AllByRecursion (λ x. is name number x ≡ false) xs) → is_some (cond b (Some x) (standing name number xs)) ≡ false → (is name number x ≡ false) × AllByRecursion (λ x. is name number x ≡ false) xs
      go true e more h = absurd (cc)
      go false e more h = (e, more h)

  -- those who are kept when it is taken out
  pub others_count : (n : List ℕ) (k : ℕ) (xs : List Offer) → cond (same n k name number) (count (is name number) xs) 0 + count (is n k) (others name number xs) ≡ count (is n k) xs
  others_count n k [] = go (same n k name number)
    where
      go : (b : Bool) → cond b 0 0 + 0 ≡ 0
      go true = refl
      go false = refl
  others_count n k (x ∷ xs) = go (is name number x) (same n k name number) (λ e. is_other n k name number x e) (others_count n k xs) (is_one x)
    where
      is_one : (x : Offer) → same n k name number ≡ true → is n k x ≡ is name number x
      is_one x e = let p = same_parts n k name number e in ap (λ y. same y k x.name x.number) (sym p.0) ∙ ap (λ y. same name y x.name x.number) (sym p.1)

      go : (b s : Bool) → (b ≡ true → is n k x ≡ s) →
          cond s (count (is name number) xs) 0 + count (is n k) (others name number xs) ≡ count (is n k) xs → (s ≡ true → is n k x ≡ b) →
          cond s (cond b 1 0 + count (is name number) xs) 0 + count (is n k) (cond (not b) (x ∷ others name number xs) (others name number xs)) ≡ cond (is n k x) 1 0 + count (is n k) xs
      go true true e h one = rw (e refl) (omega arith)
      go true false e h one = rw (e refl) (omega arith)
      go false true e h one = rw (one refl) (omega arith)
      go false false e h one = omega arith
