-- What the book of taken blocks answers, by the answers of the book below it.
use Rattle.std.proofs.Common.{◌≡◌, zero-add, add-zero, length, filter, ℕ, zero, suc, ◌+◌, ◌-◌, ◌≤◌, Bool, true, false, cond, ◌&&◌, leb, List, [], ◌∷◌, map, get_or, take, is_some, Some, None, Option, unwrap_or, sym, refl, ap, ◌∙◌, add-one, arith}
use Rattle.std.specs.Option.{option_map}
use Rattle.std.specs.List.{slice_get, range_with_len}
use Rattle.text.specs.Form.{◌>>=◌}
use Rattle.sheet.specs.Offer.{Offer}
use Rattle.book.specs.Book.{asked, block_asked, price_asked, width_asked}
use Rattle.book.specs.Limits.{count, has_block}
use Rattle.book.specs.Taken.{holds, withheld, takes, taken}
use Rattle.book.proofs.Withheld.{takes_it, left_of, taken_at, takes_at}

-- ---- the blocks before a place

blocks_next : (offers : List Offer) (i : ℕ) → count has_block (take (suc i) offers) ≡ count has_block (take i offers) + cond (is_some (block_asked offers i)) 1 0
blocks_next [] zero = refl
blocks_next [] (suc i) = refl
blocks_next (o ∷ os) zero = omega arith
blocks_next (o ∷ os) (suc i) = let next = blocks_next os i in omega arith

-- as many places have a block as offers there
blocks_from : (offers : List Offer) (k n : ℕ) → length (filter (λ i. is_some (block_asked offers i)) (range_with_len k n)) + count has_block (take k offers) ≡ count has_block (take (k + n) offers)
blocks_from offers k zero = rw (zero-add, add-zero) refl
blocks_from offers k (suc n) =
    let blocks : ℕ → ℕ = λ i. count has_block (take i offers) in
    let far : k + 1 + n ≡ k + suc n = omega arith in
    go (is_some (block_asked offers k)) (ap blocks (add-one k) ∙ blocks_next offers k) (blocks_from offers (k + 1) n ∙ ap blocks far)
  where
    rest : List ℕ
    rest = filter (λ i. is_some (block_asked offers i)) (range_with_len (k + 1) n)

    go : (b : Bool) → count has_block (take (k + 1) offers) ≡ count has_block (take k offers) + cond b 1 0 → length rest + count has_block (take (k + 1) offers) ≡ count has_block (take (k + suc n) offers) → length (cond b (k ∷ rest) rest) + count has_block (take k offers) ≡ count has_block (take (k + suc n) offers)
    go true next more = omega arith
    go false next more = omega arith

pub blocks_counted : (offers : List Offer) (n : ℕ) → length (filter (λ i. is_some (block_asked offers i)) (range_with_len 0 n)) ≡ count has_block (take n offers)
blocks_counted offers n = let all = blocks_from offers 0 n in omega (arith, rw zero-add at all)

pub blocks_few : (offers : List Offer) (i : ℕ) → count has_block (take i offers) ≤ count has_block offers
blocks_few [] zero = omega arith
blocks_few [] (suc i) = omega arith
blocks_few (o ∷ os) zero = omega arith
blocks_few (o ∷ os) (suc i) = let few = blocks_few os i in omega arith

flag_read : (flags : List Bool) (i : ℕ) → get_or flags i false ≡ unwrap_or (slice_get flags i) false
flag_read [] i = refl
flag_read (b ∷ flags) zero = refl
flag_read (b ∷ flags) (suc i) = flag_read flags i

module _ (choice : ℕ) (offers : List Offer) (i : ℕ) where
  abbrev before : ℕ
  before = count has_block (take i offers)

  -- ---- whether an offer is taken, by its block and the blocks before it

  told : get_or (takes choice offers) i false ≡ (is_some (block_asked offers i) && holds choice before)
  told = flag_read (takes choice offers) i ∙ ap (λ flag. unwrap_or flag false) (takes_at choice offers i) ∙ go (slice_get offers i)
    where
      go : (o : Option Offer) → unwrap_or (option_map (takes_it choice before) o) false ≡ (is_some (o >>= (λ o. o.block)) && holds choice before)
      go None = refl
      go (Some o) = refl

  pub taken_with : (blocks : ℕ) → is_some (block_asked offers i) ≡ true → blocks ≡ before → holds choice blocks ≡ get_or (takes choice offers) i false
  taken_with blocks some blocks_are = sym (told ∙ ap (λ b. b && holds choice before) some ∙ ap (holds choice) (sym blocks_are))

  pub taken_without : is_some (block_asked offers i) ≡ false → false ≡ get_or (takes choice offers) i false
  taken_without none = sym (told ∙ ap (λ b. b && holds choice before) none)

  -- ---- the answers

  module _ {A : Type 0} (q : Offer → Option A) where
    kept : ((o : Offer) → q (withheld o) ≡ q o) → (slice_get (taken choice offers) i >>= q) ≡ (slice_get offers i >>= q)
    kept same = ap (λ o. o >>= q) (taken_at choice offers i) ∙ go (slice_get offers i)
      where
        go : (o : Option Offer) → (option_map (left_of choice before) o >>= q) ≡ (o >>= q)
        go None = refl
        go (Some o) = elim (takes_it choice before o) as (λ b. q (cond b (withheld o) o) ≡ q o) [ true ↦ same o | false ↦ refl ]

    lost : ((o : Offer) → q (withheld o) ≡ None) → (slice_get (taken choice offers) i >>= q) ≡ cond (get_or (takes choice offers) i false) None (slice_get offers i >>= q)
    lost none = ap (λ o. o >>= q) (taken_at choice offers i) ∙ go (slice_get offers i) ∙ ap (λ b. cond b None (slice_get offers i >>= q)) (sym told)
      where
        go : (o : Option Offer) → (option_map (left_of choice before) o >>= q) ≡ cond (is_some (o >>= (λ o. o.block)) && holds choice before) None (o >>= q)
        go None = refl
        go (Some o) = elim (takes_it choice before o) as (λ b. q (cond b (withheld o) o) ≡ cond b None (q o)) [ true ↦ none o | false ↦ refl ]

  -- what a taken offer keeps is answered as before
  pub asked_kept : {A : Type 0} (fact : Offer → A) → ((o : Offer) → fact (withheld o) ≡ fact o) → asked fact (taken choice offers) i ≡ asked fact offers i
  asked_kept fact same = kept (λ o. Some (fact o)) (λ o. ap Some (same o))

  pub width_kept : (k : ℕ) → width_asked (taken choice offers) i k ≡ width_asked offers i k
  width_kept k = kept (λ o. slice_get o.widths k) (λ o. refl)

  -- its block and its prices are none
  pub block_left : (flag : Bool) → flag ≡ get_or (takes choice offers) i false → cond flag None (block_asked offers i) ≡ block_asked (taken choice offers) i
  block_left flag flag_is = ap (λ b. cond b None (block_asked offers i)) flag_is ∙ sym (lost (λ o. o.block) (λ o. refl))

  module _ (t k : ℕ) where
    abbrev price : Offer → Option ℕ
    price o = slice_get o.rows (t - 1) >>= (λ row. row >>= (λ prices. slice_get prices k))

    no_price : (rows : List (Option (List ℕ))) (j : ℕ) → ◌≡◌ {A = Option ℕ} (slice_get (map (λ _. None) rows) j >>= (λ row. row >>= (λ prices. slice_get prices k))) None
    no_price [] j = refl
    no_price (r ∷ rows) zero = refl
    no_price (r ∷ rows) (suc j) = no_price rows j

    pub price_left : (flag : Bool) → flag ≡ get_or (takes choice offers) i false → cond flag None (price_asked offers i t k) ≡ price_asked (taken choice offers) i t k
    price_left flag flag_is =
        outside (leb 1 t) flag
        ∙ ap (λ b. cond (leb 1 t) (cond b None (slice_get offers i >>= price)) None) flag_is
        ∙ ap (λ answer. cond (leb 1 t) answer None) (sym (lost price (λ o. no_price o.rows (t - 1))))
      where
        outside : (within flag : Bool) → cond flag None (cond within (slice_get offers i >>= price) None) ≡ cond within (cond flag None (slice_get offers i >>= price)) None
        outside true flag = refl
        outside false true = refl
        outside false false = refl
