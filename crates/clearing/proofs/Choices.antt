-- Choices of blocks: what the choice of none leaves, and how many blocks a choice takes. Assumes nothing.
use Rattle.std.proofs.Common.{◌≡◌, ℕ, ◌+◌, ◌/◌, ◌%◌, ◌^◌, ◌<◌, Bool, true, false, cond, ◌&&◌, eqb, List, [], ◌∷◌, sym, refl, ap, ◌∙◌, subst, add-zero, pow-suc, zero-add, div-one, add-one, one-add, arith}
use native.Mathlib.Nat.{zero-div, div-div-eq-div-mul}
use native.Mathlib.Numerals.{unary_clauses}
use Rattle.std.proofs.lemmas.Bool.Decides.{nat_tests}
use lib.Count.{ones, ones_step}
use Rattle.sheet.specs.Offer.{Offer, width}
use Rattle.sheet.specs.declared.product.Product.{Product}
use Rattle.sheet.specs.declared.product.Product.TheVariants.{Rapid, Complementary}
use Rattle.book.specs.Limits.{count, is_of, has_block}
use Rattle.book.specs.declared.need.Need.{Need}
use Rattle.book.specs.Taken.{choices, holds, withheld, takes_from, taken_from}
use Rattle.clearing.specs.Words.{each}
use Rattle.clearing.specs.Period.{volume}
use Rattle.clearing.specs.Month.{cover_of, still}
use Rattle.clearing.specs.Laws.{NoneTaken, OnesTaken}

-- ---- no block

none_held : (place : ℕ) → holds 0 place ≡ false
none_held place = ap (λ n. eqb (n % 2) 1) (zero-div (2 ^ place))

none_chosen : (b : Bool) (place : ℕ) → (b && holds 0 place) ≡ false
none_chosen true place = none_held place
none_chosen false place = refl

book_kept : (place : ℕ) (offers : List Offer) → taken_from place 0 offers ≡ offers
book_kept place [] = refl
book_kept place (o ∷ os) = λ i. cond (none_chosen (has_block o) place i) (withheld o) o ∷ book_kept (place + cond (has_block o) 1 0) os i

no_mw : (product : Product) (place : ℕ) (offers : List Offer) → volume product offers (each (λ o is_taken. cond is_taken (width o) 0) offers (takes_from place 0 offers)) ≡ 0
no_mw product place [] = refl
no_mw product place (o ∷ os) =
    let e : cond (is_of product o.product) (cond (has_block o && holds 0 place) (width o) 0) 0 ≡ 0 = grind (arith, none_chosen (has_block o) place) in
    let f = no_mw product (place + cond (has_block o) 1 0) os in
    omega (arith, e, f)

cover_kept : (offers : List Offer) (n : Need) → still offers 0 n ≡ cover_of n
cover_kept offers n = simp (no_mw Rapid 0 offers, no_mw Complementary 0 offers, unary_clauses)

pub none_taken : NoneTaken
none_taken offers n = (book_kept 0 offers, cover_kept offers n)

-- ---- ones

one_digit : (n : ℕ) → cond (eqb (n % 2) 1) 1 0 ≡ n % 2
one_digit n = grind (arith, nat_tests)

ones_zero : ones 0 ≡ 0
unfolding ones
ones_zero = refl

-- the digits from a place on
module _ (choice : ℕ) where
  next_half : (place : ℕ) → choice / 2 ^ (place + 1) ≡ choice / 2 ^ place / 2
  next_half place = rw (add-one, pow-suc 2 place) (sym (div-div-eq-div-mul choice (2 ^ place) 2))

  ones_from : (place : ℕ) (offers : List Offer) → choice / 2 ^ place < choices offers → count (λ is_taken. is_taken) (takes_from place choice offers) ≡ ones (choice / 2 ^ place)
  ones_from place [] h = let e : choice / 2 ^ place ≡ 0 = omega arith in sym (ap ones e ∙ ones_zero)
  ones_from place (o ∷ os) h = by (has_block o) h (ones_from place os) (ones_from (place + 1) os)
    where
      by : (b : Bool) → choice / 2 ^ place < 2 ^ (cond b 1 0 + count has_block os) →
          (choice / 2 ^ place < choices os → count (λ is_taken. is_taken) (takes_from place choice os) ≡ ones (choice / 2 ^ place)) →
          (choice / 2 ^ (place + 1) < choices os → count (λ is_taken. is_taken) (takes_from (place + 1) choice os) ≡ ones (choice / 2 ^ (place + 1))) →
          cond (b && holds choice place) 1 0 + count (λ is_taken. is_taken) (takes_from (place + cond b 1 0) choice os) ≡ ones (choice / 2 ^ place)
      by true h here next =
          let wide = pow-suc 2 (count has_block os) in
          let h' = subst (λ n. choice / 2 ^ place < 2 ^ n) (one-add (count has_block os)) h in
          let half = next_half place in
          let rest = next (omega (arith, wide, h', half)) in
          let halved = ap ones half in
          omega (arith, one_digit (choice / 2 ^ place), rest, halved, ones_step (choice / 2 ^ place))
      by false h here next =
          zero-add (count (λ is_taken. is_taken) (takes_from (place + 0) choice os)) ∙ (ap (λ p. count (λ is_taken. is_taken) (takes_from p choice os)) (add-zero place) ∙ here (subst (λ n. choice / 2 ^ place < 2 ^ n) (zero-add (count has_block os)) h))

pub ones_taken : OnesTaken
ones_taken offers choice h =
    let e : choice / 2 ^ 0 ≡ choice = div-one choice in
    ones_from choice 0 offers (subst (λ n. n < choices offers) (sym e) h) ∙ ap ones e
