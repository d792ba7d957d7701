-- The book of taken blocks, place by place.
use Rattle.std.proofs.Common.{◌≡◌, ℕ, zero, suc, ◌+◌, Bool, cond, ◌&&◌, List, [], ◌∷◌, take, sym, refl, ap, ◌∙◌, add-zero, add_assoc, zero-add}
use Rattle.std.specs.Option.{option_map}
use Rattle.std.specs.List.{slice_get}
use Rattle.sheet.specs.Offer.{Offer}
use Rattle.book.specs.Limits.{count, has_block}
use Rattle.book.specs.Taken.{holds, withheld, takes_from, takes, taken_from, taken}

-- ---- the offer at place i, with the blocks before it

abbrev pub takes_it : (choice before : ℕ) → Offer → Bool
takes_it choice before o = has_block o && holds choice before

abbrev pub left_of : (choice before : ℕ) → Offer → Offer
left_of choice before o = cond (takes_it choice before o) (withheld o) o

module _ (choice : ℕ) where
  -- the blocks before the first, before those of the first places, and before one place more
  blocks_on : (place i : ℕ) (o : Offer) (os : List Offer) → place + cond (has_block o) 1 0 + count has_block (take i os) ≡ place + count has_block (take (suc i) (o ∷ os))
  blocks_on place i o os = add_assoc place (cond (has_block o) 1 0) (count has_block (take i os))

  from_at : (place : ℕ) (offers : List Offer) (i : ℕ) → slice_get (taken_from place choice offers) i ≡ option_map (left_of choice (place + count has_block (take i offers))) (slice_get offers i)
  from_at place [] i = refl
  from_at place (o ∷ os) zero = ap (λ p. option_map (left_of choice p) (slice_get (o ∷ os) zero)) (sym (add-zero place))
  from_at place (o ∷ os) (suc i) = from_at (place + cond (has_block o) 1 0) os i ∙ ap (λ p. option_map (left_of choice p) (slice_get os i)) (blocks_on place i o os)

  flag_at : (place : ℕ) (offers : List Offer) (i : ℕ) → slice_get (takes_from place choice offers) i ≡ option_map (takes_it choice (place + count has_block (take i offers))) (slice_get offers i)
  flag_at place [] i = refl
  flag_at place (o ∷ os) zero = ap (λ p. option_map (takes_it choice p) (slice_get (o ∷ os) zero)) (sym (add-zero place))
  flag_at place (o ∷ os) (suc i) = flag_at (place + cond (has_block o) 1 0) os i ∙ ap (λ p. option_map (takes_it choice p) (slice_get os i)) (blocks_on place i o os)

  pub taken_at : (offers : List Offer) (i : ℕ) → slice_get (taken choice offers) i ≡ option_map (left_of choice (count has_block (take i offers))) (slice_get offers i)
  taken_at offers i = from_at 0 offers i ∙ ap (λ p. option_map (left_of choice p) (slice_get offers i)) (zero-add (count has_block (take i offers)))

  pub takes_at : (offers : List Offer) (i : ℕ) → slice_get (takes choice offers) i ≡ option_map (takes_it choice (count has_block (take i offers))) (slice_get offers i)
  takes_at offers i = flag_at 0 offers i ∙ ap (λ p. option_map (takes_it choice p) (slice_get offers i)) (zero-add (count has_block (take i offers)))
