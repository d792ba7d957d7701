-- Amendments and withdrawals by the place of the offer.
use Rattle.std.proofs.Common.{◌≡◌, ℕ, ◌+◌, ◌≤◌, true, false, List, ◌++◌, map, take, drop, is_some, Some, None, Ok, Err, Option, sym, refl, ap, ◌∙◌, add-one}
use Rattle.std.specs.List.{remove}
use Rattle.std.specs.Option.{ok_or}
use Rattle.std.proofs.lemmas.List.{map-append, take-map, drop-map}
use Rattle.sheet.specs.Facts.{facts}
use Rattle.sheet.specs.Offer.{Offer}
use Rattle.sheet.specs.declared.offer.Offer.{Offer as Kept}
use Rattle.book.specs.Calls.{amendable, withdrawable}
use Rattle.book.specs.Limits.{is, count}
use Rattle.book.specs.Roll.{stands, beside}
use Rattle.book.specs.Table.{place_of}
use Rattle.book.specs.declared.fault.RegisterFault.{RegisterFault}
use Rattle.book.specs.declared.fault.RegisterFault.TheVariants.{Unknown}
use Rattle.book.proofs.Placed.{stands_placed, others_placed}

-- what `ok_or` makes of a place that is not there
pub passed_nowhere : (found : Option ℕ) (fault : RegisterFault) → Err fault ≡ ok_or found Unknown → (found ≡ None) × (fault ≡ Unknown)
passed_nowhere None fault e = let same : fault ≡ Unknown = cc in (refl, same)
passed_nowhere (Some i) fault e = absurd (cc)

-- the offers without the one at a place
pub removed : (kept : List Kept) (i : ℕ) → map facts (remove kept i) ≡ take i (map facts kept) ++ drop (i + 1) (map facts kept)
removed kept i =
    ap (λ k. map facts (take i kept ++ drop k kept)) (sym (add-one i))
    ∙ map-append facts (take i kept) (drop (i + 1) kept)
    ∙ ap (λ front. front ++ map facts (drop (i + 1) kept)) (sym (take-map facts i kept))
    ∙ ap (λ back. take i (map facts kept) ++ back) (sym (drop-map facts (i + 1) kept))

module _ (name : List ℕ) (number : ℕ) (offers : List Offer) where
  pub nowhere : place_of name number offers ≡ None → stands name number offers ≡ false
  nowhere none = stands_placed name number offers ∙ ap is_some none

  pub somewhere : (i : ℕ) → place_of name number offers ≡ Some i → stands name number offers ≡ true
  somewhere i found = stands_placed name number offers ∙ ap is_some found

  pub withdrawn_nowhere : place_of name number offers ≡ None → Err Unknown ≡ withdrawable name number offers
  withdrawn_nowhere none = rw (nowhere none) refl

  pub withdrawn_somewhere : (i : ℕ) → place_of name number offers ≡ Some i → Ok tt ≡ withdrawable name number offers
  withdrawn_somewhere i found = rw (somewhere i found) refl

module _ (T : ℕ) (offers : List Offer) (o : Offer) where
  pub amended_nowhere : place_of o.name o.number offers ≡ None → Err Unknown ≡ amendable T offers o
  amended_nowhere none = rw (nowhere o.name o.number offers none) refl

  pub amended_somewhere : (i : ℕ) → place_of o.name o.number offers ≡ Some i → count (is o.name o.number) offers ≤ 1 → amendable T offers o ≡ beside T (take i offers ++ drop (i + 1) offers) o
  amended_somewhere i found once = rw (somewhere o.name o.number offers i found) (ap (λ rest. beside T rest o) (others_placed o.name o.number offers i found once))
