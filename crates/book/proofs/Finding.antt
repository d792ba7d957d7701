-- The place of an offer among those that are kept.
use Rattle.std.proofs.Common.{◌≡◌, ℕ, ◌+◌, cond, List, [], ◌∷◌, map, Some, refl, ap}
use Rattle.std.specs.List.{position_from}
use Rattle.sheet.specs.declared.offer.Offer.{Offer as Kept}
use Rattle.sheet.specs.Facts.{facts}
use Rattle.book.specs.Limits.{is}
use Rattle.book.specs.Table.{place_from}

pub position_kept : (name : List ℕ) (number i : ℕ) (offers : List Kept) → position_from (λ o. is name number (facts o)) i offers ≡ place_from i name number (map facts offers)
position_kept name number i [] = refl
position_kept name number i (o ∷ os) = ap (λ later. cond (is name number (facts o)) (Some i) later) (position_kept name number (i + 1) os)
