-- What follows a keyword, as the library's method tells it.
use Rattle.std.proofs.Common.{◌≡◌, ℕ, Bool, true, false, cond, ◌&&◌, eqb, List, [], ◌∷◌, length, take, drop, Some, None, refl}
use Rattle.std.specs.Cmp.Lexicographic.{pointwise}
use Rattle.text.specs.Form.{after}

pub after_by_part : (keyword text : List ℕ) → after keyword text ≡ cond (pointwise eqb (take (length keyword) text) keyword) (Some (drop (length keyword) text)) None
after_by_part [] text = refl
after_by_part (k ∷ ks) [] = refl
after_by_part (k ∷ ks) (b ∷ bs) = go (eqb b k) (after_by_part ks bs)
  where
    go : (t : Bool) → after ks bs ≡ cond (pointwise eqb (take (length ks) bs) ks) (Some (drop (length ks) bs)) None → cond t (after ks bs) None ≡ cond (t && pointwise eqb (take (length ks) bs) ks) (Some (drop (length ks) bs)) None
    go true same = same
    go false same = refl
