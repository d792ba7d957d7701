-- Elements and their partners. Assumes nothing.
use Rattle.std.proofs.Common.{List, [], ◌∷◌}
use Rattle.clearing.specs.Words.{Partners}

pub partners_weaker : {X Y : Type 0} (P Q : X → Y → Type 0) → ((x : X) (y : Y) → P x y → Q x y) → (xs : List X) (ys : List Y) → Partners P xs ys → Partners Q xs ys
partners_weaker P Q f [] [] h = tt
partners_weaker P Q f [] (y ∷ ys) h = h
partners_weaker P Q f (x ∷ xs) [] h = h
partners_weaker P Q f (x ∷ xs) (y ∷ ys) h = (f x y h.0, partners_weaker P Q f xs ys h.1)
