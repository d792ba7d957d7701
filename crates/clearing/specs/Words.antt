-- Words for lists that the rules are written in. Assumes nothing.
use Rattle.std.specs.Prelude.{◌≡◌, ℕ, ◌<◌, ◌⊎◌, List, [], ◌∷◌, ◌++◌, replicate}

abbrev pub together : {X : Type 0} → List (List X) → List X
together [] = []
together (xs ∷ xss) = xs ++ together xss

-- each element so many times, as long as there are both
abbrev pub repeated : {X : Type 0} → List ℕ → List X → List X
repeated [] xs = []
repeated (n ∷ ns) [] = []
repeated (n ∷ ns) (x ∷ xs) = replicate n x ++ repeated ns xs

-- what f makes of each element and its partner
abbrev pub each : {X Y Z : Type 0} → (X → Y → Z) → List X → List Y → List Z
each f [] ys = []
each f (x ∷ xs) [] = []
each f (x ∷ xs) (y ∷ ys) = f x y ∷ each f xs ys

-- each element has a partner, and P holds of the two
abbrev pub Partners : {X Y : Type 0} → (X → Y → Type 0) → List X → List Y → Type 0
Partners P [] [] = Unit {0}
Partners P [] (y ∷ ys) = ⊥
Partners P (x ∷ xs) [] = ⊥
Partners P (x ∷ xs) (y ∷ ys) = P x y × Partners P xs ys

-- P holds of some element and its partner
abbrev pub SomePartner : {X Y : Type 0} → (X → Y → Type 0) → List X → List Y → Type 0
SomePartner P [] ys = ⊥
SomePartner P (x ∷ xs) [] = ⊥
SomePartner P (x ∷ xs) (y ∷ ys) = P x y ⊎ SomePartner P xs ys

-- at the first place that differs, the lower number
abbrev pub Lower : List ℕ → List ℕ → Type 0
Lower [] ys = ⊥
Lower (x ∷ xs) [] = ⊥
Lower (x ∷ xs) (y ∷ ys) = (x < y) ⊎ ((x ≡ y) × Lower xs ys)
