-- What holds of each element, and texts one after another.
use Rattle.std.proofs.Common.{◌≡◌, ℕ, Bool, true, List, [], ◌∷◌, ◌++◌, map, refl, ap, ◌∙◌, append_assoc}
use Rattle.std.proofs.lemmas.Bool.{and_from, and_parts}
use Rattle.std.specs.List.{concat, AllByRecursion}
use Rattle.sheet.specs.Sheet.{every}

pub every_from : {X : Type 0} (P : X → Type 0) (test : X → Bool) → ((x : X) → P x → test x ≡ true) → (xs : List X) → AllByRecursion P xs → every test xs ≡ true
every_from P test f [] all = refl
every_from P test f (x ∷ xs) all = and_from (test x) (every test xs) (f x all.0) (every_from P test f xs all.1)

pub all_from_every : {X : Type 0} (test : X → Bool) (P : X → Type 0) → ((x : X) → test x ≡ true → P x) → (xs : List X) → every test xs ≡ true → AllByRecursion P xs
all_from_every test P f [] h = tt
all_from_every test P f (x ∷ xs) h = let both = and_parts (test x) (every test xs) h in (f x both.0, all_from_every test P f xs both.1)

pub map_twice : {X Y Z : Type 0} (f : X → Y) (g : Y → Z) (xs : List X) → map (λ x. g (f x)) xs ≡ map g (map f xs)
map_twice f g [] = refl
map_twice f g (x ∷ xs) = ap (λ l. g (f x) ∷ l) (map_twice f g xs)

-- texts one after another, and then the rest
abbrev pub then_texts : List (List ℕ) → List ℕ → List ℕ
then_texts [] rest = rest
then_texts (t ∷ ts) rest = t ++ then_texts ts rest

pub joined_then : (ts : List (List ℕ)) (rest : List ℕ) → concat ts ++ rest ≡ then_texts ts rest
joined_then [] rest = refl
joined_then (t ∷ ts) rest = append_assoc t (concat ts) rest ∙ ap (λ l. t ++ l) (joined_then ts rest)
