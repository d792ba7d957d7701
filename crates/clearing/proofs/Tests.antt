-- Tests on lists, and what a passed test tells. Assumes nothing.
use Rattle.std.proofs.Common.{◌≡◌, ℕ, Bool, true, false, not, ◌&&◌, ◌||◌, T, eqb, ltb, ◌⊎◌, List, [], ◌∷◌, sym, refl, subst, inl, inr, eqb→eq, lt→ltb}
use mathlib.Core.List.{Memᴰ}
use lib.Dec.{eqb_refl}
use Rattle.std.specs.List.{AllByRecursion}
use Rattle.clearing.specs.Words.{Partners, Lower}

-- ---- tests joined

pub and_left : (a b : Bool) → T (a && b) → T a
and_left true b t = tt
and_left false b t = t

pub and_right : (a b : Bool) → T (a && b) → T b
and_right true b t = t
and_right false b t = absurd t

pub and_both : (a b : Bool) → T a → T b → T (a && b)
and_both true b s t = t
and_both false b s t = s

pub or_left : (a b : Bool) → T a → T (a || b)
or_left true b t = tt
or_left false b t = absurd t

pub or_right : (a b : Bool) → T b → T (a || b)
or_right true b t = tt
or_right false b t = t

pub or_split : (a b : Bool) → T (a || b) → T a ⊎ T b
or_split true b t = inl tt
or_split false b t = inr t

pub implied : (a b : Bool) → T (not a || b) → T a → T b
implied true b s t = s
implied false b s t = absurd t

pub same_number : (a b : ℕ) → a ≡ b → T (eqb a b)
same_number a b e = subst (λ v. T (eqb a v)) e (eqb_refl a)

-- ---- lists

abbrev pub every : {X : Type 0} → (X → Bool) → List X → Bool
every f [] = true
every f (x ∷ xs) = f x && every f xs

pub every_all : {X : Type 0} (f : X → Bool) (xs : List X) → T (every f xs) → AllByRecursion (λ x. T (f x)) xs
every_all f [] t = tt
every_all f (x ∷ xs) t = (and_left (f x) (every f xs) t, every_all f xs (and_right (f x) (every f xs) t))

pub all_member : {X : Type 0} (P : X → Type 0) {x : X} {xs : List X} → Memᴰ x xs → AllByRecursion P xs → P x
all_member P (Memᴰ.head e) h = subst P (sym e) h.0
all_member P (Memᴰ.tail m) h = all_member P m h.1

abbrev pub same_list : List ℕ → List ℕ → Bool
same_list [] [] = true
same_list [] (y ∷ ys) = false
same_list (x ∷ xs) [] = false
same_list (x ∷ xs) (y ∷ ys) = eqb x y && same_list xs ys

pub same_list_refl : (xs : List ℕ) → T (same_list xs xs)
same_list_refl [] = tt
same_list_refl (x ∷ xs) = and_both (eqb x x) (same_list xs xs) (eqb_refl x) (same_list_refl xs)

pub same_list_is : (xs ys : List ℕ) → T (same_list xs ys) → xs ≡ ys
same_list_is [] [] t = refl
same_list_is [] (y ∷ ys) t = absurd t
same_list_is (x ∷ xs) [] t = absurd t
same_list_is (x ∷ xs) (y ∷ ys) t =
    let e = eqb→eq x y (and_left (eqb x y) (same_list xs ys) t) in
    let f = same_list_is xs ys (and_right (eqb x y) (same_list xs ys) t) in
    λ i. e i ∷ f i

abbrev pub lower : List ℕ → List ℕ → Bool
lower [] ys = false
lower (x ∷ xs) [] = false
lower (x ∷ xs) (y ∷ ys) = ltb x y || (eqb x y && lower xs ys)

pub lower_told : (xs ys : List ℕ) → Lower xs ys → T (lower xs ys)
lower_told [] ys h = h
lower_told (x ∷ xs) [] h = h
lower_told (x ∷ xs) (y ∷ ys) (inl h) = or_left (ltb x y) (eqb x y && lower xs ys) (lt→ltb x y h)
lower_told (x ∷ xs) (y ∷ ys) (inr (e, h)) = or_right (ltb x y) (eqb x y && lower xs ys) (and_both (eqb x y) (lower xs ys) (same_number x y e) (lower_told xs ys h))

abbrev pub partners : {X Y : Type 0} → (X → Y → Bool) → List X → List Y → Bool
partners f [] [] = true
partners f [] (y ∷ ys) = false
partners f (x ∷ xs) [] = false
partners f (x ∷ xs) (y ∷ ys) = f x y && partners f xs ys

pub partners_is : {X Y : Type 0} (f : X → Y → Bool) (P : X → Y → Type 0) → ((x : X) (y : Y) → T (f x y) → P x y) → (xs : List X) (ys : List Y) → T (partners f xs ys) → Partners P xs ys
partners_is f P is [] [] t = tt
partners_is f P is [] (y ∷ ys) t = t
partners_is f P is (x ∷ xs) [] t = t
partners_is f P is (x ∷ xs) (y ∷ ys) t = (is x y (and_left (f x y) _ t), partners_is f P is xs ys (and_right (f x y) _ t))

pub partners_told : {X Y : Type 0} (f : X → Y → Bool) (P : X → Y → Type 0) → ((x : X) (y : Y) → P x y → T (f x y)) → (xs : List X) (ys : List Y) → Partners P xs ys → T (partners f xs ys)
partners_told f P told [] [] h = tt
partners_told f P told [] (y ∷ ys) h = h
partners_told f P told (x ∷ xs) [] h = h
partners_told f P told (x ∷ xs) (y ∷ ys) h = and_both (f x y) (partners f xs ys) (told x y h.0) (partners_told f P told xs ys h.1)
