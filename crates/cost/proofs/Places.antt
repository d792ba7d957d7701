-- Cells of a grid: where they are, and what a value put into one of them leaves. Assumes nothing.
use Rattle.std.proofs.Common.{◌≡◌, ℕ, ◌+◌, ◌*◌, ◌/◌, ◌%◌, ◌<◌, ◌≤◌, List, [], ◌∷◌, length, get_or, set, Some, None, Option, sym, refl, ap, ◌∙◌, mul-le-mul_right, add-mul, arith, length-set, replicate}
use Rattle.std.specs.List.{slice_get, FoldsTo}
use Rattle.std.specs.Option.{option_and_then}
use Rattle.std.proofs.lemmas.Nat.{div-mul-add, mod-mul-add}
use Rattle.std.proofs.lemmas.List.{get_or-set_same}
use Rattle.std.proofs.lemmas.Option.{slice_get-get_or, slice_get_read, gets}
use Rattle.std.proofs.lemmas.Grind.{common_steps}
use Rattle.std.proofs.lemmas.Bool.Decides.{nat_tests}
use Rattle.std.proofs.lemmas.Bool.{lt-ltb, le-leb}
use Rattle.cost.specs.Grid.{Table, Fitted, row_start, place, cell, put_at, with_cell}

nth_set_other : {C : Type 0} (xs : List C) (k m : ℕ) (x : C) → (m ≡ k → ⊥) → slice_get (set xs k x) m ≡ slice_get xs m
nth_set_other xs k m x apart = grind (arith, common_steps, gets)

nth_not_none : {C : Type 0} (xs : List C) (k : ℕ) → k < length xs → slice_get xs k ≡ None → ⊥
nth_not_none xs k h e = grind (arith, common_steps, gets)

module _ {C : Type 0} (t : Table C) (fits : Fitted t) where
  -- the end of a row
  row_end : (i : ℕ) → i < t.rows → i * t.columns + t.columns ≤ length t.cells
  row_end i h =
      let m : (i + 1) * t.columns ≤ t.rows * t.columns = mul-le-mul_right t.columns (omega arith) in
      omega (arith, add-mul i 1 t.columns)

  pub start_there : (i : ℕ) → i < t.rows → row_start t i ≡ Some (i * t.columns)
  start_there i h = rw (lt-ltb i t.rows h, le-leb (i * t.columns + t.columns) (length t.cells) (row_end i h))

  module _ (i j : ℕ) (row : i < t.rows) (column : j < t.columns) where
    pub place_there : place t i j ≡ Some (i * t.columns + j)
    place_there = rw (lt-ltb j t.columns column, start_there i row)

    pub place_within : i * t.columns + j < length t.cells
    place_within = omega (arith, row_end i row)

    pub cell_there : (d : C) → cell t i j ≡ Some (get_or t.cells (i * t.columns + j) d)
    cell_there d = rw place_there (slice_get-get_or t.cells (i * t.columns + j) d place_within)

    pub cell_not_none : cell t i j ≡ None → ⊥
    cell_not_none e = nth_not_none t.cells (i * t.columns + j) place_within (rw place_there at e)

    pub put_there : (x : C) → with_cell t i j x ≡ record { rows = t.rows; columns = t.columns; cells = set t.cells (i * t.columns + j) x }
    put_there x = rw place_there

put_length : {C : Type 0} (cells : List C) (p : Option ℕ) (x : C) → length (put_at cells p x) ≡ length cells
put_length cells None x = refl
put_length cells (Some at) x = length-set cells at x

-- a value put into a cell leaves all rows within the cells
pub put_fits : {C : Type 0} (t : Table C) (i j : ℕ) (x : C) → Fitted t → Fitted (with_cell t i j x)
put_fits t i j x fits = rw (put_length t.cells (place t i j) x) fits

-- and all cells in their places
put_places : {C : Type 0} (t : Table C) (i j : ℕ) (x : C) (i' j' : ℕ) → place (with_cell t i j x) i' j' ≡ place t i' j'
put_places t i j x i' j' = rw (put_length t.cells (place t i j) x)

-- what a place says of its row and column
place_is : {C : Type 0} (t : Table C) (i j k : ℕ) → place t i j ≡ Some k → (k ≡ i * t.columns + j) × (j < t.columns)
place_is t i j k e = grind (arith, common_steps, nat_tests)

-- one place, one row and column
places_apart : (w i j i' j' : ℕ) → j < w → j' < w → i * w + j ≡ i' * w + j' → (i ≡ i') × (j ≡ j')
places_apart w i j i' j' h h' e =
    (sym (div-mul-add i w j h) ∙ ap (λ n. n / w) e ∙ div-mul-add i' w j' h', sym (mod-mul-add i w j h) ∙ ap (λ n. n % w) e ∙ mod-mul-add i' w j' h')

put_elsewhere : {C : Type 0} (cells : List C) (p q : Option ℕ) (x : C) → ((k m : ℕ) → p ≡ Some k → q ≡ Some m → m ≡ k → ⊥) → option_and_then (slice_get (put_at cells p x)) q ≡ option_and_then (slice_get cells) q
put_elsewhere cells None q x apart = refl
put_elsewhere cells (Some k) None x apart = refl
put_elsewhere cells (Some k) (Some m) x apart = nth_set_other cells k m x (apart k m refl refl)

-- a value put into a cell leaves every other cell as it was
pub cell_other : {C : Type 0} (t : Table C) (i j i' j' : ℕ) (x : C) → (i' ≡ i → j' ≡ j → ⊥) → cell (with_cell t i j x) i' j' ≡ cell t i' j'
cell_other t i j i' j' x apart =
    rw (put_places t i j x i' j') (put_elsewhere t.cells (place t i j) (place t i' j') x (λ k m e e' same.
    let a = place_is t i j k e in
    let b = place_is t i' j' m e' in
    let both = places_apart t.columns i' j' i j b.1 a.1 (sym b.0 ∙ same ∙ a.0) in
    apart both.0 both.1))

-- and the cell itself at the value
pub cell_same : {C : Type 0} (t : Table C) → Fitted t → (i j : ℕ) → i < t.rows → j < t.columns → (x : C) → cell (with_cell t i j x) i j ≡ Some x
cell_same t fits i j row column x =
    let p = i * t.columns + j in
    let there = place_there t fits i j row column in
    let lt : p < length t.cells = place_within t fits i j row column in
    rw (put_places t i j x i j, there) (slice_get_read (set t.cells p x) (length t.cells) p x (sym (length-set t.cells p x)) lt (sym (get_or-set_same t.cells p x x lt)))

-- calls that give x and change nothing give a list of x alone
pub only_from_calls : {F C : Type 0} (step : F → C → F → Type 0) (f : F) (x : C) → ((y : C) (h : F) → step f y h → (h ≡ f) × (y ≡ x)) → (ys : List C) (last : F) → FoldsTo step f ys last → ys ≡ replicate (length ys) x
only_from_calls step f x gives [] last run = refl
only_from_calls step f x gives (y ∷ ys) last run =
    let call = gives y run.0 run.1 in
    let rest = only_from_calls step f x gives ys last (rw call.0 at run.2) in
    λ i. call.1 i ∷ rest i
