-- A grid: rows and columns over a list of cells. Assumes nothing.
use Rattle.std.specs.Prelude.{◌≡◌, ℕ, ◌+◌, ◌*◌, ◌≤◌, cond, ◌&&◌, List, length, take, drop, replicate, Some, None, Option, nat_le, nat_lt, slice_set}
use Rattle.std.specs.Borrow.{MutBor}
use Rattle.std.specs.List.{slice_get}
use Rattle.std.specs.Option.{option_map, option_and_then}
use Rattle.cost.specs.declared.grid.Grid.{Grid}

pub record Table (C : Type 0) : Type 0 where
  pub rows : ℕ
  pub columns : ℕ
  pub cells : List C

-- what a grid means
abbrev pub table : {C : Type 0} → Grid C → Table C
table g = record { rows = g.rows; columns = g.columns; cells = g.cells.now }

-- all rows lie within the cells
abbrev pub Fitted : {C : Type 0} → Table C → Type 0
Fitted t = t.rows * t.columns ≤ length t.cells

-- the grid lies over this slice, as so many rows and columns, and they fit
pub record Laid {C : Type 0} (rows columns : ℕ) (slice : MutBor (List C)) (g : Grid C) : Type 0 where
  pub means : table g ≡ record { rows = rows; columns = columns; cells = slice.now }
  pub fits : Fitted (table g)
  pub over : g.cells.ghost_name ≡ slice.ghost_name

-- where row i begins, if it is one of the rows and the whole of it lies within the cells
abbrev pub row_start : {C : Type 0} → Table C → ℕ → Option ℕ
row_start t i = cond (nat_lt i t.rows && nat_le (i * t.columns + t.columns) (length t.cells)) (Some (i * t.columns)) None

-- row i, as a part of the cells
abbrev pub row_of : {C : Type 0} → Table C → ℕ → Option (List C)
row_of t i = option_map (λ from. take t.columns (drop from t.cells)) (row_start t i)

-- where row i has its column j
abbrev pub place : {C : Type 0} → Table C → ℕ → ℕ → Option ℕ
place t i j = cond (nat_lt j t.columns) (option_map (λ from. from + j) (row_start t i)) None

-- the cell in row i and column j
abbrev pub cell : {C : Type 0} → Table C → ℕ → ℕ → Option C
cell t i j = option_and_then (slice_get t.cells) (place t i j)

-- the cells with x at a place, if there is one
abbrev pub put_at : {C : Type 0} → List C → Option ℕ → C → List C
put_at cells None x = cells
put_at cells (Some at) x = slice_set cells at x

-- the table with x in row i and column j, and all else as it was
abbrev pub with_cell : {C : Type 0} → Table C → ℕ → ℕ → C → Table C
with_cell t i j x = record { rows = t.rows; columns = t.columns; cells = put_at t.cells (place t i j) x }

-- the table with x in every cell
abbrev pub filled : {C : Type 0} → Table C → C → Table C
filled t x = record { rows = t.rows; columns = t.columns; cells = replicate (length t.cells) x }
