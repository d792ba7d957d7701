-- A sheet, line by line: the form of each line, then its values, marks, order and part month. Assumes nothing.
use Rattle.std.specs.Prelude.{ℕ, zero, suc, ◌+◌, Bool, true, cond, not, ◌&&◌, ◌||◌, List, [], ◌∷◌, map, length, is_some, Some, None, Ok, codes, Option, Result, ◌==◌, nat_le, nat_lt, slice_index}
use Rattle.std.specs.List.{list_all, range_with_len}
use Rattle.std.specs.Option.{ok_or}
pub use Rattle.text.specs.Judging.{◌>>=◌, ◌>>◌, must}
use Rattle.text.specs.Form.{Reads, between, field, ended, whole, price, line_of, keyed, named}
use Rattle.sheet.specs.declared.product.Product.{Product}
use Rattle.sheet.specs.declared.product.Product.TheVariants.{Rapid, Complementary}
use Rattle.sheet.specs.declared.fault.SheetFault.{SheetFault}
use Rattle.sheet.specs.declared.fault.SheetFault.TheVariants.{Form, Value, Marks, Order, PartMonth}
use Rattle.sheet.specs.Limits.{highest_number, lowest_floor, highest_floor, most_ranges, widest, highest_price, highest_block}
use Rattle.sheet.specs.Offer.{Offer, total}

-- what line l says, and the text after it
abbrev pub Line : Type 0 → Type 0
Line X = (l : ℕ) → List ℕ → Result (X × List ℕ) SheetFault

-- a line of this form, with values in their range, and what it says
abbrev pub line : {X Y : Type 0} → Reads X → (X → Bool) → (X → Y) → Line Y
line reads fits says l text = do
  (x, rest) ← ok_or (reads text) (Form l)
  must (fits x) (Value l)
  Ok (says x, rest)

abbrev pub itself : {X : Type 0} → X → X
itself x = x

-- a line whose values must agree as well
abbrev pub agreeing : {X : Type 0} → (ℕ → SheetFault) → (X → Bool) → Line X → Line X
agreeing fault agree reads l text = do
  (x, rest) ← reads l text
  must (agree x) (fault l)
  Ok (x, rest)

abbrev pub every : {X : Type 0} → (X → Bool) → List X → Bool
every test xs = list_all test xs

-- each is tied to the next
abbrev pub chain : (ℕ → ℕ → Bool) → List ℕ → Bool
chain tied [] = true
chain tied (x ∷ []) = true
chain tied (x ∷ y ∷ ys) = tied x y && chain tied (y ∷ ys)

-- ---- lines 1 to 6: who offers, and what

abbrev pub identifier_line : Line (List ℕ × ℕ)
identifier_line = line named (λ id. nat_le id.1 highest_number) itself

abbrev pub floor_line : Line ℕ
floor_line = line (keyed (codes "seuil_minimum;")) (between lowest_floor highest_floor) itself

abbrev pub dmo : Product → ℕ
dmo Rapid = 13
dmo Complementary = 30

abbrev pub product_line : Line Product
product_line = line (keyed (codes "DMO;")) (λ n. (n == dmo Rapid) || n == dmo Complementary) (λ n. cond (n == dmo Rapid) Rapid Complementary)

abbrev pub domax : Product → ℕ
domax Rapid = 120
domax Complementary = 90

abbrev pub domax_line : Product → Line ℕ
domax_line product = line (keyed (codes "DOmax;")) (λ n. n == domax product) itself

abbrev pub mark_line : List ℕ → Line Bool
mark_line keyword = line (keyed keyword) (λ n. nat_le n 1) (λ n. n == 1)

pub record Head : Type 0 where
  pub name : List ℕ
  pub number : ℕ
  pub floor : ℕ
  pub product : Product
  pub observed : Bool
  pub short : Bool

-- so many lines before it
abbrev pub head : (before : ℕ) → List ℕ → Result (Head × List ℕ) SheetFault
head before text = do
  (id, r1) ← identifier_line (before + 1) text
  (floor, r2) ← floor_line (before + 2) r1
  (product, r3) ← product_line (before + 3) r2
  (longest, r4) ← domax_line product (before + 4) r3
  (observed, r5) ← mark_line (codes "Obs_Stat;") (before + 5) r4
  (short, r6) ← mark_line (codes "DOmin;") (before + 6) r5
  must (not (observed && short)) (Marks (before + 6))
  Ok (record { name = id.0; number = id.1; floor = floor; product = product; observed = observed; short = short }, r6)

-- ---- lines 7 to 9: how many ranges, periods and blocks; the ranges; the periods. T is the month's number of periods

pub record Shape : Type 0 where
  pub ranges : ℕ
  pub periods : ℕ
  pub blocks : ℕ

abbrev pub shape_of : List ℕ → Shape
shape_of counts = record { ranges = slice_index counts 0; periods = slice_index counts 1; blocks = slice_index counts 2 }

abbrev pub shape_fits : (T : ℕ) → Shape → Bool
shape_fits T s = between 1 most_ranges s.ranges && between 1 T s.periods && nat_le s.blocks 1

-- a block is for the whole month
abbrev pub shape_line : (T : ℕ) → Line Shape
shape_line T = agreeing PartMonth (λ s. (s.blocks == 0) || s.periods == T) (line (line_of whole 3) (λ counts. shape_fits T (shape_of counts)) shape_of)

-- the first range is the floor
abbrev pub widths_fit : (floor : ℕ) → List ℕ → Bool
widths_fit floor ws = every (between 1 widest) ws && slice_index ws 0 == floor && nat_le (total ws) widest

abbrev pub width_line : (n floor : ℕ) → Line (List ℕ)
width_line n floor = line (line_of whole n) (widths_fit floor) itself

abbrev pub period_line : (T m : ℕ) → Line (List ℕ)
period_line T m = agreeing Order (chain nat_lt) (line (line_of whole m) (every (between 1 T)) itself)

-- ---- the lines of prices, and the block's

abbrev pub price_line : (n : ℕ) → Line (List ℕ)
price_line n = agreeing Order (chain nat_le) (line (line_of price n) (every (between 0 highest_price)) itself)

abbrev pub price_lines : (n m : ℕ) → Line (List (List ℕ))
price_lines n zero l text = Ok ([], text)
price_lines n (suc m) l text = do
  (row, rest) ← price_line n l text
  (rows, rest') ← price_lines n m (l + 1) rest
  Ok (row ∷ rows, rest')

abbrev pub block_line : (blocks : ℕ) → Line (Option ℕ)
block_line zero l text = Ok (None, text)
block_line (suc _) l text = line (ended 10 (field price)) (λ p. nat_le p highest_block) Some l text

-- ---- the sheet

-- the row of period t, if it is one of the priced periods
abbrev pub row_of : (periods : List ℕ) → List (List ℕ) → (t : ℕ) → Option (List ℕ)
row_of [] rows t = None
row_of (p ∷ ps) [] t = None
row_of (p ∷ ps) (row ∷ rows) t = cond (p == t) (Some row) (row_of ps rows t)

abbrev pub offer_of : (T : ℕ) → Head → (widths periods : List ℕ) → List (List ℕ) → Option ℕ → Offer
offer_of T h widths periods rows block = record {
  name = h.name;
  number = h.number;
  floor = h.floor;
  product = h.product;
  observed = h.observed;
  short = h.short;
  widths = widths;
  rows = map (row_of periods rows) (range_with_len 1 T);
  block = block;
}

-- a sheet at the front of a text, so many lines before it, in a month of T periods: its offer, and the text after it
abbrev pub read : (T before : ℕ) → List ℕ → Result (Offer × List ℕ) SheetFault
read T before text = do
  (h, r6) ← head before text
  (shape, r7) ← shape_line T (before + 7) r6
  (widths, r8) ← width_line shape.ranges h.floor (before + 8) r7
  (periods, r9) ← period_line T shape.periods (before + 9) r8
  (rows, r10) ← price_lines shape.ranges shape.periods (before + 10) r9
  (block, rest) ← block_line shape.blocks (before + 10 + shape.periods) r10
  Ok (offer_of T h widths periods rows block, rest)

-- the priced periods from t on, with their prices
abbrev pub priced : (t : ℕ) → List (Option (List ℕ)) → List (ℕ × List ℕ)
priced t [] = []
priced t (None ∷ rows) = priced (t + 1) rows
priced t (Some row ∷ rows) = (t, row) ∷ priced (t + 1) rows

-- how many lines a sheet has
abbrev pub lines : Offer → ℕ
lines o = 9 + length (priced 1 o.rows) + cond (is_some o.block) 1 0

-- one sheet and nothing else
abbrev pub read_alone : (T : ℕ) → List ℕ → Result Offer SheetFault
read_alone T text = do
  (offer, rest) ← read T 0 text
  must (length rest == 0) (Form (lines offer + 1))
  Ok offer
