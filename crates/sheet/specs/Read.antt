-- What the readers of a sheet answer, by its meaning. Assumes nothing.
use Rattle.std.specs.Prelude.{◌≡◌, ℕ, ◌+◌, ◌-◌, ◌^◌, ◌≤◌, min, Bool, true, List, map, length, Ok, Err, Option, Result, nat_le, nat_lt, cond, Some, None, ◌==◌}
use Rattle.std.specs.Borrow.{Bor}
use Rattle.std.specs.List.{range_with_len, AllByRecursion}
use Rattle.sheet.specs.declared.fault.SheetFault.{SheetFault}
use Rattle.sheet.specs.declared.fault.SheetFault.TheVariants.{Form, Value}
use Rattle.sheet.specs.declared.head.Head.{Head as KeptHead}
use Rattle.sheet.specs.declared.reader.Reader.{Reader}
use Rattle.sheet.specs.declared.shape.Shape.{Shape as KeptShape}
use Rattle.sheet.specs.declared.offer.Offer.{Offer as Kept}
use Rattle.sheet.specs.declared.product.Product.{Product}
use Rattle.sheet.specs.declared.product.Product.TheVariants.{Rapid, Complementary}
use Rattle.sheet.specs.Facts.{facts}
use Rattle.sheet.specs.Limits.{most_periods}
use Rattle.sheet.specs.Offer.{Offer}
use Rattle.sheet.specs.Sheet.{◌>>=◌ as ◌>>>=◌, Line, chain, dmo, Head, head, Shape, shape_line, width_line, period_line, price_lines, block_line, row_of}

-- what a line says, and the text after it
abbrev pub line_read : {X Y : Type 0} → (X → Y) → Result (X × Bor (List ℕ)) SheetFault → Result (Y × List ℕ) SheetFault
line_read says (Err f) = Err f
line_read says (Ok (x, rest)) = Ok (says x, rest.now)

-- what a line says, and the text that is then left
abbrev pub says_to : {X Y : Type 0} → (X → Y) → (rest : List ℕ) → Result X SheetFault → Result (Y × List ℕ) SheetFault
says_to says rest (Err f) = Err f
says_to says rest (Ok x) = Ok (says x, rest)

-- the highest line that can be counted
abbrev pub last_line : ℕ
last_line = 2 ^ 32 - 1

-- the number of the line after line l, as far as lines can be counted
abbrev pub next_line : (l : ℕ) → ℕ
next_line l = min (l + 1) last_line

-- how a reader read its next line: it counts the line, and what it answers means what the line says
pub record ReadsLine {X Y : Type 0} (meaning : X → Y) (line : Line Y) (before after : Reader) (result : Result X SheetFault) : Type 0 where
  pub counts : after.line ≡ next_line before.line
  pub says : says_to meaning after.rest.now result ≡ line after.line before.rest.now

-- the fault of line l, of which this was read: it has not the form, or values that do not fit
abbrev pub RefusesLine : {X R : Type 0} → (l : ℕ) → (Unfit : X → Type 0) → Option (X × R) → SheetFault → Type 0
RefusesLine l Unfit None fault = fault ≡ Form l
RefusesLine l Unfit (Some (x, rest)) fault = (fault ≡ Value l) × Unfit x

-- a name's bytes and the number beside it
abbrev pub name_says : Bor (List ℕ) × ℕ → List ℕ × ℕ
name_says (name, number) = (name.now, number)

-- the product on whose sheets a number stands after DMO
abbrev pub product_of : ℕ → Option Product
product_of n = cond (n == dmo Rapid) (Some Rapid) (cond (n == dmo Complementary) (Some Complementary) None)

-- what a number that is a mark says
abbrev pub flag_of : ℕ → Option Bool
flag_of n = cond (nat_le n 1) (Some (n == 1)) None

-- how many blocks there are: one or none
abbrev pub shape_says : KeptShape → Shape
shape_says s = record { ranges = s.ranges; periods = s.periods; blocks = cond s.block 1 0 }

abbrev pub head_says : KeptHead → Head
head_says h = record { name = h.name.now; number = h.number; floor = h.floor; product = h.product; observed = h.observed; short = h.short }

-- m lines of prices, of these periods: the row of each period of a month of T periods
abbrev pub month_rows : (T n m : ℕ) → (periods : List ℕ) → Line (List (Option (List ℕ)))
month_rows T n m periods l text = price_lines n m l text >>>= (λ p. Ok (map (row_of periods p.0) (range_with_len 1 T), p.1))

-- so many rising periods of a month of T periods
pub record InMonth (T count : ℕ) (periods : List ℕ) : Type 0 where
  pub long : length periods ≡ count
  pub each : AllByRecursion (λ p. (1 ≤ p) × (p ≤ T)) periods
  pub rising : chain nat_lt periods ≡ true

-- the offer of these lines, with the row of each period of the month
abbrev pub by_month : Head → (widths : List ℕ) → (rows : List (Option (List ℕ))) → (block : Option ℕ) → Offer
by_month h widths rows block = record {
  name = h.name;
  number = h.number;
  floor = h.floor;
  product = h.product;
  observed = h.observed;
  short = h.short;
  widths = widths;
  rows = rows;
  block = block;
}

abbrev pub read_by_month : (T before : ℕ) → List ℕ → Result (Offer × List ℕ) SheetFault
read_by_month T before text =
    head before text >>>= λ p.
    shape_line T (before + 7) p.1 >>>= λ q.
    width_line q.0.ranges p.0.floor (before + 8) q.1 >>>= λ w.
    period_line T q.0.periods (before + 9) w.1 >>>= λ t.
    month_rows T q.0.ranges q.0.periods t.0 (before + 10) t.1 >>>= λ m.
    block_line q.0.blocks (before + 10 + q.0.periods) m.1 >>>= λ b.
    Ok (by_month p.0 w.0 m.0 b.0, b.1)

-- a month has at most 11 periods: more are taken for 11
abbrev pub month_of : (periods : ℕ) → ℕ
month_of periods = min periods most_periods

-- an offer and nothing else
abbrev pub alone_read : Result Kept SheetFault → Result Offer SheetFault
alone_read (Err f) = Err f
alone_read (Ok o) = Ok (facts o)
