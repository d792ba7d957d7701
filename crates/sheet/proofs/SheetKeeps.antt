-- What is read keeps the limits of a sheet.
use Rattle.std.proofs.Common.{◌≡◌, ℕ, zero, suc, ◌+◌, ◌≤◌, Bool, true, false, ◌&&◌, ◌||◌, eqb, ltb, leb, List, [], ◌∷◌, length, get_or, Some, None, Ok, Err, codes, Option, Result, sym, refl, ap, subst, ⊎_elim, arith}
use Rattle.std.specs.Option.{ok_or}
use Rattle.std.proofs.lemmas.Bool.{leb-true, eqb-true, and_parts, or_cases}
use Rattle.std.specs.List.{AllByRecursion}
use Rattle.sheet.specs.declared.fault.SheetFault.{SheetFault}
use Rattle.sheet.specs.Limits.{highest_number, lowest_floor, highest_floor, most_ranges, widest, highest_price, highest_block}
use Rattle.sheet.specs.Offer.{total}
use Rattle.sheet.specs.declared.fault.SheetFault.TheVariants.{Form, Value, Order, PartMonth}
use Rattle.text.specs.Form.{Reads, between, field, ended, whole, price, line_of, keyed, named}
use Rattle.sheet.specs.Sheet.{◌>>=◌, ◌>>◌, must, Line, line, itself, agreeing, every, chain, identifier_line, floor_line, Shape, shape_of, shape_fits, shape_line, widths_fit, width_line, period_line, price_line, price_lines, block_line}
use Rattle.sheet.specs.Read.{InMonth}
use Rattle.sheet.specs.Saved.{RowFits, BlockFits}
use Rattle.sheet.proofs.Each.{all_from_every}
use Rattle.text.proofs.FormKeeps.{within_from, line_of_from, named_from}
use Rattle.text.specs.Laws.{Named}

pub ok_from : {X Y F : Type 0} (r : Result X F) (next : X → Result Y F) (y : Y) → (r >>= next) ≡ Ok y → (x : X) × (r ≡ Ok x) × (next x ≡ Ok y)
ok_from (Err f) next y h = absurd (let z : ◌≡◌ {A = ℕ} 0 1 = cc in omega arith)
ok_from (Ok x) next y h = (x, refl, h)

pub must_from : {Y F : Type 0} (t : Bool) (f : F) (next : Result Y F) (y : Y) → (must t f >> next) ≡ Ok y → (t ≡ true) × (next ≡ Ok y)
must_from true f next y h = (refl, h)
must_from false f next y h = absurd (let z : ◌≡◌ {A = ℕ} 0 1 = cc in omega arith)

-- the same with what follows from them
pub ok_case : {X Y F G : Type 0} (r : Result X F) (next : X → Result Y F) (y : Y) → (r >>= next) ≡ Ok y → ((x : X) → r ≡ Ok x → next x ≡ Ok y → G) → G
ok_case r next y h k = let a = ok_from r next y h in k a.0 a.1 a.2

pub must_case : {Y F G : Type 0} (t : Bool) (f : F) (next : Result Y F) (y : Y) → (must t f >> next) ≡ Ok y → (t ≡ true → next ≡ Ok y → G) → G
must_case t f next y h k = let a = must_from t f next y h in k a.0 a.1

pub ok_same : {X F : Type 0} (x y : X) → ◌≡◌ {A = Result X F} (Ok x) (Ok y) → x ≡ y
ok_same x y h = cc

pub some_from_ok : {X F : Type 0} (o : Option X) (f : F) (x : X) → ok_or o f ≡ Ok x → o ≡ Some x
some_from_ok None f x h = absurd (let z : ◌≡◌ {A = ℕ} 0 1 = cc in omega arith)
some_from_ok (Some x') f x h = cc

pub line_from : {X Y : Type 0} (reads : Reads X) (fits : X → Bool) (says : X → Y) (l : ℕ) (text : List ℕ) (s : Y × List ℕ) → line reads fits says l text ≡ Ok s → (p : X × List ℕ) × (reads text ≡ Some p) × (fits p.0 ≡ true) × (says p.0 ≡ s.0)
line_from reads fits says l text s h =
    let a = ok_from (ok_or (reads text) (Form l)) _ s h in
    let b = must_from (fits a.0.0) (Value l) _ s a.2 in
    let last = b.1 in
    let e : s ≡ (says a.0.0, a.0.1) = cc in
    (a.0, some_from_ok (reads text) (Form l) a.0 a.1, b.0, sym (ap (λ p. p.0) e))

pub agreeing_from : {X : Type 0} (fault : ℕ → SheetFault) (agree : X → Bool) (reads : Line X) (l : ℕ) (text : List ℕ) (s : X × List ℕ) → agreeing fault agree reads l text ≡ Ok s → (reads l text ≡ Ok s) × (agree s.0 ≡ true)
agreeing_from fault agree reads l text s h =
    let a = ok_from (reads l text) _ s h in
    let b = must_from (agree a.0.0) (fault l) _ s a.2 in
    let e : a.0 ≡ s = ok_same {F = SheetFault} a.0 s b.1 in
    (subst (λ p. reads l text ≡ Ok p) e a.1, subst (λ p. agree p.0 ≡ true) e b.0)

pub identifier_keeps : (l : ℕ) (text : List ℕ) (s : (List ℕ × ℕ) × List ℕ) → identifier_line l text ≡ Ok s → Named s.0.0 × (s.0.1 ≤ highest_number)
identifier_keeps l text s h =
    let a = line_from named (λ id. leb id.1 highest_number) itself l text s h in
    (subst (λ id. Named id.0) a.3 (named_from text a.0 a.1), subst (λ id. id.1 ≤ highest_number) a.3 (leb-true a.0.0.1 highest_number a.2))

pub floor_keeps : (l : ℕ) (text : List ℕ) (s : ℕ × List ℕ) → floor_line l text ≡ Ok s → (lowest_floor ≤ s.0) × (s.0 ≤ highest_floor)
floor_keeps l text s h =
    let a = line_from (keyed (codes "seuil_minimum;")) (between lowest_floor highest_floor) itself l text s h in
    subst (λ n. (lowest_floor ≤ n) × (n ≤ highest_floor)) a.3 (within_from lowest_floor highest_floor a.0.0 a.2)

pub record ShapeFits (T : ℕ) (s : Shape) : Type 0 where
  pub some_ranges : (1 ≤ s.ranges) × (s.ranges ≤ most_ranges)
  pub some_periods : (1 ≤ s.periods) × (s.periods ≤ T)
  pub month : (eqb s.blocks 0 || eqb s.periods T) ≡ true

pub shape_keeps : (T l : ℕ) (text : List ℕ) (s : Shape × List ℕ) → shape_line T l text ≡ Ok s → ShapeFits T s.0
shape_keeps T l text s h =
    let whole_month : Shape → Bool = λ v. eqb v.blocks 0 || eqb v.periods T in
    let d = agreeing_from PartMonth whole_month (line (line_of whole 3) (λ counts. shape_fits T (shape_of counts)) shape_of) l text s h in
    let a = line_from (line_of whole 3) (λ counts. shape_fits T (shape_of counts)) shape_of l text s d.0 in
    let v = shape_of a.0.0 in
    let b = and_parts (between 1 most_ranges v.ranges && between 1 T v.periods) (leb v.blocks 1) a.2 in
    let c = and_parts (between 1 most_ranges v.ranges) (between 1 T v.periods) b.0 in
    let fits : ShapeFits T v = record { some_ranges = within_from 1 most_ranges v.ranges c.0; some_periods = within_from 1 T v.periods c.1; month = subst (λ w. whole_month w ≡ true) (sym a.3) d.1 } in
    subst (ShapeFits T) a.3 fits

pub record WidthsFit (n floor : ℕ) (ws : List ℕ) : Type 0 where
  pub count : length ws ≡ n
  pub each : AllByRecursion (λ w. (1 ≤ w) × (w ≤ widest)) ws
  pub first : get_or ws 0 0 ≡ floor
  pub all : total ws ≤ widest

pub widths_keep : (n floor l : ℕ) (text : List ℕ) (s : List ℕ × List ℕ) → width_line n floor l text ≡ Ok s → WidthsFit n floor s.0
widths_keep n floor l text s h =
    let a = line_from (line_of whole n) (widths_fit floor) itself l text s h in
    let v = a.0.0 in
    let b = and_parts (every (between 1 widest) v && eqb (get_or v 0 0) floor) (leb (total v) widest) a.2 in
    let c = and_parts (every (between 1 widest) v) (eqb (get_or v 0 0) floor) b.0 in
    let fits : WidthsFit n floor v = record { count = line_of_from whole n text a.0 a.1; each = all_from_every (between 1 widest) (λ w. (1 ≤ w) × (w ≤ widest)) (λ w t. within_from 1 widest w t) v c.0; first = eqb-true (get_or v 0 0) floor c.1; all = leb-true (total v) widest b.1 } in
    subst (WidthsFit n floor) a.3 fits

pub periods_keep : (T m l : ℕ) (text : List ℕ) (s : List ℕ × List ℕ) → period_line T m l text ≡ Ok s → InMonth T m s.0
periods_keep T m l text s h =
    let d = agreeing_from Order (chain ltb) (line (line_of whole m) (every (between 1 T)) itself) l text s h in
    let a = line_from (line_of whole m) (every (between 1 T)) itself l text s d.0 in
    let v = a.0.0 in
    let fits : InMonth T m v = record { long = line_of_from whole m text a.0 a.1; each = all_from_every (between 1 T) (λ p. (1 ≤ p) × (p ≤ T)) (λ p t. within_from 1 T p t) v a.2; rising = subst (λ w. chain ltb w ≡ true) (sym a.3) d.1 } in
    subst (InMonth T m) a.3 fits

pub prices_keep : (n l : ℕ) (text : List ℕ) (s : List ℕ × List ℕ) → price_line n l text ≡ Ok s → RowFits n (Some s.0)
prices_keep n l text s h =
    let d = agreeing_from Order (chain leb) (line (line_of price n) (every (between 0 highest_price)) itself) l text s h in
    let a = line_from (line_of price n) (every (between 0 highest_price)) itself l text s d.0 in
    let v = a.0.0 in
    let fits : RowFits n (Some v) = (line_of_from price n text a.0 a.1, all_from_every (between 0 highest_price) (λ p. p ≤ highest_price) (λ p t. (within_from 0 highest_price p t).1) v a.2, subst (λ w. chain leb w ≡ true) (sym a.3) d.1) in
    subst (λ w. RowFits n (Some w)) a.3 fits

pub rows_keep : (n m l : ℕ) (text : List ℕ) (s : List (List ℕ) × List ℕ) → price_lines n m l text ≡ Ok s → (length s.0 ≡ m) × AllByRecursion (λ row. RowFits n (Some row)) s.0
rows_keep n zero l text s h = let e : s ≡ ([], text) = cc in subst (λ p. (length p.0 ≡ 0) × AllByRecursion (λ row. RowFits n (Some row)) p.0) (sym e) (refl, tt)
rows_keep n (suc m) l text s h =
    let a = ok_from (price_line n l text) _ s h in
    let c = ok_from (price_lines n m (l + 1) a.0.1) _ s a.2 in
    let last = c.2 in
    let e : s ≡ (a.0.0 ∷ c.0.0, c.0.1) = cc in
    let row = prices_keep n l text a.0 a.1 in
    let rows = rows_keep n m (l + 1) a.0.1 c.0 c.1 in
    subst (λ p. (length p.0 ≡ suc m) × AllByRecursion (λ r. RowFits n (Some r)) p.0) (sym e) (ap suc rows.0, (row, rows.1))

pub block_keeps : (T m b l : ℕ) (text : List ℕ) (s : Option ℕ × List ℕ) → block_line b l text ≡ Ok s → (eqb b 0 || eqb m T) ≡ true → BlockFits T m s.0
block_keeps T m zero l text s h t = let e : s.0 ≡ None = cc in subst (BlockFits T m) (sym e) tt
block_keeps T m (suc b) l text s h t =
    let a = line_from (ended 10 (field price)) (λ p. leb p highest_block) Some l text s h in
    let whole_month : m ≡ T = ⊎_elim (λ z. absurd (omega (arith, eqb-true (suc b) 0 z))) (λ e. eqb-true m T e) (or_cases (eqb (suc b) 0) (eqb m T) t) in
    subst (BlockFits T m) a.3 (leb-true a.0.0 highest_block a.2, whole_month)
