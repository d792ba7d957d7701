-- Each line of a saved sheet is read back.
use Rattle.std.proofs.Common.{◌≡◌, ℕ, ◌+◌, ◌^◌, ◌<◌, ◌≤◌, Bool, true, false, cond, ◌||◌, eqb, ltb, leb, List, [], ◌∷◌, ◌++◌, map, length, get_or, is_some, Some, None, Ok, codes, decimal, Option, refl, subst, append_assoc, arith}
use Rattle.std.specs.List.{concat, AllByRecursion}
use Rattle.std.proofs.lemmas.Bool.{eq-eqb, le-leb}
use Rattle.sheet.specs.declared.product.Product.{Product}
use Rattle.sheet.specs.declared.product.Product.TheVariants.{Rapid, Complementary}
use Rattle.sheet.specs.Limits.{highest_number, lowest_floor, highest_floor, most_ranges, widest, most_periods, highest_price, highest_block}
use Rattle.sheet.specs.Offer.{total}
use Rattle.text.specs.Form.{Reads, between, whole, price, letter_or_digit, ended, field, line_of, keyed, named}
use Rattle.sheet.specs.declared.fault.SheetFault.{SheetFault}
use Rattle.sheet.specs.declared.fault.SheetFault.TheVariants.{Order, PartMonth}
use Rattle.sheet.specs.Sheet.{Line, line, itself, agreeing, every, chain, identifier_line, floor_line, product_line, dmo, domax, domax_line, mark_line, Shape, shape_of, shape_fits, shape_line, widths_fit, width_line, period_line, price_line, price_lines, block_line}
use Rattle.text.specs.Written.{price_text, line_text}
use Rattle.sheet.specs.Saved.{mark_text, block_text, RowFits, BlockFits}
use Rattle.std.proofs.ByRecursion.{All-weaker}
use Rattle.sheet.proofs.Each.{every_from}
use Rattle.text.proofs.RunsBack.{within}
use Rattle.text.proofs.FieldsBack.{one_reads, keyed_reads, named_reads, price_back}
use Rattle.text.proofs.Parts.{numbers_back, prices_back}
use Rattle.sheet.proofs.Periods.{prices_of}

pub line_reads : {X Y : Type 0} (reads : Reads X) (fits : X → Bool) (says : X → Y) (l : ℕ) (text rest : List ℕ) (x : X) → reads text ≡ Some (x, rest) → fits x ≡ true → line reads fits says l text ≡ Ok (says x, rest)
line_reads reads fits says l text rest x h f = rw (h, f) refl

pub agreeing_reads : {X : Type 0} (fault : ℕ → SheetFault) (agree : X → Bool) (reads : Line X) (l : ℕ) (text rest : List ℕ) (x : X) → reads l text ≡ Ok (x, rest) → agree x ≡ true → agreeing fault agree reads l text ≡ Ok (x, rest)
agreeing_reads fault agree reads l text rest x h f = rw (h, f) refl

pub identifier_reads : (l : ℕ) (who : List ℕ) (n : ℕ) (rest : List ℕ) → AllByRecursion (λ b. letter_or_digit b ≡ true) who → 1 ≤ length who → length who ≤ 16 → n ≤ highest_number → identifier_line l (line_text (who ∷ decimal n ∷ []) ++ rest) ≡ Ok ((who, n), rest)
identifier_reads l who n rest all lo hi most = line_reads named (λ id. leb id.1 highest_number) itself l (line_text (who ∷ decimal n ∷ []) ++ rest) rest (who, n) (named_reads who n rest all lo hi (omega arith)) (le-leb n highest_number most)

pub floor_reads : (l n : ℕ) (rest : List ℕ) → lowest_floor ≤ n → n ≤ highest_floor → floor_line l (line_text (codes "seuil_minimum" ∷ decimal n ∷ []) ++ rest) ≡ Ok (n, rest)
floor_reads l n rest lo hi = line_reads (keyed (codes "seuil_minimum;")) (between lowest_floor highest_floor) itself l (codes "seuil_minimum;" ++ (line_text (decimal n ∷ []) ++ rest)) rest n (keyed_reads (codes "seuil_minimum;") n rest (omega arith)) (within lowest_floor highest_floor n lo hi)

abbrev is_dmo : ℕ → Bool
is_dmo n = eqb n (dmo Rapid) || eqb n (dmo Complementary)

abbrev of_dmo : ℕ → Product
of_dmo n = cond (eqb n (dmo Rapid)) Rapid Complementary

pub product_reads : (l : ℕ) (p : Product) (rest : List ℕ) → product_line l (line_text (codes "DMO" ∷ decimal (dmo p) ∷ []) ++ rest) ≡ Ok (p, rest)
product_reads l Rapid rest = line_reads (keyed (codes "DMO;")) is_dmo of_dmo l (codes "DMO;" ++ (line_text (decimal 13 ∷ []) ++ rest)) rest 13 (keyed_reads (codes "DMO;") 13 rest (omega arith)) refl
product_reads l Complementary rest = line_reads (keyed (codes "DMO;")) is_dmo of_dmo l (codes "DMO;" ++ (line_text (decimal 30 ∷ []) ++ rest)) rest 30 (keyed_reads (codes "DMO;") 30 rest (omega arith)) refl

pub domax_most : (p : Product) → domax p ≤ 120
domax_most Rapid = omega arith
domax_most Complementary = omega arith

pub domax_reads : (l : ℕ) (p : Product) (rest : List ℕ) → domax_line p l (line_text (codes "DOmax" ∷ decimal (domax p) ∷ []) ++ rest) ≡ Ok (domax p, rest)
domax_reads l p rest = line_reads (keyed (codes "DOmax;")) (λ n. eqb n (domax p)) itself l (codes "DOmax;" ++ (line_text (decimal (domax p) ∷ []) ++ rest)) rest (domax p) (keyed_reads (codes "DOmax;") (domax p) rest (omega (arith, domax_most p))) (eq-eqb (domax p) (domax p) refl)

pub mark_reads : (l : ℕ) (keyword : List ℕ) (mark : Bool) (rest : List ℕ) → mark_line keyword l (keyword ++ (line_text (mark_text mark ∷ []) ++ rest)) ≡ Ok (mark, rest)
mark_reads l keyword true rest = line_reads (keyed keyword) (λ n. leb n 1) (λ n. eqb n 1) l (keyword ++ (line_text (decimal 1 ∷ []) ++ rest)) rest 1 (keyed_reads keyword 1 rest (omega arith)) refl
mark_reads l keyword false rest = line_reads (keyed keyword) (λ n. leb n 1) (λ n. eqb n 1) l (keyword ++ (line_text (decimal 0 ∷ []) ++ rest)) rest 0 (keyed_reads keyword 0 rest (omega arith)) refl

pub bit_most : (b : Bool) → cond b 1 0 ≤ 1
bit_most true = omega arith
bit_most false = omega arith

abbrev pub shape : (n m b : ℕ) → Shape
shape n m b = record { ranges = n; periods = m; blocks = b }

pub shape_reads : (T l n m : ℕ) (block : Bool) (rest : List ℕ) → T ≤ most_periods → 1 ≤ n → n ≤ most_ranges → 1 ≤ m → m ≤ T → (eqb (cond block 1 0) 0 || eqb m T) ≡ true → shape_line T l (line_text (decimal n ∷ decimal m ∷ mark_text block ∷ []) ++ rest) ≡ Ok (shape n m (cond block 1 0), rest)
shape_reads T l n m block rest small n1 n4 m1 mT month =
    let b : ℕ = cond block 1 0 in
    let b1 : b ≤ 1 = bit_most block in
    let text = line_text (decimal n ∷ decimal m ∷ decimal b ∷ []) ++ rest in
    agreeing_reads PartMonth (λ s. eqb s.blocks 0 || eqb s.periods T) (line (line_of whole 3) (λ counts. shape_fits T (shape_of counts)) shape_of) l text rest (shape n m b)
    (line_reads (line_of whole 3) (λ counts. shape_fits T (shape_of counts)) shape_of l text rest (n ∷ m ∷ b ∷ [])
    (numbers_back (n ∷ m ∷ b ∷ []) rest (omega arith, (omega arith, (omega arith, tt))))
    (rw (within 1 most_ranges n n1 n4, within 1 T m m1 mT, le-leb b 1 b1) refl))
    month

pub widths_read : (l floor : ℕ) (ws rest : List ℕ) → AllByRecursion (λ w. (1 ≤ w) × (w ≤ widest)) ws → get_or ws 0 0 ≡ floor → total ws ≤ widest → width_line (length ws) floor l (line_text (map decimal ws) ++ rest) ≡ Ok (ws, rest)
widths_read l floor ws rest all first most =
    line_reads (line_of whole (length ws)) (widths_fit floor) itself l (line_text (map decimal ws) ++ rest) rest ws
    (numbers_back ws rest (All-weaker (λ w. (1 ≤ w) × (w ≤ widest)) (λ n. n < 10 ^ 10) (λ n h. omega arith) ws all))
    (rw (every_from (λ w. (1 ≤ w) × (w ≤ widest)) (between 1 widest) (λ w h. within 1 widest w h.0 h.1) ws all, eq-eqb (get_or ws 0 0) floor first, le-leb (total ws) widest most) refl)

pub periods_read : (T l : ℕ) (ps rest : List ℕ) → T ≤ most_periods → AllByRecursion (λ p. (1 ≤ p) × (p ≤ T)) ps → chain ltb ps ≡ true → period_line T (length ps) l (line_text (map decimal ps) ++ rest) ≡ Ok (ps, rest)
periods_read T l ps rest small all rising =
    let text = line_text (map decimal ps) ++ rest in
    agreeing_reads Order (chain ltb) (line (line_of whole (length ps)) (every (between 1 T)) itself) l text rest ps
    (line_reads (line_of whole (length ps)) (every (between 1 T)) itself l text rest ps
    (numbers_back ps rest (All-weaker (λ p. (1 ≤ p) × (p ≤ T)) (λ n. n < 10 ^ 10) (λ n h. omega arith) ps all))
    (every_from (λ p. (1 ≤ p) × (p ≤ T)) (between 1 T) (λ p h. within 1 T p h.0 h.1) ps all))
    rising

pub prices_read : (n l : ℕ) (row rest : List ℕ) → RowFits n (Some row) → price_line n l (line_text (map price_text row) ++ rest) ≡ Ok (row, rest)
prices_read n l row rest fits =
    let text = line_text (map price_text row) ++ rest in
    agreeing_reads Order (chain leb) (line (line_of price n) (every (between 0 highest_price)) itself) l text rest row
    (line_reads (line_of price n) (every (between 0 highest_price)) itself l text rest row
    (subst (λ k. line_of price k text ≡ Some (row, rest)) fits.0
    (prices_back row rest (All-weaker (λ p. p ≤ highest_price) (λ p. p < 10 ^ 9) (λ p h. omega arith) row fits.1)))
    (every_from (λ p. p ≤ highest_price) (between 0 highest_price) (λ p h. within 0 highest_price p (omega arith) h) row fits.1))
    fits.2

abbrev pub row_text : ℕ × List ℕ → List ℕ
row_text p = line_text (map price_text p.1)

pub rows_read : (n l : ℕ) (rows : List (ℕ × List ℕ)) (rest : List ℕ) → AllByRecursion (λ p. RowFits n (Some p.1)) rows → price_lines n (length rows) l (concat (map row_text rows) ++ rest) ≡ Ok (prices_of rows, rest)
rows_read n l [] rest all = refl
rows_read n l (p ∷ rows) rest all =
    rw (append_assoc (row_text p) (concat (map row_text rows)) rest, prices_read n l p.1 (concat (map row_text rows) ++ rest) all.0, rows_read n (l + 1) rows rest all.1) refl

pub block_reads : (T m l : ℕ) (block : Option ℕ) (rest : List ℕ) → BlockFits T m block → block_line (cond (is_some block) 1 0) l (block_text block ++ rest) ≡ Ok (block, rest)
block_reads T m l None rest fits = refl
block_reads T m l (Some p) rest fits =
    line_reads (ended 10 (field price)) (λ q. leb q highest_block) Some l (line_text (price_text p ∷ []) ++ rest) rest p
    (one_reads price price_text p rest (price_back p (omega (arith, fits.0))))
    (le-leb p highest_block fits.0)
