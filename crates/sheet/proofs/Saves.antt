-- A saved sheet is read as the same offer.
use Rattle.std.proofs.Common.{◌≡◌, ℕ, ◌+◌, ◌<◌, ◌≤◌, true, cond, ◌&&◌, ◌||◌, eqb, List, [], ◌∷◌, ◌++◌, map, length, is_some, Some, None, Ok, codes, decimal, Option, refl, ap, ◌∙◌, subst, arith}
use lib.ListN.{length-map}
use Rattle.std.specs.List.{range_with_len, concat, AllByRecursion}
use Rattle.std.proofs.lemmas.Bool.{eq-eqb, or_right, not_from_false}
use Rattle.sheet.specs.Sheet.{read, priced, row_of, dmo, domax, period_line}
use Rattle.text.specs.Written.{line_text}
use Rattle.sheet.specs.Limits.{most_periods}
use Rattle.sheet.specs.Saved.{mark_text, block_text, saved_lines, RowFits, BlockFits, SavedReadsBack}
use Rattle.std.proofs.ByRecursion.{All-weaker}
use Rattle.sheet.proofs.Each.{map_twice, joined_then}
use Rattle.sheet.proofs.Periods.{periods_of, prices_of, priced_in, priced_most, chain_priced, rows_back}
use Rattle.sheet.proofs.LinesBack.{identifier_reads, floor_reads, product_reads, domax_reads, mark_reads, shape_reads, widths_read, periods_read, row_text, rows_read, block_reads}

-- the rows of the priced periods fit as the rows do
pub priced_fit : (n t : ℕ) (rs : List (Option (List ℕ))) → AllByRecursion (RowFits n) rs → AllByRecursion (λ p. RowFits n (Some p.1)) (priced t rs)
priced_fit n t [] all = tt
priced_fit n t (None ∷ rs) all = priced_fit n (t + 1) rs all.1
priced_fit n t (Some r ∷ rs) all = (all.0, priced_fit n (t + 1) rs all.1)

pub whole_month_block : (T m : ℕ) (block : Option ℕ) → BlockFits T m block → (eqb (cond (is_some block) 1 0) 0 || eqb m T) ≡ true
whole_month_block T m None fits = refl
whole_month_block T m (Some p) fits = or_right (eqb 1 0) (eqb m T) (eq-eqb m T fits.1)

pub period_line_reads : (T l : ℕ) (rs : List (Option (List ℕ))) (rest : List ℕ) → T ≤ most_periods → length rs ≡ T → period_line T (length (priced 1 rs)) l (line_text (map (λ p. decimal p.0) (priced 1 rs)) ++ rest) ≡ Ok (periods_of (priced 1 rs), rest)
period_line_reads T l rs rest small month =
    let ps = periods_of (priced 1 rs) in
    let inside : AllByRecursion (λ p. (1 ≤ p) × (p ≤ T)) ps = All-weaker (λ p. (1 ≤ p) × (p < 1 + length rs)) (λ p. (1 ≤ p) × (p ≤ T)) (λ p h. (h.0, omega arith)) ps (priced_in 1 rs) in
    let long : length ps ≡ length (priced 1 rs) = length-map (priced 1 rs) (λ p. p.0) in
    ap (λ fs. period_line T (length (priced 1 rs)) l (line_text fs ++ rest)) (map_twice (λ p. p.0) decimal (priced 1 rs))
    ∙ subst (λ k. period_line T k l (line_text (map decimal ps) ++ rest) ≡ Ok (ps, rest)) long (periods_read T l ps rest small inside (chain_priced 1 rs))

pub saved_reads_back : SavedReadsBack
saved_reads_back T before o rest small (f, some) =
    let rows = priced 1 o.rows in
    let n = length o.widths in
    let m = length rows in
    let most : m ≤ T = omega (arith, priced_most 1 o.rows, f.whole_month) in
    let same : map (row_of (periods_of rows) (prices_of rows)) (range_with_len 1 T) ≡ o.rows = subst (λ k. map (row_of (periods_of rows) (prices_of rows)) (range_with_len 1 k) ≡ o.rows) f.whole_month (rows_back 1 o.rows) in
    let r10 = block_text o.block ++ rest in
    let r9 = concat (map row_text rows) ++ r10 in
    let r8 = line_text (map (λ p. decimal p.0) rows) ++ r9 in
    let r7 = line_text (map decimal o.widths) ++ r8 in
    let r6 = line_text (decimal n ∷ decimal m ∷ mark_text (is_some o.block) ∷ []) ++ r7 in
    let r5 = line_text (codes "DOmin" ∷ mark_text o.short ∷ []) ++ r6 in
    let r4 = line_text (codes "Obs_Stat" ∷ mark_text o.observed ∷ []) ++ r5 in
    let r3 = line_text (codes "DOmax" ∷ decimal (domax o.product) ∷ []) ++ r4 in
    let r2 = line_text (codes "DMO" ∷ decimal (dmo o.product) ∷ []) ++ r3 in
    let r1 = line_text (codes "seuil_minimum" ∷ decimal o.floor ∷ []) ++ r2 in
    ap (read T before) (joined_then (saved_lines o) rest)
    ∙ rw (
      identifier_reads (before + 1) o.name o.number r1 f.name_bytes f.name_length.0 f.name_length.1 f.number_most,
      floor_reads (before + 2) o.floor r2 f.floor_range.0 f.floor_range.1,
      product_reads (before + 3) o.product r3,
      domax_reads (before + 4) o.product r4,
      mark_reads (before + 5) (codes "Obs_Stat;") o.observed r5,
      mark_reads (before + 6) (codes "DOmin;") o.short r6,
      not_from_false (o.observed && o.short) f.one_mark,
      shape_reads T (before + 7) n m (is_some o.block) r7 small f.range_count.0 f.range_count.1 some most (whole_month_block T m o.block f.block_price),
      widths_read (before + 8) o.floor o.widths r8 f.range_widths f.first_width f.whole_width,
      period_line_reads T (before + 9) o.rows r9 small f.whole_month,
      rows_read n (before + 10) rows r10 (priced_fit n 1 o.rows f.row_prices),
      block_reads T m (before + 10 + m) o.block rest f.block_price,
      same,
    ) refl
