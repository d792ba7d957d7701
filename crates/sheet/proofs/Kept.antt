-- What is read keeps the limits of a sheet, and its save is read as the same offer.
use Rattle.std.proofs.Common.{◌≡◌, ℕ, ◌+◌, ◌<◌, ◌≤◌, true, not, ◌&&◌, List, [], map, length, Some, Ok, codes, Option, sym, refl, ap, ◌∙◌, subst, arith}
use Rattle.std.specs.List.{range_with_len, AllByRecursion}
use Rattle.std.proofs.lemmas.Bool.{not-true}
use Rattle.std.proofs.lemmas.List.{append-nil}
use Rattle.std.proofs.lemmas.List.FromFn.{length-map-range_with_len}
use Rattle.text.specs.Laws.{Named}
use Rattle.std.proofs.ByRecursion.{All-weaker}
use Rattle.sheet.specs.declared.fault.SheetFault.{SheetFault}
use Rattle.sheet.specs.declared.fault.SheetFault.TheVariants.{Marks}
use Rattle.sheet.specs.Limits.{highest_number, lowest_floor, highest_floor, most_ranges, most_periods}
use Rattle.sheet.specs.Offer.{Offer}
use Rattle.sheet.specs.Sheet.{identifier_line, floor_line, product_line, domax_line, mark_line, Head, head, Shape, shape_line, width_line, period_line, price_lines, block_line, row_of, offer_of, priced, read, read_alone}
use Rattle.sheet.specs.Read.{InMonth}
use Rattle.sheet.specs.Saved.{written, RowFits, BlockFits, Fits, OnSheet, saved_as, ReadSavesBack, SaveSaysTheSame, SaveSettles}
use Rattle.sheet.proofs.Periods.{Within, priced_count, row_of_each, all_found}
use Rattle.sheet.proofs.Saves.{saved_reads_back}
use Rattle.sheet.proofs.SheetKeeps.{ok_from, ok_case, must_case, must_from, ok_same, ShapeFits, WidthsFit, identifier_keeps, floor_keeps, shape_keeps, widths_keep, periods_keep, rows_keep, block_keeps}

in_month : (T : ℕ) (ps : List ℕ) → AllByRecursion (λ p. (1 ≤ p) × (p ≤ T)) ps → Within 1 T ps
in_month T = All-weaker (λ p. (1 ≤ p) × (p ≤ T)) (λ p. (1 ≤ p) × (p < 1 + T)) (λ p g. (g.0, omega arith))

record HeadFits (h : Head) : Type 0 where
  name : Named h.name
  number : h.number ≤ highest_number
  floor : (lowest_floor ≤ h.floor) × (h.floor ≤ highest_floor)
  marks : not (h.observed && h.short) ≡ true

head_keeps : (before : ℕ) (text : List ℕ) (s : Head × List ℕ) → head before text ≡ Ok s → HeadFits s.0
head_keeps before text s h =
    ok_case (identifier_line (before + 1) text) _ s h (λ p1 e1 h1.
    ok_case (floor_line (before + 2) p1.1) _ s h1 (λ p2 e2 h2.
    ok_case (product_line (before + 3) p2.1) _ s h2 (λ p3 e3 h3.
    ok_case (domax_line p3.0 (before + 4) p3.1) _ s h3 (λ p4 e4 h4.
    ok_case (mark_line (codes "Obs_Stat;") (before + 5) p4.1) _ s h4 (λ p5 e5 h5.
    ok_case (mark_line (codes "DOmin;") (before + 6) p5.1) _ s h5 (λ p6 e6 h6.
    must_case (not (p5.0 && p6.0)) (Marks (before + 6)) _ s h6 (λ marks h7.
    let is : Head = record { name = p1.0.0; number = p1.0.1; floor = p2.0; product = p3.0; observed = p5.0; short = p6.0 } in
    let who = identifier_keeps (before + 1) text p1 e1 in
    let fits : HeadFits is = record { name = who.0; number = who.1; floor = floor_keeps (before + 2) p1.1 p2 e2; marks = marks } in
    subst (λ p. HeadFits p.0) (ok_same {F = SheetFault} (is, p6.1) s h7) fits)))))))

-- lines that keep their limits make an offer that keeps them
offer_keeps : (T : ℕ) (h : Head) (s : Shape) (widths periods : List ℕ) (rows : List (List ℕ)) (block : Option ℕ) → HeadFits h → ShapeFits T s → WidthsFit s.ranges h.floor widths → InMonth T s.periods periods → (length rows ≡ s.periods) × AllByRecursion (λ row. RowFits s.ranges (Some row)) rows → BlockFits T s.periods block → OnSheet T (offer_of T h widths periods rows block)
offer_keeps T h s widths periods rows block who shape wide ps qs blocks =
    let found = map (row_of periods rows) (range_with_len 1 T) in
    let long : length rows ≡ length periods = qs.0 ∙ sym ps.long in
    let count : length (priced 1 found) ≡ s.periods = priced_count 1 T periods rows long ps.rising (in_month T periods ps.each) ∙ ps.long in
    let fit : (t : ℕ) → RowFits s.ranges (row_of periods rows t) = λ t. row_of_each (RowFits s.ranges) tt periods rows t qs.1 in
    let fits : Fits T (offer_of T h widths periods rows block) = record {
      name_length = (who.name.1, who.name.2);
      name_bytes = who.name.0;
      number_most = who.number;
      floor_range = who.floor;
      one_mark = not-true (h.observed && h.short) who.marks;
      range_count = subst (λ k. (1 ≤ k) × (k ≤ most_ranges)) (sym wide.count) shape.some_ranges;
      range_widths = wide.each;
      first_width = wide.first;
      whole_width = wide.all;
      whole_month = length-map-range_with_len (row_of periods rows) 1 T;
      row_prices = subst (λ k. AllByRecursion (RowFits k) found) (sym wide.count) (all_found (row_of periods rows) (RowFits s.ranges) fit (range_with_len 1 T));
      block_price = subst (λ k. BlockFits T k block) (sym count) blocks;
    } in
    (fits, subst (λ k. 1 ≤ k) (sym count) shape.some_periods.0)

pub read_keeps : (T before : ℕ) (text : List ℕ) (s : Offer × List ℕ) → read T before text ≡ Ok s → OnSheet T s.0
read_keeps T before text s h =
    ok_case (head before text) _ s h (λ p6 e6 h6.
    ok_case (shape_line T (before + 7) p6.1) _ s h6 (λ p7 e7 h7.
    ok_case (width_line p7.0.ranges p6.0.floor (before + 8) p7.1) _ s h7 (λ p8 e8 h8.
    ok_case (period_line T p7.0.periods (before + 9) p8.1) _ s h8 (λ p9 e9 h9.
    ok_case (price_lines p7.0.ranges p7.0.periods (before + 10) p9.1) _ s h9 (λ p10 e10 h10.
    ok_case (block_line p7.0.blocks (before + 10 + p7.0.periods) p10.1) _ s h10 (λ p11 e11 h11.
    let fits = shape_keeps T (before + 7) p6.1 p7 e7 in
    subst (λ p. OnSheet T p.0) (ok_same {F = SheetFault} (offer_of T p6.0 p8.0 p9.0 p10.0 p11.0, p11.1) s h11)
    (offer_keeps T p6.0 p7.0 p8.0 p9.0 p10.0 p11.0
    (head_keeps before text p6 e6)
    fits
    (widths_keep p7.0.ranges p6.0.floor (before + 8) p7.1 p8 e8)
    (periods_keep T p7.0.periods (before + 9) p8.1 p9 e9)
    (rows_keep p7.0.ranges p7.0.periods (before + 10) p9.1 p10 e10)
    (block_keeps T p7.0.periods p7.0.blocks (before + 10 + p7.0.periods) p10.1 p11 e11 fits.month))))))))

pub alone_again : (T : ℕ) (o : Offer) → T ≤ most_periods → OnSheet T o → read_alone T (written o) ≡ Ok o
alone_again T o small on =
    let again : read T 0 (written o) ≡ Ok (o, []) = ap (read T 0) (sym (append-nil (written o))) ∙ saved_reads_back T 0 o [] small on in
    rw again refl

pub read_saves_back : ReadSavesBack
read_saves_back T before text o rest small h =
    let on = read_keeps T before text (o, rest) h in
    (on, alone_again T o small on)

-- what is read alone was read
pub alone_from : (T : ℕ) (text : List ℕ) (o : Offer) → read_alone T text ≡ Ok o → (rest : List ℕ) × (read T 0 text ≡ Ok (o, rest))
alone_from T text o h =
    let a = ok_from (read T 0 text) _ o h in
    let b = must_from _ _ _ o a.2 in
    let e : a.0.0 ≡ o = ok_same {F = SheetFault} a.0.0 o b.1 in
    (a.0.1, subst (λ x. read T 0 text ≡ Ok (x, a.0.1)) e a.1)

-- a save, and the offer that was saved
saved_from : (T : ℕ) (text saved : List ℕ) → saved_as T text ≡ Ok saved → (o : Offer) × (read_alone T text ≡ Ok o) × (written o ≡ saved)
saved_from T text saved h =
    let a = ok_from (read_alone T text) _ saved h in
    (a.0, a.1, ok_same {F = SheetFault} (written a.0) saved a.2)

pub save_says_the_same : SaveSaysTheSame
save_says_the_same T text saved small h =
    let a = saved_from T text saved h in
    let b = alone_from T text a.0 a.1 in
    let again = (read_saves_back T 0 text a.0 b.0 small b.1).1 in
    ap (read_alone T) (sym a.2) ∙ again ∙ sym a.1

pub save_settles : SaveSettles
save_settles T text saved small h =
    let a = saved_from T text saved h in
    let same = save_says_the_same T text saved small h ∙ a.1 in
    rw same (ap Ok a.2)
