-- Rows of prices that are read one after another, each to its period's place.
use Rattle.std.proofs.Common.{◌≡◌, ℕ, zero, suc, ◌+◌, ◌-◌, ◌<◌, ◌≤◌, true, ltb, List, [], ◌∷◌, ◌++◌, map, length, get_or, take, set, replicate, None, Some, Ok, Err, Option, Result, sym, refl, ap, ◌∙◌, add-zero, arith}
use Rattle.std.proofs.ByRecursion.{All-get_or}
use Rattle.std.proofs.lemmas.List.{append_assoc, length_push, length-take-le, map-set, take_more}
use Rattle.std.proofs.lemmas.Bool.{eq-eqb, ne_eqb}
use Rattle.std.specs.List.{range_with_len, AllByRecursion}
use Rattle.sheet.specs.declared.fault.SheetFault.{SheetFault}
use Rattle.sheet.specs.Facts.{PerRange, numbers_of, row_facts}
use Rattle.sheet.specs.Read.{InMonth, month_rows}
use Rattle.sheet.specs.Sheet.{◌>>=◌, chain, price_line, price_lines, row_of}
use Rattle.sheet.proofs.Periods.{chain_above, chain_tail}

-- ---- one more row found

module _ (p : ℕ) (row : List ℕ) where
  pub row_of_last : (ps : List ℕ) (rows : List (List ℕ)) → length rows ≡ length ps → AllByRecursion (λ q. q < p) ps → row_of (ps ++ p ∷ []) (rows ++ row ∷ []) p ≡ Some row
  row_of_last [] [] long all = rw (eq-eqb p p refl) refl
  row_of_last [] (r ∷ rows) long all = absurd (omega arith)
  row_of_last (q ∷ ps) [] long all = absurd (omega arith)
  row_of_last (q ∷ ps) (r ∷ rows) long all = let lt = all.0 in rw (ne_eqb q p (λ e. omega (arith, e))) (row_of_last ps rows (omega arith) all.1)

  pub row_of_other : (t : ℕ) → (t ≡ p → ⊥) → (ps : List ℕ) (rows : List (List ℕ)) → length rows ≡ length ps → row_of (ps ++ p ∷ []) (rows ++ row ∷ []) t ≡ row_of ps rows t
  row_of_other t ne [] [] long = rw (ne_eqb p t (λ e. ne (sym e))) refl
  row_of_other t ne [] (r ∷ rows) long = absurd (omega arith)
  row_of_other t ne (q ∷ ps) [] long = absurd (omega arith)
  row_of_other t ne (q ∷ ps) (r ∷ rows) long = rw (row_of_other t ne ps rows (omega arith)) refl

-- the periods before one of rising periods are below it
pub rising_below : (ps : List ℕ) (i : ℕ) → chain ltb ps ≡ true → i < length ps → AllByRecursion (λ q. q < get_or ps i 0) (take i ps)
rising_below [] i h lt = absurd (omega arith)
rising_below (x ∷ ps) zero h lt = tt
rising_below (x ∷ ps) (suc i) h lt = (All-get_or (λ y. x < y) ps i 0 (omega arith) (chain_above x ps h), rising_below ps i (chain_tail x ps h) (omega arith))

-- ---- a list of what a function finds, changed at one place

module _ {X : Type 0} (f g : ℕ → X) where
  found_same : (a n : ℕ) → ((t : ℕ) → a ≤ t → g t ≡ f t) → map f (range_with_len a n) ≡ map g (range_with_len a n)
  found_same a zero same = refl
  found_same a (suc n) same = rw (same a (omega arith), found_same (a + 1) n (λ t le. same t (omega arith))) refl

  pub found_set : (a n k : ℕ) (v : X) → k < n → g (a + k) ≡ v → ((t : ℕ) → (t ≡ a + k → ⊥) → g t ≡ f t) → set (map f (range_with_len a n)) k v ≡ map g (range_with_len a n)
  found_set a zero k v lt here other = absurd (omega arith)
  found_set a (suc n) zero v lt here other =
      let first : v ≡ g a = sym here ∙ ap g (add-zero a) in
      let rest = found_same (a + 1) n (λ t le. other t (λ e. omega (arith, e))) in
      ap (λ x. x ∷ map f (range_with_len (a + 1) n)) first ∙ ap (λ l. g a ∷ l) rest
  found_set a (suc n) (suc k) v lt here other =
      let next : a + 1 + k ≡ a + suc k = omega arith in
      let first : f a ≡ g a = sym (other a (λ e. omega (arith, e))) in
      let rest = found_set (a + 1) n k v (omega arith) (ap g next ∙ here) (λ t ne. other t (λ e. ne (e ∙ sym next))) in
      ap (λ x. x ∷ set (map f (range_with_len (a + 1) n)) k v) first ∙ ap (λ l. g a ∷ l) rest

-- ---- rows read before the others

abbrev pub then_rows : List (List ℕ) → Result (List (List ℕ) × List ℕ) SheetFault → Result (List (List ℕ) × List ℕ) SheetFault
then_rows done (Err f) = Err f
then_rows done (Ok (rows, rest)) = Ok (done ++ rows, rest)

then_twice : (done : List (List ℕ)) (row : List ℕ) (r : Result (List (List ℕ) × List ℕ) SheetFault) → then_rows done (then_rows (row ∷ []) r) ≡ then_rows (done ++ row ∷ []) r
then_twice done row (Err f) = refl
then_twice done row (Ok (rows, rest)) = ap (λ l. Ok (l, rest)) (sym (append_assoc done (row ∷ []) rows))

-- of the m rows of these periods, those before i stand in the rows of the month, and the rest follows the line that was read last
pub record SoFar (T n m : ℕ) (periods : List ℕ) (before : ℕ) (text : List ℕ) (i : ℕ) (table : List (Option PerRange)) (last : ℕ) (rest : List ℕ) : Type 0 where
  pub done : List (List ℕ)
  pub count : length done ≡ i
  pub at : last ≡ before + i
  pub read : price_lines n m (before + 1) text ≡ then_rows done (price_lines n (m - i) (last + 1) rest)
  pub placed : map row_facts table ≡ map (row_of (take i periods) done) (range_with_len 1 T)

none_found : (a T : ℕ) → map row_facts (replicate T None) ≡ map (row_of [] []) (range_with_len a T)
none_found a zero = refl
none_found a (suc T) = ap (λ l. None ∷ l) (none_found (a + 1) T)

then_none : (r : Result (List (List ℕ) × List ℕ) SheetFault) → r ≡ then_rows [] r
then_none (Err f) = refl
then_none (Ok q) = refl

pub rows_start : (T n m : ℕ) (periods : List ℕ) (before : ℕ) (text : List ℕ) {table : List (Option PerRange)} → table ≡ replicate T None → SoFar T n m periods before text 0 table before text
rows_start T n m periods before text empty = record {
  done = [];
  count = refl;
  at = omega arith;
  read = then_none (price_lines n m (before + 1) text) ∙ ap (λ k. then_rows [] (price_lines n k (before + 1) text)) (omega arith);
  placed = ap (map row_facts) empty ∙ none_found 1 T;
}

-- a row at line l, and k rows more
abbrev row_then : (n k l : ℕ) → List ℕ → Result (List (List ℕ) × List ℕ) SheetFault
row_then n k l rest = price_line n l rest >>= λ p. price_lines n k (l + 1) p.1 >>= λ q. Ok (p.0 ∷ q.0, q.1)

module _ {T n m : ℕ} {periods : List ℕ} {before : ℕ} {text : List ℕ} {i : ℕ} {table : List (Option PerRange)} {last : ℕ} {rest : List ℕ} (fits : InMonth T m periods) (so_far : SoFar T n m periods before text i table last rest) where
  one_more : i < length periods → price_lines n (m - i) (last + 1) rest ≡ row_then n (m - (i + 1)) (last + 1) rest
  one_more h = let left : m - i ≡ suc (m - (i + 1)) = omega (arith, fits.long) in ap (λ k. price_lines n k (last + 1) rest) left

  -- the row at the next line
  module _ {next : ℕ} (h : i < length periods) (counts : next ≡ last + 1) where
    pub row_stops : {f : SheetFault} → Err f ≡ price_line n next rest → Err f ≡ month_rows T n m periods (before + 1) text
    row_stops {f} e =
        let here : Err f ≡ price_line n (last + 1) rest = e ∙ ap (λ l. price_line n l rest) counts in
        let none : price_lines n (m - i) (last + 1) rest ≡ Err f = one_more h ∙ rw (← here) refl in
        let all : price_lines n m (before + 1) text ≡ Err f = so_far.read ∙ ap (then_rows so_far.done) none in
        rw all refl

    module _ (prices : PerRange) (after : List ℕ) where
      read_more : Ok (numbers_of prices, after) ≡ price_line n next rest → price_lines n m (before + 1) text ≡ then_rows (so_far.done ++ numbers_of prices ∷ []) (price_lines n (m - (i + 1)) (next + 1) after)
      read_more e =
          let here : Ok (numbers_of prices, after) ≡ price_line n (last + 1) rest = e ∙ ap (λ l. price_line n l rest) counts in
          let others = price_lines n (m - (i + 1)) (last + 1 + 1) after in
          let first : price_lines n (m - i) (last + 1) rest ≡ then_rows (numbers_of prices ∷ []) others = one_more h ∙ rw (← here) (made others) in
          rw counts (so_far.read ∙ ap (then_rows so_far.done) first ∙ then_twice so_far.done (numbers_of prices) others)
        where
          made : (r : Result (List (List ℕ) × List ℕ) SheetFault) → (r >>= λ q. Ok (numbers_of prices ∷ q.0, q.1)) ≡ then_rows (numbers_of prices ∷ []) r
          made (Err f) = refl
          made (Ok q) = refl

      placed_more : map row_facts (set table (get_or periods i 0 - 1) (Some prices)) ≡ map (row_of (take (i + 1) periods) (so_far.done ++ numbers_of prices ∷ [])) (range_with_len 1 T)
      placed_more =
          let p = get_or periods i 0 in
          let inside = All-get_or (λ p. (1 ≤ p) × (p ≤ T)) periods i 0 h fits.each in
          let low : 1 ≤ p = inside.0 in
          let high : p ≤ T = inside.1 in
          let row = numbers_of prices in
          let qs = take i periods in
          let ds = so_far.done in
          let long : length ds ≡ length qs = so_far.count ∙ sym (length-take-le i periods (omega arith)) in
          let f : ℕ → Option (List ℕ) = row_of qs ds in
          let g : ℕ → Option (List ℕ) = row_of (qs ++ p ∷ []) (ds ++ row ∷ []) in
          let here : 1 + (p - 1) ≡ p = omega arith in
          map-set row_facts table (p - 1) (Some prices)
          ∙ ap (λ l. set l (p - 1) (Some row)) so_far.placed
          ∙ found_set f g 1 T (p - 1) (Some row) (omega arith) (ap g here ∙ row_of_last p row qs ds long (rising_below periods i fits.rising h)) (λ t ne. row_of_other p row t (λ e. ne (e ∙ sym here)) qs ds long)
          ∙ ap (λ l. map (row_of l (ds ++ row ∷ [])) (range_with_len 1 T)) (sym (take_more periods i 0 h))

      pub row_more : {table' : List (Option PerRange)} → table' ≡ set table (get_or periods i 0 - 1) (Some prices) → Ok (numbers_of prices, after) ≡ price_line n next rest → SoFar T n m periods before text (i + 1) table' next after
      row_more changed e = record {
        done = so_far.done ++ numbers_of prices ∷ [];
        count = length_push so_far.done (numbers_of prices) ∙ ap (λ k. k + 1) so_far.count;
        at = omega (arith, so_far.at);
        read = read_more e;
        placed = ap (map row_facts) changed ∙ placed_more;
      }
