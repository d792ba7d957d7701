-- A sheet at the front of a longer text, with lines before it, is read or refused as it is alone.
use Rattle.std.proofs.Common.{◌≡◌, ℕ, zero, suc, ◌+◌, Bool, true, false, not, ◌&&◌, leb, List, [], ◌++◌, Some, None, Ok, Err, codes, Option, Result, sym, refl, ap, ◌∙◌, subst, append-nil, add_assoc}
use Rattle.std.specs.Option.{ok_or}
use Rattle.text.specs.Form.{Reads, field, ended, whole, price, line_of, keyed, named}
use Rattle.sheet.specs.Limits.{highest_number}
use Rattle.sheet.specs.Sheet.{◌>>=◌, ◌>>◌, must, Line, line, itself, agreeing, identifier_line, floor_line, product_line, domax_line, mark_line, Head, head, shape_line, width_line, period_line, price_line, price_lines, block_line, read}
use Rattle.sheet.specs.declared.fault.SheetFault.{SheetFault}
use Rattle.sheet.specs.declared.fault.SheetFault.TheVariants.{Form, Value, Marks, Order, PartMonth}
use Rattle.book.specs.Fault.{sheet_later}
use Rattle.book.proofs.Longer.{Complete, numbers_longer, prices_longer, price_line_longer, keyed_longer, named_longer}

-- a broken form may be mended by what follows; all other faults are of whole lines
abbrev pub Settled : List ℕ → SheetFault → Type 0
Settled more (Form l) = more ≡ []
Settled more (Value l) = Unit {0}
Settled more (Marks l) = Unit {0}
Settled more (Order l) = Unit {0}
Settled more (PartMonth l) = Unit {0}

module _ (n : ℕ) (more : List ℕ) where
  -- the second is the first with n lines before it and more after it
  abbrev pub Later : {X : Type 0} → Result (X × List ℕ) SheetFault → Result (X × List ℕ) SheetFault → Type 0
  Later (Ok s) r = r ≡ Ok (s.0, s.1 ++ more)
  Later (Err fault) r = Settled more fault → r ≡ Err (sheet_later n fault)

  abbrev LaterLine : {X : Type 0} → Line X → Type 0
  LaterLine reads = (l : ℕ) (text : List ℕ) → Later (reads l text) (reads (n + l) (text ++ more))

  bind_later : {X Y : Type 0} (r r' : Result (X × List ℕ) SheetFault) (f f' : X × List ℕ → Result (Y × List ℕ) SheetFault) → Later r r' → ((s : X × List ℕ) → Later (f s) (f' (s.0, s.1 ++ more))) → Later (r >>= f) (r' >>= f')
  bind_later (Ok s) r' f f' h k = subst (λ x. Later (f s) (x >>= f')) (sym h) (k s)
  bind_later (Err fault) r' f f' h k = λ settled. ap (λ x. x >>= f') (h settled)

  -- ---- a line

  line_later : {X Y : Type 0} (reads : Reads X) (fits : X → Bool) (says : X → Y) → Complete reads → LaterLine (line reads fits says)
  line_later {X} {Y} reads fits says whole_line l text = go (reads text) refl
    where
      judged : Option (X × List ℕ) → ℕ → Result (Y × List ℕ) SheetFault
      judged r l = ok_or r (Form l) >>= (λ s. must (fits s.0) (Value l) >> Ok (says s.0, s.1))

      tested : (b : Bool) (y : Y) (rest : List ℕ) → Later (must b (Value l) >> Ok (y, rest)) (must b (Value (n + l)) >> Ok (y, rest ++ more))
      tested true y rest = refl
      tested false y rest = λ settled. refl

      go : (r : Option (X × List ℕ)) → reads text ≡ r → Later (judged r l) (judged (reads (text ++ more)) (n + l))
      go None e = λ none. ap (λ o. judged o (n + l)) (ap (λ m. reads (text ++ m)) none ∙ ap reads (append-nil text) ∙ e)
      go (Some s) e = subst (λ o. Later (judged (Some s) l) (judged o (n + l))) (sym (whole_line text more s.0 s.1 e)) (tested (fits s.0) (says s.0) s.1)

  agreeing_later : {X : Type 0} (fault : ℕ → SheetFault) (agree : X → Bool) (reads : Line X) → ((l : ℕ) → sheet_later n (fault l) ≡ fault (n + l)) → LaterLine reads → LaterLine (agreeing fault agree reads)
  agreeing_later {X} fault agree reads moves h l text =
      bind_later (reads l text) (reads (n + l) (text ++ more)) _ _ (h l text) (λ s. tested (agree s.0) s.0 s.1)
    where
      tested : (b : Bool) (x : X) (rest : List ℕ) → Later (must b (fault l) >> Ok (x, rest)) (must b (fault (n + l)) >> Ok (x, rest ++ more))
      tested true x rest = refl
      tested false x rest = λ settled. ap Err (sym (moves l))

  -- ---- the lines of a sheet

  keyed_later : {Y : Type 0} (keyword : List ℕ) (fits : ℕ → Bool) (says : ℕ → Y) → LaterLine (line (keyed keyword) fits says)
  keyed_later keyword fits says = line_later (keyed keyword) fits says (keyed_longer keyword)

  marked_later : (b : Bool) (h : Head) (l : ℕ) (rest : List ℕ) → Later (must b (Marks l) >> Ok (h, rest)) (must b (Marks (n + l)) >> Ok (h, rest ++ more))
  marked_later true h l rest = refl
  marked_later false h l rest = λ settled. refl

  head_later : (text : List ℕ) → Later (head 0 text) (head n (text ++ more))
  head_later text =
      bind_later (identifier_line 1 text) _ _ _ (line_later named (λ id. leb id.1 highest_number) itself named_longer 1 text) (λ s1.
      bind_later (floor_line 2 s1.1) _ _ _ (keyed_later (codes "seuil_minimum;") _ itself 2 s1.1) (λ s2.
      bind_later (product_line 3 s2.1) _ _ _ (keyed_later (codes "DMO;") _ _ 3 s2.1) (λ s3.
      bind_later (domax_line s3.0 4 s3.1) _ _ _ (keyed_later (codes "DOmax;") _ itself 4 s3.1) (λ s4.
      bind_later (mark_line (codes "Obs_Stat;") 5 s4.1) _ _ _ (keyed_later (codes "Obs_Stat;") _ _ 5 s4.1) (λ s5.
      bind_later (mark_line (codes "DOmin;") 6 s5.1) _ _ _ (keyed_later (codes "DOmin;") _ _ 6 s5.1) (λ s6.
      marked_later (not (s5.0 && s6.0)) (record { name = s1.0.0; number = s1.0.1; floor = s2.0; product = s3.0; observed = s5.0; short = s6.0 }) 6 s6.1))))))

  price_line_later : (ranges : ℕ) → LaterLine (price_line ranges)
  price_line_later ranges = agreeing_later Order _ _ (λ l. refl) (line_later (line_of price ranges) _ itself (prices_longer ranges))

  rows_later : (ranges m : ℕ) → LaterLine (price_lines ranges m)
  rows_later ranges zero l text = refl
  rows_later ranges (suc m) l text =
      bind_later (price_line ranges l text) _ _ _ (price_line_later ranges l text) (λ s.
      bind_later (price_lines ranges m (l + 1) s.1) _ _ _ (subst (λ k. Later (price_lines ranges m (l + 1) s.1) (price_lines ranges m k (s.1 ++ more))) (sym (add_assoc n l 1)) (rows_later ranges m (l + 1) s.1))
      (λ t. refl))

  block_later : (blocks : ℕ) → LaterLine (block_line blocks)
  block_later zero l text = refl
  block_later (suc b) l text = line_later (ended 10 (field price)) _ Some price_line_longer l text

  pub read_later : (T : ℕ) (text : List ℕ) → Later (read T 0 text) (read T n (text ++ more))
  read_later T text =
      bind_later (head 0 text) _ _ _ (head_later text) (λ s6.
      bind_later (shape_line T 7 s6.1) _ _ _ (agreeing_later PartMonth _ _ (λ l. refl) (line_later (line_of whole 3) _ _ (numbers_longer 3)) 7 s6.1) (λ s7.
      bind_later (width_line s7.0.ranges s6.0.floor 8 s7.1) _ _ _ (line_later (line_of whole s7.0.ranges) _ itself (numbers_longer s7.0.ranges) 8 s7.1) (λ s8.
      bind_later (period_line T s7.0.periods 9 s8.1) _ _ _ (agreeing_later Order _ _ (λ l. refl) (line_later (line_of whole s7.0.periods) _ itself (numbers_longer s7.0.periods)) 9 s8.1) (λ s9.
      bind_later (price_lines s7.0.ranges s7.0.periods 10 s9.1) _ _ _ (rows_later s7.0.ranges s7.0.periods 10 s9.1) (λ s10.
      bind_later (block_line s7.0.blocks (10 + s7.0.periods) s10.1) _ _ _
      (subst (λ k. Later (block_line s7.0.blocks (10 + s7.0.periods) s10.1) (block_line s7.0.blocks k (s10.1 ++ more))) (sym (add_assoc n 10 s7.0.periods)) (block_later s7.0.blocks (10 + s7.0.periods) s10.1))
      (λ s11. refl))))))
