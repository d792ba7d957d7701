-- What follows a part that was read is an end of the text.
use Rattle.std.proofs.Common.{◌≡◌, ℕ, zero, suc, ◌+◌, ◌-◌, ◌*◌, Bool, true, false, cond, not, ◌&&◌, eqb, List, [], ◌∷◌, ◌++◌, length, take, drop, Some, None, Ok, Err, codes, Option, Result, sym, refl, ap, ◌∙◌, append_assoc, arith, length-append, take-append-drop}
use Rattle.std.specs.Option.{ok_or}
use Rattle.std.specs.List.{prefix_len}
use Rattle.std.proofs.Math.Seq.{drop-append_seam}
use Rattle.text.specs.Form.{Reads, ◌>>=◌, between, after, run, digit, value, needless_zero, number_up_to, whole, cents, decimals, price, ended, field, fields, line_of, keyed, named, name}
use Rattle.text.specs.Tokens.{Tail}
use Rattle.sheet.specs.Offer.{Offer}
use Rattle.sheet.specs.Sheet.{◌>>=◌ as ◌>>>=◌, ◌>>◌, must, Line, line, itself, agreeing, identifier_line, floor_line, product_line, domax_line, mark_line, head, shape_line, width_line, period_line, price_line, price_lines, block_line, read}
use Rattle.sheet.specs.declared.fault.SheetFault.{SheetFault}
use Rattle.sheet.specs.declared.fault.SheetFault.TheVariants.{Marks, Order, PartMonth}

pub whole_tail : (text : List ℕ) → Tail text text
whole_tail text = ([], refl)

pub tail_on : (text mid rest : List ℕ) → Tail text mid → Tail mid rest → Tail text rest
tail_on text mid rest h k = (h.0 ++ k.0, h.1 ∙ ap (λ m. h.0 ++ m) k.1 ∙ sym (append_assoc h.0 k.0 rest))

-- the same by its place
pub tail_place : (text rest : List ℕ) → Tail text rest → drop (length text - length rest) text ≡ rest
tail_place text rest h =
    let e : length text - length rest ≡ length h.0 = omega (arith, ap length h.1, length-append h.0 rest) in
    ap (λ n. drop n text) e ∙ ap (λ t. drop (length h.0) t) h.1 ∙ drop-append_seam h.0 rest

-- ---- a part of a line

abbrev Ends : {X : Type 0} → List ℕ → Option (X × List ℕ) → Type 0
Ends text None = Unit {0}
Ends text (Some s) = Tail text s.1

abbrev RestEnds : List ℕ → Option (List ℕ) → Type 0
RestEnds text None = Unit {0}
RestEnds text (Some rest) = Tail text rest

-- what a reader leaves is an end of what it is given
abbrev LeavesEnd : {X : Type 0} → Reads X → Type 0
LeavesEnd reads = (text : List ℕ) → Ends text (reads text)

ends_on : {X : Type 0} (text mid : List ℕ) (r : Option (X × List ℕ)) → Tail text mid → Ends mid r → Ends text r
ends_on text mid None h k = tt
ends_on text mid (Some s) h k = tail_on text mid s.1 h k

bind_ends : {X Y : Type 0} (text : List ℕ) (r : Option (X × List ℕ)) (next : X × List ℕ → Option (Y × List ℕ)) → Ends text r → ((s : X × List ℕ) → Ends s.1 (next s)) → Ends text (r >>= next)
bind_ends text None next h k = tt
bind_ends text (Some s) next h k = ends_on text s.1 (next s) h (k s)

rest_bind_ends : {Y : Type 0} (text : List ℕ) (r : Option (List ℕ)) (next : List ℕ → Option (Y × List ℕ)) → RestEnds text r → ((rest : List ℕ) → Ends rest (next rest)) → Ends text (r >>= next)
rest_bind_ends text None next h k = tt
rest_bind_ends text (Some rest) next h k = ends_on text rest (next rest) h (k rest)

run_ends : (kind : ℕ → Bool) (least most : ℕ) → LeavesEnd (run kind least most)
run_ends kind least most text = go (between least most (prefix_len kind text))
  where
    n : ℕ
    n = prefix_len kind text

    go : (t : Bool) → Ends text (cond t (Some (take n text, drop n text)) None)
    go true = (take n text, sym (take-append-drop n text))
    go false = tt

number_ends : (most : ℕ) → LeavesEnd (number_up_to most)
number_ends most text = bind_ends text (run digit 1 most text) _ (run_ends digit 1 most text) (λ s. go (needless_zero s.0) (value s.0) s.1)
  where
    go : (t : Bool) (v : ℕ) (rest : List ℕ) → Ends rest (cond t None (Some (v, rest)))
    go true v rest = tt
    go false v rest = whole_tail rest

cents_ends : (euros : ℕ) → LeavesEnd (cents euros)
cents_ends euros text = bind_ends text (run digit 1 2 text) _ (run_ends digit 1 2 text) (λ s. whole_tail s.1)

decimals_ends : (euros : ℕ) → LeavesEnd (decimals euros)
decimals_ends euros [] = whole_tail []
decimals_ends euros (b ∷ text) = go (eqb b 44)
  where
    go : (t : Bool) → Ends (b ∷ text) (cond t (cents euros text) (Some (euros * 100, b ∷ text)))
    go true = ends_on (b ∷ text) text (cents euros text) (b ∷ [], refl) (cents_ends euros text)
    go false = whole_tail (b ∷ text)

price_ends : LeavesEnd price
price_ends text = bind_ends text (number_up_to 7 text) _ (number_ends 7 text) (λ s. decimals_ends s.0 s.1)

after_ends : (bs text : List ℕ) → RestEnds text (after bs text)
after_ends [] text = whole_tail text
after_ends (b ∷ bs) [] = tt
after_ends (b ∷ bs) (x ∷ text) = go (eqb x b) (after bs text) (after_ends bs text)
  where
    go : (t : Bool) (r : Option (List ℕ)) → RestEnds text r → RestEnds (x ∷ text) (cond t r None)
    go true None h = tt
    go true (Some rest) h = tail_on (x ∷ text) text rest (x ∷ [], refl) h
    go false r h = tt

ended_ends : {X : Type 0} (byte : ℕ) (reads : Reads X) → LeavesEnd reads → LeavesEnd (ended byte reads)
ended_ends byte reads h text = bind_ends text (reads text) _ (h text) (λ s. rest_bind_ends s.1 (after (byte ∷ []) s.1) _ (after_ends (byte ∷ []) s.1) (λ rest. whole_tail rest))

fields_ends : {X : Type 0} (reads : Reads X) → LeavesEnd reads → (n : ℕ) → LeavesEnd (fields reads n)
fields_ends reads h zero text = whole_tail text
fields_ends reads h (suc n) text =
    bind_ends text (field reads text) _ (ended_ends 59 reads h text) (λ s. bind_ends s.1 (fields reads n s.1) _ (fields_ends reads h n s.1) (λ t. whole_tail t.1))

line_of_ends : {X : Type 0} (reads : Reads X) → LeavesEnd reads → (n : ℕ) → LeavesEnd (line_of reads n)
line_of_ends reads h n = ended_ends 10 (fields reads n) (fields_ends reads h n)

one_ends : {X : Type 0} (reads : Reads X) → LeavesEnd reads → LeavesEnd (ended 10 (field reads))
one_ends reads h = ended_ends 10 (field reads) (ended_ends 59 reads h)

keyed_ends : (keyword : List ℕ) → LeavesEnd (keyed keyword)
keyed_ends keyword text = rest_bind_ends text (after keyword text) _ (after_ends keyword text) (λ rest. one_ends whole (number_ends 10) rest)

named_ends : LeavesEnd named
named_ends text =
    bind_ends text (field name text) _ (ended_ends 59 name (run_ends _ 1 16) text) (λ s. bind_ends s.1 (ended 10 (field whole) s.1) _ (one_ends whole (number_ends 10) s.1) (λ t. whole_tail t.1))

-- ---- a line

abbrev LineEnds : {X : Type 0} → List ℕ → Result (X × List ℕ) SheetFault → Type 0
LineEnds text (Err fault) = Unit {0}
LineEnds text (Ok s) = Tail text s.1

lines_on : {X : Type 0} (text mid : List ℕ) (r : Result (X × List ℕ) SheetFault) → Tail text mid → LineEnds mid r → LineEnds text r
lines_on text mid (Err fault) h k = tt
lines_on text mid (Ok s) h k = tail_on text mid s.1 h k

bind_lines : {X Y : Type 0} (text : List ℕ) (r : Result (X × List ℕ) SheetFault) (next : X × List ℕ → Result (Y × List ℕ) SheetFault) → LineEnds text r → ((s : X × List ℕ) → LineEnds s.1 (next s)) → LineEnds text (r >>>= next)
bind_lines text (Err fault) next h k = tt
bind_lines text (Ok s) next h k = lines_on text s.1 (next s) h (k s)

must_lines : {X : Type 0} (t : Bool) (fault : SheetFault) (x : X) (rest : List ℕ) → LineEnds rest (must t fault >> Ok (x, rest))
must_lines true fault x rest = whole_tail rest
must_lines false fault x rest = tt

formed_lines : {X : Type 0} (text : List ℕ) (r : Option (X × List ℕ)) (fault : SheetFault) → Ends text r → LineEnds text (ok_or r fault)
formed_lines text None fault h = tt
formed_lines text (Some s) fault h = h

-- what a line leaves is an end of what it is given
abbrev LineLeaves : {X : Type 0} → Line X → Type 0
LineLeaves reads = (l : ℕ) (text : List ℕ) → LineEnds text (reads l text)

line_leaves : {X Y : Type 0} (reads : Reads X) (fits : X → Bool) (says : X → Y) → LeavesEnd reads → LineLeaves (line reads fits says)
line_leaves reads fits says h l text = bind_lines text (ok_or (reads text) _) _ (formed_lines text (reads text) _ (h text)) (λ s. must_lines (fits s.0) _ (says s.0) s.1)

agreeing_leaves : {X : Type 0} (fault : ℕ → SheetFault) (agree : X → Bool) (reads : Line X) → LineLeaves reads → LineLeaves (agreeing fault agree reads)
agreeing_leaves fault agree reads h l text = bind_lines text (reads l text) _ (h l text) (λ s. must_lines (agree s.0) (fault l) s.0 s.1)

keyed_leaves : {Y : Type 0} (keyword : List ℕ) (fits : ℕ → Bool) (says : ℕ → Y) → LineLeaves (line (keyed keyword) fits says)
keyed_leaves keyword fits says = line_leaves (keyed keyword) fits says (keyed_ends keyword)

head_leaves : LineLeaves head
head_leaves before text =
    bind_lines text (identifier_line (before + 1) text) _ (line_leaves named _ itself named_ends (before + 1) text) (λ s1.
    bind_lines s1.1 (floor_line (before + 2) s1.1) _ (keyed_leaves (codes "seuil_minimum;") _ itself (before + 2) s1.1) (λ s2.
    bind_lines s2.1 (product_line (before + 3) s2.1) _ (keyed_leaves (codes "DMO;") _ _ (before + 3) s2.1) (λ s3.
    bind_lines s3.1 (domax_line s3.0 (before + 4) s3.1) _ (keyed_leaves (codes "DOmax;") _ itself (before + 4) s3.1) (λ s4.
    bind_lines s4.1 (mark_line (codes "Obs_Stat;") (before + 5) s4.1) _ (keyed_leaves (codes "Obs_Stat;") _ _ (before + 5) s4.1) (λ s5.
    bind_lines s5.1 (mark_line (codes "DOmin;") (before + 6) s5.1) _ (keyed_leaves (codes "DOmin;") _ _ (before + 6) s5.1) (λ s6.
    must_lines (not (s5.0 && s6.0)) (Marks (before + 6)) (record { name = s1.0.0; number = s1.0.1; floor = s2.0; product = s3.0; observed = s5.0; short = s6.0 }) s6.1))))))

numbers_leave : {Y : Type 0} (n : ℕ) (fits : List ℕ → Bool) (says : List ℕ → Y) → LineLeaves (line (line_of whole n) fits says)
numbers_leave n fits says = line_leaves (line_of whole n) fits says (line_of_ends whole (number_ends 10) n)

rows_leave : (ranges m : ℕ) → LineLeaves (price_lines ranges m)
rows_leave ranges zero l text = whole_tail text
rows_leave ranges (suc m) l text =
    bind_lines text (price_line ranges l text) _ (agreeing_leaves Order _ _ (line_leaves (line_of price ranges) _ itself (line_of_ends price price_ends ranges)) l text) (λ s.
    bind_lines s.1 (price_lines ranges m (l + 1) s.1) _ (rows_leave ranges m (l + 1) s.1) (λ t. whole_tail t.1))

block_leaves : (blocks : ℕ) → LineLeaves (block_line blocks)
block_leaves zero l text = whole_tail text
block_leaves (suc b) l text = line_leaves (ended 10 (field price)) _ Some (one_ends price price_ends) l text

-- ---- a sheet

read_leaves : (T before : ℕ) (text : List ℕ) → LineEnds text (read T before text)
read_leaves T before text =
    bind_lines text (head before text) _ (head_leaves before text) (λ s6.
    bind_lines s6.1 (shape_line T (before + 7) s6.1) _ (agreeing_leaves PartMonth _ _ (numbers_leave 3 _ _) (before + 7) s6.1) (λ s7.
    bind_lines s7.1 (width_line s7.0.ranges s6.0.floor (before + 8) s7.1) _ (numbers_leave s7.0.ranges _ itself (before + 8) s7.1) (λ s8.
    bind_lines s8.1 (period_line T s7.0.periods (before + 9) s8.1) _ (agreeing_leaves Order _ _ (numbers_leave s7.0.periods _ itself) (before + 9) s8.1) (λ s9.
    bind_lines s9.1 (price_lines s7.0.ranges s7.0.periods (before + 10) s9.1) _ (rows_leave s7.0.ranges s7.0.periods (before + 10) s9.1) (λ s10.
    bind_lines s10.1 (block_line s7.0.blocks (before + 10 + s7.0.periods) s10.1) _ (block_leaves s7.0.blocks (before + 10 + s7.0.periods) s10.1) (λ s11. whole_tail s11.1))))))

pub read_tail : (T before : ℕ) (text : List ℕ) (o : Offer) (rest : List ℕ) → read T before text ≡ Ok (o, rest) → Tail text rest
read_tail T before text o rest e = go (read T before text) (read_leaves T before text) e
  where
    go : (r : Result (Offer × List ℕ) SheetFault) → LineEnds text r → r ≡ Ok (o, rest) → Tail text rest
    go (Err fault) h e = absurd (cc)
    go (Ok s) h e =
        let p : s ≡ (o, rest) = cc in
        let q : s.1 ≡ rest = ap (λ x. x.1) p in
        (h.0, h.1 ∙ ap (λ r. h.0 ++ r) q)
