-- What a form that was read says of the text's parts.
use Rattle.std.proofs.Common.{◌≡◌, ℕ, zero, suc, ◌+◌, ◌≤◌, Bool, true, false, cond, leb, List, [], ◌∷◌, length, take, drop, Some, None, Option, sym, refl, ap, ◌∙◌, subst, one-add, arith}
use Rattle.std.proofs.lemmas.Bool.{leb-true, and_parts}
use Rattle.std.proofs.lemmas.List.{length-take-le}
use Rattle.std.proofs.lemmas.List.Sums.{prefix_len-le-length}
use Rattle.std.specs.List.{prefix_len, AllByRecursion}
use Rattle.text.specs.Form.{Reads, ◌>>=◌, between, run, letter_or_digit, name, whole, after, ended, field, fields, line_of, named}
use Rattle.text.specs.Laws.{Named}

pub within_from : (low high n : ℕ) → between low high n ≡ true → (low ≤ n) × (n ≤ high)
within_from low high n h = let both = and_parts (leb low n) (leb n high) h in (leb-true low n both.0, leb-true n high both.1)

pub some_from : {X Y : Type 0} (r : Option X) (next : X → Option Y) (y : Y) → (r >>= next) ≡ Some y → (x : X) × (r ≡ Some x) × (next x ≡ Some y)
some_from None next y h = absurd (let z : ◌≡◌ {A = ℕ} 0 1 = cc in omega arith)
some_from (Some x) next y h = (x, refl, h)

-- a test that let a value through
pub passed : {X : Type 0} (t : Bool) (x y : X) → cond t (Some x) None ≡ Some y → (t ≡ true) × (x ≡ y)
passed true x y h = (refl, cc)
passed false x y h = absurd (let z : ◌≡◌ {A = ℕ} 0 1 = cc in omega arith)

pub leading_take : (kind : ℕ → Bool) (text : List ℕ) → AllByRecursion (λ b. kind b ≡ true) (take (prefix_len kind text) text)
leading_take kind [] = tt
leading_take kind (x ∷ text) = each (leading_take kind text) (kind x) refl
  where
    each : AllByRecursion (λ b. kind b ≡ true) (take (prefix_len kind text) text) → (t : Bool) → kind x ≡ t → AllByRecursion (λ b. kind b ≡ true) (take (cond t (1 + prefix_len kind text) 0) (x ∷ text))
    each more true e = rw one-add (e, more)
    each more false e = tt

pub run_from : (kind : ℕ → Bool) (least most : ℕ) (text : List ℕ) (s : List ℕ × List ℕ) → run kind least most text ≡ Some s → AllByRecursion (λ b. kind b ≡ true) s.0 × (least ≤ length s.0) × (length s.0 ≤ most)
run_from kind least most text s h =
    let n = prefix_len kind text in
    let both = passed (between least most n) (take n text, drop n text) s h in
    let size = within_from least most n both.0 in
    let front : take n text ≡ s.0 = ap (λ p. p.0) both.1 in
    let long : length s.0 ≡ n = ap length (sym front) ∙ length-take-le n text (prefix_len-le-length kind text) in
    (subst (AllByRecursion (λ b. kind b ≡ true)) front (leading_take kind text), omega (arith, size, long), omega (arith, size, long))

pub ended_from : {X : Type 0} (byte : ℕ) (reads : Reads X) (text : List ℕ) (s : X × List ℕ) → ended byte reads text ≡ Some s → (p : X × List ℕ) × (reads text ≡ Some p) × (p.0 ≡ s.0)
ended_from byte reads text s h =
    let a = some_from (reads text) _ s h in
    let b = some_from (after (byte ∷ []) a.0.1) _ s a.2 in
    let e = b.2 in
    (a.0, a.1, cc)

pub fields_from : {X : Type 0} (reads : Reads X) (n : ℕ) (text : List ℕ) (s : List X × List ℕ) → fields reads n text ≡ Some s → length s.0 ≡ n
fields_from reads zero text s h = let e : s ≡ ([], text) = cc in ap (λ p. length p.0) e
fields_from reads (suc n) text s h =
    let a = some_from (field reads text) _ s h in
    let b = some_from (fields reads n a.0.1) _ s a.2 in
    let long = fields_from reads n a.0.1 b.0 b.1 in
    let last = b.2 in
    let e : s ≡ (a.0.0 ∷ b.0.0, b.0.1) = cc in
    ap (λ p. length p.0) e ∙ ap suc long

pub line_of_from : {X : Type 0} (reads : Reads X) (n : ℕ) (text : List ℕ) (s : List X × List ℕ) → line_of reads n text ≡ Some s → length s.0 ≡ n
line_of_from reads n text s h =
    let a = ended_from 10 (fields reads n) text s h in
    ap length (sym a.2) ∙ fields_from reads n text a.0 a.1

pub named_from : (text : List ℕ) (s : (List ℕ × ℕ) × List ℕ) → named text ≡ Some s → Named s.0.0
named_from text s h =
    let a = some_from (field name text) _ s h in
    let b = some_from (ended 10 (field whole) a.0.1) _ s a.2 in
    let last = b.2 in
    let e : s ≡ ((a.0.0, b.0.0), b.0.1) = cc in
    let c = ended_from 59 name text a.0 a.1 in
    let fits : Named c.0.0 = run_from letter_or_digit 1 16 text c.0 c.1 in
    let same : c.0.0 ≡ s.0.0 = c.2 ∙ sym (ap (λ p. p.0.0) e) in
    subst Named same fits
