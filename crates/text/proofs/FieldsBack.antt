-- Fields and lines of fields are read back.
use Rattle.std.proofs.Common.{◌≡◌, ℕ, ◌^◌, ◌<◌, ◌≤◌, true, List, [], ◌∷◌, ◌++◌, map, length, Some, decimal, refl, ap, ◌∙◌, append_assoc, arith}
use Rattle.std.proofs.lemmas.Bool.{eq-eqb}
use Rattle.std.specs.List.{AllByRecursion}
use Rattle.text.specs.Form.{Reads, after, letter_or_digit, whole, price, name, ended, field, fields, line_of, keyed, named}
use Rattle.text.specs.Written.{price_text, line_text}
use Rattle.text.proofs.NumbersBack.{number_reads, price_reads, name_reads}

pub after_itself : (bs rest : List ℕ) → after bs (bs ++ rest) ≡ Some rest
after_itself [] rest = refl
after_itself (b ∷ bs) rest = rw (eq-eqb b b refl) (after_itself bs rest)

pub ended_reads : {X : Type 0} (byte : ℕ) (reads : Reads X) (x : X) (text rest : List ℕ) → reads text ≡ Some (x, byte ∷ rest) → ended byte reads text ≡ Some (x, rest)
ended_reads byte reads x text rest h = rw (h, eq-eqb byte byte refl) refl

-- what a reader makes of the text of a value, as a field
abbrev pub ReadsBack : {X : Type 0} → Reads X → (X → List ℕ) → X → Type 0
ReadsBack reads text x = (rest : List ℕ) → reads (text x ++ (59 ∷ rest)) ≡ Some (x, 59 ∷ rest)

pub field_reads : {X : Type 0} (reads : Reads X) (text : X → List ℕ) (x : X) (rest : List ℕ) → ReadsBack reads text x → field reads (text x ++ (59 ∷ rest)) ≡ Some (x, rest)
field_reads reads text x rest back = ended_reads 59 reads x (text x ++ (59 ∷ rest)) rest (back rest)

pub fields_read : {X : Type 0} (reads : Reads X) (text : X → List ℕ) (xs : List X) (rest : List ℕ) → AllByRecursion (ReadsBack reads text) xs → fields reads (length xs) (line_text (map text xs) ++ rest) ≡ Some (xs, 10 ∷ rest)
fields_read reads text [] rest all = refl
fields_read reads text (x ∷ xs) rest all =
    rw (append_assoc (text x) (59 ∷ line_text (map text xs)) rest, field_reads reads text x (line_text (map text xs) ++ rest) all.0, fields_read reads text xs rest all.1) refl

pub line_of_reads : {X : Type 0} (reads : Reads X) (text : X → List ℕ) (xs : List X) (rest : List ℕ) → AllByRecursion (ReadsBack reads text) xs → line_of reads (length xs) (line_text (map text xs) ++ rest) ≡ Some (xs, rest)
line_of_reads reads text xs rest all = ended_reads 10 (fields reads (length xs)) xs (line_text (map text xs) ++ rest) rest (fields_read reads text xs rest all)

pub whole_back : (n : ℕ) → n < 10 ^ 10 → ReadsBack whole decimal n
whole_back n small rest = number_reads 10 n (59 ∷ rest) (omega arith) (omega arith) small refl

pub price_back : (c : ℕ) → c < 10 ^ 9 → ReadsBack price price_text c
price_back c small rest = price_reads c (59 ∷ rest) small refl

-- a line of one field
pub one_reads : {X : Type 0} (reads : Reads X) (text : X → List ℕ) (x : X) (rest : List ℕ) → ReadsBack reads text x → ended 10 (field reads) (line_text (text x ∷ []) ++ rest) ≡ Some (x, rest)
one_reads reads text x rest back =
    ended_reads 10 (field reads) x (line_text (text x ∷ []) ++ rest) rest
    (ap (field reads) (append_assoc (text x) (59 ∷ 10 ∷ []) rest) ∙ field_reads reads text x (10 ∷ rest) back)

pub keyed_reads : (keyword : List ℕ) (n : ℕ) (rest : List ℕ) → n < 10 ^ 10 → keyed keyword (keyword ++ (line_text (decimal n ∷ []) ++ rest)) ≡ Some (n, rest)
keyed_reads keyword n rest small = rw (after_itself keyword (line_text (decimal n ∷ []) ++ rest)) (one_reads whole decimal n rest (whole_back n small))

pub named_reads : (who : List ℕ) (n : ℕ) (rest : List ℕ) → AllByRecursion (λ b. letter_or_digit b ≡ true) who → 1 ≤ length who → length who ≤ 16 → n < 10 ^ 10 → named (line_text (who ∷ decimal n ∷ []) ++ rest) ≡ Some ((who, n), rest)
named_reads who n rest all lo hi small =
    rw (append_assoc who (59 ∷ line_text (decimal n ∷ [])) rest, ended_reads 59 name who (who ++ (59 ∷ (line_text (decimal n ∷ []) ++ rest))) (line_text (decimal n ∷ []) ++ rest) (name_reads who (59 ∷ (line_text (decimal n ∷ []) ++ rest)) all lo hi refl), one_reads whole decimal n rest (whole_back n small)) refl
