-- No line of few numbers is long.
use Rattle.std.proofs.Common.{ℕ, suc, ◌+◌, ◌*◌, ◌^◌, ◌<◌, ◌≤◌, List, [], ◌∷◌, map, length, get_or, Some, None, decimal, Option, Fits, w32, arith}
use Rattle.std.proofs.lemmas.List.{length-append}
use Rattle.text.specs.Written.{line_text}
use Rattle.sheet.specs.Sheet.{priced}
use Rattle.sheet.specs.Short.{decimal_ten, decimal_short}

-- a line of numbers of 32 bits, of which each has at most 13 bytes
pub numbers_short : (text : ℕ → List ℕ) → ((n : ℕ) → n < 2 ^ 32 → length (text n) ≤ 13) → (ns : List ℕ) → ((i : ℕ) → Fits w32 (get_or ns i 0)) → length (line_text (map text ns)) ≤ length ns * 14 + 1
numbers_short text short [] small = omega arith
numbers_short text short (n ∷ ns) small =
    let fits = small 0 in
    let here = short n (omega (arith, fits)) in
    let more = numbers_short text short ns (λ i. small (suc i)) in
    omega (arith, here, more, length-append (text n) (59 ∷ line_text (map text ns)))

pub named_short : (word : List ℕ) (n : ℕ) → n < 2 ^ 32 → length (line_text (word ∷ decimal n ∷ [])) ≤ length word + 13
named_short word n small =
    let ten = decimal_ten n small in
    omega (arith, ten, length-append word (59 ∷ line_text (decimal n ∷ [])), length-append (decimal n) (59 ∷ 10 ∷ []))

pub periods_short : (t : ℕ) (rows : List (Option (List ℕ))) → t + length rows < 2 ^ 32 → length (line_text (map (λ p. decimal p.0) (priced t rows))) ≤ length rows * 14 + 1
periods_short t [] few = omega arith
periods_short t (None ∷ rows) few = let more = periods_short (t + 1) rows (omega arith) in omega (arith, more)
periods_short t (Some row ∷ rows) few =
    let here = decimal_short t (omega arith) in
    let more = periods_short (t + 1) rows (omega arith) in
    omega (arith, here, more, length-append (decimal t) (59 ∷ line_text (map (λ p. decimal p.0) (priced (t + 1) rows))))
