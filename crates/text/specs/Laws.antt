-- What is written is read back, part by part. Assumes nothing.
use Rattle.std.specs.Prelude.{◌≡◌, ℕ, ◌^◌, ◌<◌, ◌≤◌, Bool, true, List, [], ◌∷◌, ◌++◌, map, length, Some, decimal}
use Rattle.std.specs.List.{prefix_len, AllByRecursion}
use Rattle.text.specs.Form.{digit, letter_or_digit, name, number_up_to, whole, price, line_of, keyed, named}
use Rattle.text.specs.Written.{price_text, line_text}

-- the text begins with no byte of the kind
abbrev pub Past : (ℕ → Bool) → List ℕ → Type 0
Past kind text = prefix_len kind text ≡ 0

abbrev pub NumberReadsBack : Type 0
NumberReadsBack = (most n : ℕ) (rest : List ℕ) → 0 < most → most ≤ 19 → n < 10 ^ most → Past digit rest → number_up_to most (decimal n ++ rest) ≡ Some (n, rest)

abbrev pub PriceReadsBack : Type 0
PriceReadsBack = (cents : ℕ) (rest : List ℕ) → cents < 10 ^ 9 → Past digit rest → price (price_text cents ++ rest) ≡ Some (cents, rest)

abbrev pub Named : List ℕ → Type 0
Named who = AllByRecursion (λ b. letter_or_digit b ≡ true) who × (1 ≤ length who) × (length who ≤ 16)

abbrev pub NameReadsBack : Type 0
NameReadsBack = (who rest : List ℕ) → Named who → Past letter_or_digit rest → name (who ++ rest) ≡ Some (who, rest)

-- a line of numbers, and one of prices
abbrev pub NumbersReadBack : Type 0
NumbersReadBack = (ns rest : List ℕ) → AllByRecursion (λ n. n < 10 ^ 10) ns → line_of whole (length ns) (line_text (map decimal ns) ++ rest) ≡ Some (ns, rest)

abbrev pub PricesReadBack : Type 0
PricesReadBack = (ps rest : List ℕ) → AllByRecursion (λ p. p < 10 ^ 9) ps → line_of price (length ps) (line_text (map price_text ps) ++ rest) ≡ Some (ps, rest)

-- a line of a keyword and a number, and one of a name and a number
abbrev pub KeyedReadsBack : Type 0
KeyedReadsBack = (keyword : List ℕ) (n : ℕ) (rest : List ℕ) → n < 10 ^ 10 → keyed (keyword ++ (59 ∷ [])) (line_text (keyword ∷ decimal n ∷ []) ++ rest) ≡ Some (n, rest)

abbrev pub NamedReadsBack : Type 0
NamedReadsBack = (who : List ℕ) (n : ℕ) (rest : List ℕ) → Named who → n < 10 ^ 10 → named (line_text (who ∷ decimal n ∷ []) ++ rest) ≡ Some ((who, n), rest)
