-- How a price and a line are written. Assumes nothing.
use Rattle.std.specs.Prelude.{ℕ, ◌+◌, ◌/◌, ◌%◌, List, [], ◌∷◌, ◌++◌, decimal}

-- euros, a comma and two digits, always
abbrev pub price_text : ℕ → List ℕ
price_text cents = decimal (cents / 100) ++ (44 ∷ (48 + cents / 10 % 10) ∷ (48 + cents % 10) ∷ [])

-- each field with its semicolon, then a line feed
abbrev pub line_text : List (List ℕ) → List ℕ
line_text [] = 10 ∷ []
line_text (field ∷ fields) = field ++ (59 ∷ line_text fields)
