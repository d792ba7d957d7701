-- What the readers answer, by its meaning: the value of a token and the text that follows it. Assumes nothing.
use Rattle.std.specs.Prelude.{◌≡◌, ℕ, ◌^◌, ◌<◌, ◌≤◌, Bool, true, List, ◌∷◌, ◌++◌, length, Some, None, Option}
use Rattle.std.specs.Borrow.{Bor}
use Rattle.std.specs.List.{AllByRecursion}
use Rattle.text.specs.declared.name.Name.{Name}
use Rattle.text.specs.declared.number.Number.{Number}
use Rattle.text.specs.declared.price.Price.{Price}
use Rattle.text.specs.Form.{letter_or_digit, value as value_of}

-- what follows a part that has to stand there
abbrev pub rest_read : Option (Bor (List ℕ)) → Option (List ℕ)
rest_read None = None
rest_read (Some rest) = Some rest.now

-- a part of the text, and what follows it
abbrev pub part_read : Option (Bor (List ℕ) × Bor (List ℕ)) → Option (List ℕ × List ℕ)
part_read None = None
part_read (Some (part, rest)) = Some (part.now, rest.now)

-- what a token means, and what follows it
abbrev pub token_read : {T X : Type 0} → (T → X) → Option (T × Bor (List ℕ)) → Option (X × List ℕ)
token_read meaning None = None
token_read meaning (Some (token, rest)) = Some (meaning token, rest.now)

-- a value, and what follows what says it
abbrev pub value_read : Option (ℕ × Bor (List ℕ)) → Option (ℕ × List ℕ)
value_read = token_read (λ value. value)

-- a whole number's value, and what follows it
abbrev pub number_read : Option (Number × Bor (List ℕ)) → Option (ℕ × List ℕ)
number_read = token_read (λ number. number.value)

-- a price in cents, and what follows it
abbrev pub price_read : Option (Price × Bor (List ℕ)) → Option (ℕ × List ℕ)
price_read = token_read (λ price. price.cents)

-- a name's bytes, and what follows it
abbrev pub name_read : Option (Name × Bor (List ℕ)) → Option (List ℕ × List ℕ)
name_read = token_read (λ name. name.bytes.now)

-- a name with a number, and what follows their line
abbrev pub named_read : Option (Name × Number × Bor (List ℕ)) → Option ((List ℕ × ℕ) × List ℕ)
named_read None = None
named_read (Some (name, number, rest)) = Some ((name.bytes.now, number.value), rest.now)

-- the answers about a byte are whether it is of the kind
abbrev pub Decides : (kind : ℕ → Bool) → (ℕ → Bool → Type 0) → Type 0
Decides kind answers = (byte : ℕ) (answer : Bool) → answers byte answer → answer ≡ kind byte

-- a part that is the text as far as the rest, of bytes of one kind alone, and of so many
pub record Part (kind : ℕ → Bool) (least most : ℕ) (text part rest : List ℕ) : Type 0 where
  pub stands : text ≡ part ++ rest
  pub all : AllByRecursion (λ b. kind b ≡ true) part
  pub low : least ≤ length part
  pub high : length part ≤ most

-- a number of at most so many digits, whose digits are the text as far as the rest
pub record NumberAt (most : ℕ) (text : List ℕ) (number : Number) (rest : List ℕ) : Type 0 where
  pub stands : text ≡ number.digits.now ++ rest
  pub valued : number.value ≡ value_of number.digits.now
  pub small : number.value < 10 ^ most

-- a price, whose bytes are the text as far as the rest
pub record PriceAt (text : List ℕ) (price : Price) (rest : List ℕ) : Type 0 where
  pub stands : text ≡ price.bytes.now ++ rest
  pub small : price.cents < 10 ^ 9

-- a name and a number, each with its semicolon, are a line of the text
pub record NamedAt (text : List ℕ) (name : Name) (number : Number) (rest : List ℕ) : Type 0 where
  pub name_part : Part letter_or_digit 1 16 text name.bytes.now (59 ∷ (number.digits.now ++ (59 ∷ 10 ∷ rest)))
  pub valued : number.value ≡ value_of number.digits.now
  pub small : number.value < 10 ^ 10

-- the rest is an end of the text
abbrev pub Tail : (text rest : List ℕ) → Type 0
Tail text rest = (front : List ℕ) × (text ≡ front ++ rest)
