-- What a book answers, by the list of offers and the day counts that it means. Assumes nothing.
use Rattle.std.specs.Prelude.{ℕ, ◌-◌, cond, List, Some, None, Option, nat_le}
use Rattle.std.specs.Borrow.{Bor}
use Rattle.std.specs.List.{slice_get}
use Rattle.text.specs.Form.{◌>>=◌}
use Rattle.sheet.specs.Offer.{Offer}

-- a fact of the offer at a place of the list, counted from 0; none outside the list
abbrev pub asked : {X : Type 0} → (Offer → X) → List Offer → (i : ℕ) → Option X
asked fact offers i = slice_get offers i >>= (λ o. Some (fact o))

-- the MW of range k, counted from 0, of an offer; none outside its ranges
abbrev pub width_asked : List Offer → (i k : ℕ) → Option ℕ
width_asked offers i k = slice_get offers i >>= (λ o. slice_get o.widths k)

-- the price of range k in period t, counted from 1; none outside the month, where it is not offered, and outside its ranges
abbrev pub price_asked : List Offer → (i t k : ℕ) → Option ℕ
price_asked offers i t k = cond (nat_le 1 t) (slice_get offers i >>= (λ o. slice_get o.rows (t - 1) >>= (λ row. row >>= (λ prices. slice_get prices k)))) None

-- the block price; none without a block
abbrev pub block_asked : List Offer → (i : ℕ) → Option ℕ
block_asked offers i = slice_get offers i >>= (λ o. o.block)

-- a part of a text, by its bytes
abbrev pub bytes_of : Option (Bor (List ℕ)) → Option (List ℕ)
bytes_of None = None
bytes_of (Some bytes) = Some bytes.now
