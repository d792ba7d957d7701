-- What an offer says. Assumes nothing.
use Rattle.std.specs.Prelude.{ℕ, ◌+◌, Bool, List, [], ◌∷◌, Some, None, Option, slice_index_or}
use Rattle.sheet.specs.declared.product.Product.{Product}

pub record Offer : Type 0 where
  pub name : List ℕ
  pub number : ℕ
  -- the least power that may be accepted of it, in MW
  pub floor : ℕ
  pub product : Product
  pub observed : Bool
  pub short : Bool
  -- MW of each range
  pub widths : List ℕ
  -- for each period of the month, a price for each range, or none where it is not offered
  pub rows : List (Option (List ℕ))
  -- the price of one MW of all ranges for the whole month
  pub block : Option ℕ

abbrev pub total : List ℕ → ℕ
total [] = 0
total (x ∷ xs) = x + total xs

-- all MW of an offer
abbrev pub width : Offer → ℕ
width o = total o.widths

abbrev pub listed : Option (List ℕ) → List ℕ
listed None = []
listed (Some prices) = prices

-- the prices by range in the period at a place of the month, counted from 0: none where the offer does not stand in it
abbrev pub prices_at : Offer → (place : ℕ) → List ℕ
prices_at o place = listed (slice_index_or o.rows place None)
