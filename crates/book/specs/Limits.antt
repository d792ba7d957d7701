-- The limits that the offers of a book keep, each alone and together. Assumes nothing.
use Rattle.std.specs.Prelude.{ℕ, ◌-◌, ◌≤◌, Bool, true, false, cond, ◌&&◌, List, map, length, is_some, ◌==◌}
use Rattle.std.specs.List.{AllByRecursion}
use Rattle.std.specs.Str.{bytes_eq}
use Rattle.sheet.specs.Offer.{Offer, total, width, prices_at}
use Rattle.sheet.specs.Saved.{Fits}
use Rattle.sheet.specs.declared.product.Product.{Product}
use Rattle.sheet.specs.declared.product.Product.TheVariants.{Rapid, Complementary}

abbrev pub most_offers : ℕ
most_offers = 32

-- of one candidate in one period
abbrev pub most_pairs : ℕ
most_pairs = 50

-- MW of one product
abbrev pub most_volume : ℕ
most_volume = 2000

abbrev pub most_blocks : ℕ
most_blocks = 6

-- an offer is known by name and number
abbrev pub same : (name : List ℕ) (number : ℕ) → List ℕ → ℕ → Bool
same name number other_name other_number = bytes_eq other_name name && other_number == number

abbrev pub is : (name : List ℕ) (number : ℕ) → Offer → Bool
is name number o = same name number o.name o.number

-- how many pass the test
abbrev pub count : {X : Type 0} → (X → Bool) → List X → ℕ
count test xs = total (map (λ x. cond (test x) 1 0) xs)

-- the prices of an offer in period t, counted from 1, by range: none where it is not offered
abbrev pub row : Offer → ℕ → List ℕ
row o t = prices_at o (t - 1)

-- the ranges that a candidate offers in period t, of either product
abbrev pub ranges : (name : List ℕ) → List Offer → (t : ℕ) → ℕ
ranges name offers t = total (map (λ o. cond (bytes_eq o.name name) (length (row o t)) 0) offers)

abbrev pub is_of : Product → Product → Bool
is_of Rapid Rapid = true
is_of Rapid Complementary = false
is_of Complementary Rapid = false
is_of Complementary Complementary = true

-- the whole width of a product, whether offered in a period or not
abbrev pub breadth : Product → List Offer → ℕ
breadth product offers = total (map (λ o. cond (is_of product o.product) (width o) 0) offers)

abbrev pub has_block : Offer → Bool
has_block o = is_some o.block

-- a period of the month
abbrev pub InMonth : List ℕ → ℕ → Type 0
InMonth days t = (1 ≤ t) × (t ≤ length days)

-- the offers of a book, under the day counts of its month; an offer may be offered in no period
pub record Limits (days : List ℕ) (offers : List Offer) : Type 0 where
  pub month : (length days ≤ 11) × (total days ≤ 31)
  pub sheets : AllByRecursion (Fits (length days)) offers
  pub apart : (name : List ℕ) (number : ℕ) → count (is name number) offers ≤ 1
  pub places : length offers ≤ most_offers
  pub pairs : (name : List ℕ) (t : ℕ) → InMonth days t → ranges name offers t ≤ most_pairs
  pub volumes : (product : Product) → breadth product offers ≤ most_volume
  pub blocks : count has_block offers ≤ most_blocks
