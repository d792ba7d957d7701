-- Sheets in a text, by the places where they begin. Assumes nothing.
use Rattle.std.specs.Prelude.{ℕ, Bool, true, false, ◌&&◌, List, [], map, length, drop, None, Ok, Err, Result, nat_le}
use Rattle.short_list.specs.ShortList.{items}
use Rattle.sheet.specs.Offer.{Offer}
use Rattle.sheet.specs.Sheet.{every, read}
use Rattle.sheet.specs.declared.fault.SheetFault.{SheetFault}
use Rattle.sheet.specs.declared.product.Product.TheVariants.{Rapid}
use Rattle.short_list.specs.declared.list.ShortList.{ShortList}

-- in order
abbrev pub places_of : ShortList ℕ 32 → List ℕ
places_of = items

abbrev pub was_read : Result (Offer × List ℕ) SheetFault → Bool
was_read (Ok s) = true
was_read (Err fault) = false

-- stands where no sheet can be read, which is at no place of a deposit
abbrev pub no_offer : Offer
no_offer = record {
  name = [];
  number = 0;
  floor = 0;
  product = Rapid;
  observed = false;
  short = false;
  widths = [];
  rows = [];
  block = None;
}

abbrev pub offer_read : Result (Offer × List ℕ) SheetFault → Offer
offer_read (Ok s) = s.0
offer_read (Err fault) = no_offer

module _ (T : ℕ) (text : List ℕ) where
  -- whether a sheet of a month of T periods begins at a place of the text
  unfoldable pub begins : (place : ℕ) → Bool
  begins place = nat_le place (length text) && was_read (read T 0 (drop place text))

  -- the offer of the sheet that begins there
  unfoldable pub offer_at : (place : ℕ) → Offer
  offer_at place = offer_read (read T 0 (drop place text))

  abbrev pub all_begin : List ℕ → Bool
  all_begin places = every begins places

  abbrev pub offers_at : List ℕ → List Offer
  offers_at places = map offer_at places
