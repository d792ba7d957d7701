-- A saved sheet, the limits that a sheet keeps, and the laws of save and read. Assumes nothing.
use Rattle.std.specs.Prelude.{◌≡◌, ℕ, ◌≤◌, Bool, true, false, cond, ◌&&◌, leb, List, [], ◌∷◌, ◌++◌, map, length, drop, is_some, Some, None, Ok, Err, codes, decimal, Option, Result, nat_le, slice_index_or}
use Rattle.std.specs.List.{concat, AllByRecursion}
use Rattle.text.specs.Form.{letter_or_digit}
use Rattle.text.specs.Written.{price_text, line_text}
use Rattle.sheet.specs.declared.fault.SheetFault.{SheetFault}
use Rattle.sheet.specs.declared.fault.SaveFault.{SaveFault}
use Rattle.sheet.specs.declared.fault.SaveFault.TheVariants.{Space}
use Rattle.sheet.specs.Limits.{longest_name, highest_number, lowest_floor, highest_floor, most_ranges, widest, most_periods, highest_price, highest_block}
use Rattle.sheet.specs.Offer.{Offer, width}
use Rattle.sheet.specs.Sheet.{◌>>=◌, dmo, domax, chain, priced, read, read_alone}

abbrev pub mark_text : Bool → List ℕ
mark_text mark = decimal (cond mark 1 0)

abbrev pub block_text : Option ℕ → List ℕ
block_text None = []
block_text (Some price) = line_text (price_text price ∷ [])

-- how many ranges, priced periods and blocks
abbrev pub shape_text : Offer → List ℕ
shape_text o = line_text (decimal (length o.widths) ∷ decimal (length (priced 1 o.rows)) ∷ mark_text (is_some o.block) ∷ [])

-- the lines of an offer as it is saved; the price lines are one text, and so is the block's, if any
abbrev pub saved_lines : Offer → List (List ℕ)
saved_lines o =
    let rows = priced 1 o.rows in
    line_text (o.name ∷ decimal o.number ∷ [])
    ∷ line_text (codes "seuil_minimum" ∷ decimal o.floor ∷ [])
    ∷ line_text (codes "DMO" ∷ decimal (dmo o.product) ∷ [])
    ∷ line_text (codes "DOmax" ∷ decimal (domax o.product) ∷ [])
    ∷ line_text (codes "Obs_Stat" ∷ mark_text o.observed ∷ [])
    ∷ line_text (codes "DOmin" ∷ mark_text o.short ∷ [])
    ∷ shape_text o
    ∷ line_text (map decimal o.widths)
    ∷ line_text (map (λ p. decimal p.0) rows)
    ∷ concat (map (λ p. line_text (map price_text p.1)) rows)
    ∷ block_text o.block
    ∷ []

-- an offer as it is saved
abbrev pub written : Offer → List ℕ
written o = concat (saved_lines o)

-- what a save of a text into a buffer answers: its length, unless it is longer than the buffer
abbrev pub save_answer : (text buffer : List ℕ) → Result ℕ SaveFault
save_answer text buffer = cond (nat_le (length text) (length buffer)) (Ok (length text)) (Err Space)

-- what the buffer then holds: the text from its start and, past it, what was there; all as before where it is too short
abbrev pub buffer_after : (text buffer : List ℕ) → List ℕ
buffer_after text buffer = cond (nat_le (length text) (length buffer)) (text ++ drop (length text) buffer) buffer

-- ---- the limits of a sheet

-- a price for each range, none above the highest, never falling
abbrev pub RowFits : (ranges : ℕ) → Option (List ℕ) → Type 0
RowFits ranges None = Unit {0}
RowFits ranges (Some prices) = (length prices ≡ ranges) × AllByRecursion (λ p. p ≤ highest_price) prices × (chain leb prices ≡ true)

-- a block only where all T periods are priced
abbrev pub BlockFits : (T m : ℕ) → Option ℕ → Type 0
BlockFits T m None = Unit {0}
BlockFits T m (Some price) = (price ≤ highest_block) × (m ≡ T)

-- an offer of a month of T periods, which may be offered in none
pub record Fits (T : ℕ) (o : Offer) : Type 0 where
  pub name_length : (1 ≤ length o.name) × (length o.name ≤ longest_name)
  pub name_bytes : AllByRecursion (λ b. letter_or_digit b ≡ true) o.name
  pub number_most : o.number ≤ highest_number
  pub floor_range : (lowest_floor ≤ o.floor) × (o.floor ≤ highest_floor)
  pub one_mark : (o.observed && o.short) ≡ false
  pub range_count : (1 ≤ length o.widths) × (length o.widths ≤ most_ranges)
  pub range_widths : AllByRecursion (λ w. (1 ≤ w) × (w ≤ widest)) o.widths
  pub first_width : slice_index_or o.widths 0 0 ≡ o.floor
  pub whole_width : width o ≤ widest
  pub whole_month : length o.rows ≡ T
  pub row_prices : AllByRecursion (RowFits (length o.widths)) o.rows
  pub block_price : BlockFits T (length (priced 1 o.rows)) o.block

-- what a sheet can say: offered in a period at least
abbrev pub OnSheet : ℕ → Offer → Type 0
OnSheet T o = Fits T o × (1 ≤ length (priced 1 o.rows))

-- ---- the laws

-- what is saved is read as the same offer, whatever follows it
abbrev pub SavedReadsBack : Type 0
SavedReadsBack = (T before : ℕ) (o : Offer) (rest : List ℕ) → T ≤ most_periods → OnSheet T o → read T before (written o ++ rest) ≡ Ok (o, rest)

-- what is read keeps the limits, so that its save is read as the same offer
abbrev pub ReadSavesBack : Type 0
ReadSavesBack = (T before : ℕ) (text : List ℕ) (o : Offer) (rest : List ℕ) → T ≤ most_periods → read T before text ≡ Ok (o, rest) → OnSheet T o × (read_alone T (written o) ≡ Ok o)

-- what a sheet's text is saved as
abbrev pub saved_as : (T : ℕ) → List ℕ → Result (List ℕ) SheetFault
saved_as T text = do
  o ← read_alone T text
  Ok (written o)

-- a candidate's own text and its save say the same
abbrev pub SaveSaysTheSame : Type 0
SaveSaysTheSame = (T : ℕ) (text saved : List ℕ) → T ≤ most_periods → saved_as T text ≡ Ok saved → read_alone T saved ≡ read_alone T text

-- a save, read and saved again, is the same bytes
abbrev pub SaveSettles : Type 0
SaveSettles = (T : ℕ) (text saved : List ℕ) → T ≤ most_periods → saved_as T text ≡ Ok saved → saved_as T saved ≡ Ok saved
