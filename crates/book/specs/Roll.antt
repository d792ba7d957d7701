-- The roll, a plain list of the offers that stand with the needs, and what the clerk's calls make of it. Assumes nothing.
use Rattle.std.specs.Prelude.{ℕ, ◌-◌, Bool, cond, not, ◌&&◌, ltb, List, [], ◌∷◌, ◌++◌, map, length, replicate, is_some, Some, None, Ok, Err, filter, Option, Result, nat_le, nat_lt, slice_set}
use Rattle.std.specs.List.{find, range_with_len}
use Rattle.std.specs.Option.{ok_or}
use Rattle.text.specs.Form.{between}
use Rattle.text.specs.Judging.{◌>>=◌, ◌>>◌, must}
use Rattle.sheet.specs.Offer.{Offer}
use Rattle.sheet.specs.Saved.{written}
use Rattle.sheet.specs.Sheet.{read_alone}
use Rattle.book.specs.Fault.{of_sheet}
use Rattle.book.specs.Limits.{most_offers, most_pairs, most_volume, most_blocks, is, count, ranges, breadth, has_block}
use Rattle.book.specs.Needs.{highest_need, no_need}
use Rattle.book.specs.declared.fault.RegisterFault.{RegisterFault}
use Rattle.book.specs.declared.fault.RegisterFault.TheVariants.{Known, Unknown, Full, Pairs, Volume, Blocks, Period, Space}
use Rattle.book.specs.declared.need.Need.{Need}

pub record Roll : Type 0 where
  -- the offers that stand, in order
  pub offers : List Offer
  -- by period
  pub needs : List Need

-- ---- identifiers

abbrev pub standing : (name : List ℕ) (number : ℕ) → List Offer → Option Offer
standing name number [] = None
standing name number (o ∷ os) = cond (is name number o) (Some o) (standing name number os)

abbrev pub stands : (name : List ℕ) (number : ℕ) → List Offer → Bool
stands name number offers = is_some (standing name number offers)

abbrev pub others : (name : List ℕ) (number : ℕ) → List Offer → List Offer
others name number offers = filter (λ o. not (is name number o)) offers

-- the same list with another offer in the place of the one of that identifier
abbrev pub replaced : Offer → List Offer → List Offer
replaced o offers = map (λ old. cond (is o.name o.number old) o old) offers

-- ---- an offer beside the others

abbrev pub first_at : (ℕ → Bool) → List ℕ → Option ℕ
first_at = find

-- the first period in which its candidate would have too many ranges
abbrev pub crowded : (T : ℕ) → List Offer → Offer → Option ℕ
crowded T offers o = first_at (λ t. ltb most_pairs (ranges o.name (o ∷ offers) t)) (range_with_len 1 T)

abbrev pub no_pairs : Option ℕ → Result (Unit {0}) RegisterFault
no_pairs None = Ok tt
no_pairs (Some t) = Err (Pairs t)

-- whether the offers are within the limits with this one
abbrev pub beside : (T : ℕ) → List Offer → Offer → Result (Unit {0}) RegisterFault
beside T offers o = do
  no_pairs (crowded T offers o)
  must (nat_le (breadth o.product (o ∷ offers)) most_volume) Volume
  must (nat_le (count has_block (o ∷ offers)) most_blocks) Blocks

-- whether an offer may enter
abbrev pub admitted : (T : ℕ) → List Offer → Offer → Result (Unit {0}) RegisterFault
admitted T offers o = do
  must (not (stands o.name o.number offers)) Known
  must (nat_lt (length offers) most_offers) Full
  beside T offers o

-- an offer that enters, at the end
abbrev pub with : (T : ℕ) → List Offer → Offer → Result (List Offer) RegisterFault
with T offers o = do
  admitted T offers o
  Ok (offers ++ (o ∷ []))

-- ---- the clerk's calls in a month of T periods: the roll after an accepted one, or the refusal

abbrev pub new : (T : ℕ) → Roll
new T = record { offers = []; needs = replicate T no_need }

module _ (T : ℕ) (roll : Roll) where
  abbrev pub entered : (text : List ℕ) → Result Roll RegisterFault
  entered text = do
    o ← of_sheet (read_alone T text)
    offers ← with T roll.offers o
    Ok (record { offers = offers; needs = roll.needs })

  abbrev pub amended : (text : List ℕ) → Result Roll RegisterFault
  amended text = do
    o ← of_sheet (read_alone T text)
    must (stands o.name o.number roll.offers) Unknown
    beside T (others o.name o.number roll.offers) o
    Ok (record { offers = replaced o roll.offers; needs = roll.needs })

  abbrev pub withdrawn : (name : List ℕ) (number : ℕ) → Result Roll RegisterFault
  withdrawn name number = do
    must (stands name number roll.offers) Unknown
    Ok (record { offers = others name number roll.offers; needs = roll.needs })

  abbrev pub needed : (t rr rc : ℕ) → Result Roll RegisterFault
  needed t rr rc = do
    must (between 1 T t && nat_le rr highest_need && nat_le rc highest_need) (Period t)
    Ok (record { offers = roll.offers; needs = slice_set roll.needs (t - 1) (record { rapid = rr; complementary = rc }) })

  -- the bytes that a save writes into a buffer with room for so many
  abbrev pub saved : (name : List ℕ) (number room : ℕ) → Result (List ℕ) RegisterFault
  saved name number room = do
    o ← ok_or (standing name number roll.offers) Unknown
    must (nat_le (length (written o)) room) Space
    Ok (written o)
