-- What the clerk's calls make of a list of offers: its part of the roll's own steps. Assumes nothing.
use Rattle.std.specs.Prelude.{ℕ, cond, List, length, Some, None, Ok, Err, Option, Result, nat_le}
use Rattle.text.specs.Judging.{◌>>◌, must}
use Rattle.sheet.specs.Offer.{Offer}
use Rattle.sheet.specs.Saved.{written, buffer_after}
use Rattle.book.specs.Roll.{stands, others, beside}
use Rattle.book.specs.declared.fault.RegisterFault.{RegisterFault}
use Rattle.book.specs.declared.fault.RegisterFault.TheVariants.{Unknown, Space}

-- whether an offer may take the place of the one of its identifier
abbrev pub amendable : (T : ℕ) → List Offer → Offer → Result (Unit {0}) RegisterFault
amendable T offers o = do
  must (stands o.name o.number offers) Unknown
  beside T (others o.name o.number offers) o

-- whether an offer may be withdrawn
abbrev pub withdrawable : (name : List ℕ) (number : ℕ) → List Offer → Result (Unit {0}) RegisterFault
withdrawable name number offers = must (stands name number offers) Unknown

-- the list after an accepted call, or as it was
abbrev pub if_ok : {X : Type 0} → Result (Unit {0}) RegisterFault → X → X → X
if_ok (Ok u) next before = next
if_ok (Err fault) next before = before

-- how long the saved text is, for a buffer with so much room
abbrev pub saved_length : (room : ℕ) → Option Offer → Result ℕ RegisterFault
saved_length room None = Err Unknown
saved_length room (Some o) = cond (nat_le (length (written o)) room) (Ok (length (written o))) (Err Space)

-- what the buffer holds then
abbrev pub saved_buffer : (buffer : List ℕ) → Option Offer → List ℕ
saved_buffer buffer None = buffer
saved_buffer buffer (Some o) = buffer_after (written o) buffer
