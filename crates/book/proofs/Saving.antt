-- A save, by the text that it writes.
use Rattle.std.proofs.Common.{◌≡◌, ℕ, ◌<◌, Bool, true, false, cond, leb, List, [], ◌++◌, map, length, get_or, take, drop, Some, None, Ok, Err, Option, Result, sym, refl, ap, ◌∙◌, subst, arith, take_at}
use Rattle.std.specs.Option.{ok_or}
use Rattle.std.proofs.lemmas.List.{get_or-map}
use Rattle.text.specs.Judging.{◌>>=◌, ◌>>◌, must}
use Rattle.sheet.specs.Facts.{facts}
use Rattle.sheet.specs.Offer.{Offer}
use Rattle.sheet.specs.Saved.{written, save_answer}
use Rattle.sheet.specs.declared.fault.SaveFault.{SaveFault}
use Rattle.sheet.specs.declared.fault.SaveFault.TheVariants.{Space as NoSpace}
use Rattle.sheet.specs.declared.offer.Offer.{Offer as Kept}
use Rattle.book.specs.Calls.{saved_length, saved_buffer}
use Rattle.book.specs.Register.{save_answer_of}
use Rattle.book.specs.Roll.{Roll, standing}
use Rattle.book.specs.Step.{text_saved, of_save, BufferAfter}
use Rattle.book.specs.Table.{place_of}
use Rattle.book.specs.declared.fault.RegisterFault.{RegisterFault}
use Rattle.book.specs.declared.fault.RegisterFault.TheVariants.{Unknown, Space}
use Rattle.book.proofs.Placed.{standing_placed}

-- ---- one offer

module _ (text buffer : List ℕ) where
  pub fits_length : (n : ℕ) → Ok n ≡ save_answer text buffer → Ok n ≡ cond (leb (length text) (length buffer)) (Ok (length text)) (Err Space)
  fits_length n = go (leb (length text) (length buffer))
    where
      go : (b : Bool) → ◌≡◌ {A = Result ℕ SaveFault} (Ok n) (cond b (Ok (length text)) (Err NoSpace)) → ◌≡◌ {A = Result ℕ RegisterFault} (Ok n) (cond b (Ok (length text)) (Err Space))
      go true is = let same : n ≡ length text = cc in ap Ok same
      go false is = absurd (cc)

  pub fits_not : (fault : SaveFault) → Err fault ≡ save_answer text buffer → Err Space ≡ cond (leb (length text) (length buffer)) (Ok (length text)) (Err Space)
  fits_not fault = go (leb (length text) (length buffer))
    where
      go : (b : Bool) → ◌≡◌ {A = Result ℕ SaveFault} (Err fault) (cond b (Ok (length text)) (Err NoSpace)) → ◌≡◌ {A = Result ℕ RegisterFault} (Err Space) (cond b (Ok (length text)) (Err Space))
      go true is = absurd (cc)
      go false is = refl

-- ---- the offer of an identifier

pub element : (kept : List Kept) (offers : List Offer) (i : ℕ) (d : Kept) → map facts kept ≡ offers → i < length kept → Some (facts (get_or kept i d)) ≡ Some (get_or offers i (facts d))
element kept offers i d are within = ap Some (sym (get_or-map facts kept i d (facts d) within) ∙ ap (λ os. get_or os i (facts d)) are)

pub saves_standing : (name : List ℕ) (number : ℕ) (kept : List Kept) (offers : List Offer) (i : ℕ) (d : Kept) → map facts kept ≡ offers → i < length kept → Some i ≡ place_of name number offers → Some (facts (get_or kept i d)) ≡ standing name number offers
saves_standing name number kept offers i d are within found = element kept offers i d are within ∙ sym (standing_placed name number offers i (facts d) (sym found))

-- ---- the answer

written_first : (text buffer : List ℕ) → take (length text) (text ++ drop (length text) buffer) ≡ text
written_first text buffer = take_at text (drop (length text) buffer) (length text) refl

module _ (T : ℕ) (roll : Roll) (name : List ℕ) (number : ℕ) (before : List ℕ) where
  fitting : (o : Offer) (b : Bool) → save_answer_of (cond b (written o ++ drop (length (written o)) before) before) (cond b (Ok (length (written o))) (Err Space)) ≡ of_save (must b Space >> Ok (written o))
  fitting o true = ap text_saved (written_first (written o) before)
  fitting o false = refl

  pub save_answered : (found : Option Offer) → save_answer_of (saved_buffer before found) (saved_length (length before) found) ≡ of_save (ok_or found Unknown >>= (λ o. must (leb (length (written o)) (length before)) Space >> Ok (written o)))
  save_answered None = refl
  save_answered (Some o) = fitting o (leb (length (written o)) (length before))

  leaves : (o : Offer) (b : Bool) → BufferAfter (save_answer_of (cond b (written o ++ drop (length (written o)) before) before) (cond b (Ok (length (written o))) (Err Space))) before (cond b (written o ++ drop (length (written o)) before) before)
  leaves o true = let same = written_first (written o) before in ap (λ text. text ++ drop (length text) before) (sym same)
  leaves o false = refl

  pub save_leaves : (found : Option Offer) → BufferAfter (save_answer_of (saved_buffer before found) (saved_length (length before) found)) before (saved_buffer before found)
  save_leaves None = refl
  save_leaves (Some o) = leaves o (leb (length (written o)) (length before))

-- the answer and the buffer of a save, by what it found
pub answer_by : (before after : List ℕ) (found : Option Offer) (r : Result ℕ RegisterFault) → r ≡ saved_length (length before) found → after ≡ saved_buffer before found → (save_answer_of after r ≡ save_answer_of (saved_buffer before found) (saved_length (length before) found)) × BufferAfter (save_answer_of after r) before after
answer_by before after found r r_is after_is =
    let same : save_answer_of after r ≡ save_answer_of (saved_buffer before found) (saved_length (length before) found) = ap (λ b. save_answer_of b r) after_is ∙ ap (save_answer_of (saved_buffer before found)) r_is in (
      same,
      subst (λ a. BufferAfter a before after) (sym same) (subst (BufferAfter (save_answer_of (saved_buffer before found) (saved_length (length before) found)) before) (sym after_is) (save_leaves 0 (record { offers = []; needs = [] }) [] 0 before found)),
    )
