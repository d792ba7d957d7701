-- A text written from a buffer's start.
use Rattle.std.proofs.Common.{◌≡◌, ℕ, suc, ◌+◌, ◌^◌, ◌<◌, ◌≤◌, List, [], ◌∷◌, ◌++◌, length, take, drop, set, Some, None, Option, sym, refl, ap, ◌∙◌, append_assoc, add-zero, zero-add, arith, ⊎_elim}
use Rattle.std.specs.Borrow.{GName}
use Rattle.std.specs.List.{concat}
use Rattle.std.proofs.lemmas.Bool.{cases_lt}
use Rattle.std.proofs.lemmas.Bool.Decides.{nat_tests}
use Rattle.std.proofs.lemmas.List.{length-set, take_more_set, drop-set-lt, take-append-drop}
use Rattle.std.proofs.lemmas.List.Sums.{fold-append}
use Rattle.sheet.specs.Writing.{Progress, counted, with_byte_at, with_byte, with_text, with_lines}

is_counted : (n : ℕ) → n < 2 ^ 64 → counted n ≡ Some n
is_counted n lt = grind (arith, nat_tests)

not_counted : (n : ℕ) → 2 ^ 64 ≤ n → counted n ≡ None
not_counted n le = grind (arith, nat_tests)

byte_slice : (w : Progress) (length : Option ℕ) (byte : ℕ) → (with_byte_at w length byte).slice ≡ w.slice
byte_slice w None byte = refl
byte_slice w (Some place) byte = refl

byte_long : (w : Progress) (place : Option ℕ) (byte : ℕ) → length (with_byte_at w place byte).buffer ≡ length w.buffer
byte_long w None byte = refl
byte_long w (Some place) byte = length-set w.buffer place byte

-- no write makes the buffer longer or shorter
pub with_length : (w : Progress) (text : List ℕ) → length (with_text w text).buffer ≡ length w.buffer
unfolding with_byte
with_length w [] = refl
with_length w (byte ∷ text) = with_length (with_byte w byte) text ∙ byte_long w w.length byte

pub text_slice : (w : Progress) (text : List ℕ) → (with_text w text).slice ≡ w.slice
unfolding with_byte
text_slice w [] = refl
text_slice w (byte ∷ text) = text_slice (with_byte w byte) text ∙ byte_slice w w.length byte

-- lines one after another are one text
pub lines_text : (w : Progress) (lines : List (List ℕ)) → with_lines w lines ≡ with_text w (concat lines)
lines_text w [] = refl
lines_text w (line ∷ lines) = lines_text (with_text w line) lines ∙ sym (fold-append with_byte w line (concat lines))

pub lines_slice : (w : Progress) (lines : List (List ℕ)) → (with_lines w lines).slice ≡ w.slice
lines_slice w [] = refl
lines_slice w (line ∷ lines) = lines_slice (with_text w line) lines ∙ text_slice w line

module _ (slice : GName) where
  abbrev pub at : List ℕ → Option ℕ → Progress
  at buffer n = record { slice = slice; buffer = buffer; length = n }

  text_none : (buffer text : List ℕ) → with_text (at buffer None) text ≡ at buffer None
  unfolding with_byte
  text_none buffer [] = refl
  text_none buffer (byte ∷ text) = text_none buffer text

  pub text_length : (buffer text : List ℕ) (n : ℕ) → n < 2 ^ 64 → (with_text (at buffer (Some n)) text).length ≡ counted (n + length text)
  unfolding with_byte
  text_length buffer [] n small = sym (is_counted (n + 0) (omega arith) ∙ ap Some (add-zero n))
  text_length buffer (byte ∷ text) n small =
      let next : n + 1 + length text ≡ n + suc (length text) = omega arith in
      ⊎_elim
      (λ lt. ap (λ k. (with_text (at (set buffer n byte) k) text).length) (is_counted (n + 1) lt) ∙ text_length (set buffer n byte) text (n + 1) lt ∙ ap counted next)
      (λ le. ap (λ k. (with_text (at (set buffer n byte) k) text).length) (not_counted (n + 1) le) ∙ ap (λ w. w.length) (text_none (set buffer n byte) text) ∙ sym (not_counted (n + suc (length text)) (omega arith)))
      (cases_lt (n + 1) (2 ^ 64))

  -- where the text fits, it stands there whole, and all else is as it was
  pub text_buffer : (buffer text : List ℕ) (n : ℕ) → n + length text < 2 ^ 64 → n + length text ≤ length buffer → (with_text (at buffer (Some n)) text).buffer ≡ take n buffer ++ (text ++ drop (n + length text) buffer)
  unfolding with_byte
  text_buffer buffer [] n small fits = sym (ap (λ k. take n buffer ++ drop k buffer) (add-zero n) ∙ take-append-drop n buffer)
  text_buffer buffer (byte ∷ text) n small fits =
      let next : n + 1 + length text ≡ n + suc (length text) = omega arith in
      let long = length-set buffer n byte in
      ap (λ k. (with_text (at (set buffer n byte) k) text).buffer) (is_counted (n + 1) (omega arith))
      ∙ text_buffer (set buffer n byte) text (n + 1) (omega arith) (omega arith)
      ∙ ap (λ l. l ++ (text ++ drop (n + 1 + length text) (set buffer n byte))) (take_more_set buffer n byte (omega arith))
      ∙ append_assoc (take n buffer) (byte ∷ []) (text ++ drop (n + 1 + length text) (set buffer n byte))
      ∙ ap (λ l. take n buffer ++ (byte ∷ (text ++ l))) (drop-set-lt (n + 1 + length text) buffer n byte (omega arith) ∙ ap (λ k. drop k buffer) next)

module _ (lines : List (List ℕ)) {slice : GName} {buffer : List ℕ} {start end : Progress} (none : start ≡ at slice buffer (Some 0)) (all : end ≡ with_lines start lines) where
  whole : end ≡ with_text (at slice buffer (Some 0)) (concat lines)
  whole = all ∙ ap (λ w. with_lines w lines) none ∙ lines_text (at slice buffer (Some 0)) lines

  pub lines_length : end.length ≡ counted (length (concat lines))
  lines_length = ap (λ w. w.length) whole ∙ text_length slice buffer (concat lines) 0 (omega arith) ∙ ap counted (zero-add (length (concat lines)))

  pub lines_buffer : length (concat lines) < 2 ^ 64 → length (concat lines) ≤ length buffer → end.buffer ≡ concat lines ++ drop (length (concat lines)) buffer
  lines_buffer small fits = ap (λ w. w.buffer) whole ∙ text_buffer slice buffer (concat lines) 0 (omega arith) (omega arith) ∙ ap (λ k. concat lines ++ drop k buffer) (zero-add (length (concat lines)))
