-- Bytes written one after another into a lent buffer. Assumes nothing.
use Rattle.std.specs.Prelude.{ℕ, ◌+◌, ◌^◌, cond, List, Some, None, Option, nat_lt, slice_set}
use Rattle.std.specs.Borrow.{GName, MutBor}
use Rattle.std.specs.List.{fold}
use Rattle.sheet.specs.declared.writing.Writer.{Writer}

-- what a writer holds: which buffer, what stands in it, and how many bytes were written
pub record Progress : Type 0 where
  pub slice : GName
  pub buffer : List ℕ
  pub length : Option ℕ

abbrev pub so_far : Writer → Progress
so_far w = record { slice = w.buffer.ghost_name; buffer = w.buffer.now; length = w.length }

-- nothing was written yet
abbrev pub fresh : MutBor (List ℕ) → Progress
fresh buffer = record { slice = buffer.ghost_name; buffer = buffer.now; length = Some 0 }

-- a number, if it can be counted up to
abbrev pub counted : ℕ → Option ℕ
counted n = cond (nat_lt n (2 ^ 64)) (Some n) None

-- one byte more; past the buffer's end it is counted, but not written
abbrev pub with_byte_at : Progress → Option ℕ → ℕ → Progress
with_byte_at w None byte = w
with_byte_at w (Some place) byte = record { slice = w.slice; buffer = slice_set w.buffer place byte; length = counted (place + 1) }

unfoldable pub with_byte : Progress → ℕ → Progress
with_byte w byte = with_byte_at w w.length byte

abbrev pub with_text : Progress → List ℕ → Progress
with_text = fold with_byte

abbrev pub with_lines : Progress → List (List ℕ) → Progress
with_lines = fold with_text
