use Rattle.std.proofs.Common.{◌≡◌, drop}
use Rattle.sheet.specs.Writing.{with_text, so_far}
use Rattle.sheet.proofs.writing.Writer.bytes.Given as goal

abbrev pub invariant-loop-byte : goal.invariant-loop-byte
invariant-loop-byte l = with_text (so_far l.self) (drop l.byte-index l.bytes) ≡ with_text (so_far l.initial.self) l.bytes
