use Rattle.std.proofs.Common.{◌≡◌, map, drop}
use Rattle.text.specs.Written.{line_text}
use Rattle.sheet.specs.Writing.{with_text, so_far}
use Rattle.sheet.proofs.writing.Writer.line.Given as goal

abbrev pub invariant-loop-number : goal.invariant-loop-number
invariant-loop-number g l = with_text (so_far l.self) (line_text (map g.F.Form.text (drop l.number-index l.numbers))) ≡ with_text (so_far l.initial.self) (line_text (map g.F.Form.text l.numbers))
