use Rattle.std.proofs.Common.{◌∙◌, rules}
use Rattle.sheet.specs.Facts.{facts}
use Rattle.sheet.specs.Saved.{saved_lines}
use Rattle.sheet.proofs.Writes.{lines_length, lines_buffer}
use Rattle.sheet.proofs.offer.Offer.put.Goals as goal

pub returns-clause-length : goal.returns-clause-length
returns-clause-length c = c.length.ensures ∙ lines_length (saved_lines (facts c.args.self.now)) c.new-sheet.ensures c.put_lines.ensures.lines

pub returns-clause-buffer : goal.returns-clause-buffer
returns-clause-buffer c = λ small fits. let whole = lines_buffer (saved_lines (facts c.args.self.now)) c.new-sheet.ensures c.put_lines.ensures.lines small fits in search rules
