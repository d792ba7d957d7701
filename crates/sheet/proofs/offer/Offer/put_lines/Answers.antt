use Rattle.std.proofs.Common.{rules}
use Rattle.sheet.specs.Facts.{facts}
use Rattle.sheet.specs.Saved.{saved_lines}
use Rattle.sheet.specs.Writing.{so_far}
use Rattle.sheet.proofs.Writes.{lines_slice}
use Rattle.sheet.proofs.offer.Offer.put_lines.Goals as goal

pub returns-clause-slice : goal.returns-clause-slice
returns-clause-slice c = let same = lines_slice (so_far c.args.sheet.now) (saved_lines (facts c.args.self.now)) in search rules
