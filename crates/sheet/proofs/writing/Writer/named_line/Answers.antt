use Rattle.std.proofs.Common.{arith}
use Rattle.sheet.proofs.Near.{named_short}
use Rattle.sheet.proofs.writing.Writer.named_line.Goals as goal

pub returns-clause-short : goal.returns-clause-short
returns-clause-short c =
    let fits = c.ranges.number in
    named_short c.args.word.now c.args.number (omega (arith, fits))
