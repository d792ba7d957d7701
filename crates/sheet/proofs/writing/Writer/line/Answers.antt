use Rattle.sheet.proofs.Near.{numbers_short}
use Rattle.sheet.proofs.writing.Writer.line.Goals as goal

pub returns-clause-short : goal.returns-clause-short
returns-clause-short g c = numbers_short g.F.Form.text g.met.F.Form.short c.args.numbers.now c.type_inv.numbers
