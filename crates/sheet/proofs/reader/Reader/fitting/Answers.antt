use Rattle.std.proofs.Common.{refl}
use Rattle.sheet.proofs.reader.Reader.fitting.Goals as goal

pub returns-then-not-fits-clause-refused : goal.returns-then-not-fits-clause-refused
returns-then-not-fits-clause-refused g c = rw c.in-Some.is (refl, (_, c.if-not-fits.ensures, refl))
