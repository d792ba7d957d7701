use Rattle.text.specs.Lines.{values_of}
use Rattle.text.proofs.Fields.{SoFar}
use Rattle.text.proofs.line.values.Given as goal

abbrev pub invariant-loop : goal.invariant-loop
invariant-loop g l = SoFar g.A.Amount.reads g.A.Amount.limit l.count l.counter l.text (values_of l.values) l.rest
