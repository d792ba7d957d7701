use Rattle.short_list.specs.ShortList.{items}
use Rattle.sheet.proofs.Placed.{SoFar}
use Rattle.sheet.proofs.prices.read_rows.Given as goal

abbrev pub invariant-loop-period : goal.invariant-loop-period
invariant-loop-period l = SoFar l.month l.shape.ranges l.shape.periods l.periods l.initial.reader.line l.initial.reader.rest.now l.period-index (items l.rows) l.reader.line l.reader.rest.now
