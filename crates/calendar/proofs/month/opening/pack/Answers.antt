use Rattle.std.proofs.Common.{ap, ◌∙◌}
use Rattle.short_list.specs.ShortList.{items}
use Rattle.calendar.proofs.Packs.{packed_more, packed_same}
use Rattle.calendar.proofs.month.opening.pack.Goals as goal
use Rattle.calendar.proofs.month.opening.pack.Goals.{then-part-gt0, else-part-gt0}

pub loop-part-preserved : goal.loop-part-preserved
loop-part-preserved c =
    let l = c.loop-part in
    let parts = c.args.parts.now in
    elim c.if-part-gt0.branch [
      | then-part-gt0 w ↦ ap items w.days-is ∙ w.push.ensures ∙ packed_more 11 (items l.days) parts l.part-index c.loop-part-test.true l.invariant w.if-part-gt0.true
      | else-part-gt0 w ↦ ap items w.days-is ∙ packed_same 11 (items l.days) parts l.part-index c.loop-part-test.true l.invariant w.if-part-gt0.false
    ]
