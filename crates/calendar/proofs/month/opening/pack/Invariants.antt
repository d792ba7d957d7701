use Rattle.std.proofs.Common.{◌≡◌, ltb, take, filter}
use Rattle.short_list.specs.ShortList.{items}
use Rattle.calendar.proofs.month.opening.pack.Given as goal

abbrev pub invariant-loop-part : goal.invariant-loop-part
invariant-loop-part l = items l.days ≡ take 11 (filter (ltb 0) (take l.part-index l.parts))
