use Rattle.std.proofs.Common.{◌<◌, arith, rules}
use Rattle.std.proofs.Math.Seq.{take-set-lt}
use Rattle.std.proofs.lemmas.List.{length-take}
use Rattle.short_list.proofs.list.ShortList.set.Goals as goal

pub returns-then-place-len : goal.returns-then-place-len
returns-then-place-len g c =
    let self = c.args.self.now in
    let cut = length-take self.len self.slots in
    let inside : c.args.place < c.len.result = search rules in
    take-set-lt self.len self.slots c.args.place c.args.value (omega (arith, inside, c.len.ensures.value, cut))
