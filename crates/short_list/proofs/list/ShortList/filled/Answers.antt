use Rattle.std.proofs.Common.{min, replicate, take, ap, ◌∙◌, arith}
use Rattle.std.proofs.lemmas.List.{take-replicate}
use Rattle.short_list.proofs.list.ShortList.filled.Goals as goal

pub returns : goal.returns
returns g c = ap (λ m. take m (replicate g.row.N c.args.value)) c.min.ensures ∙ take-replicate (min c.args.len g.row.N) g.row.N c.args.value (omega arith)
