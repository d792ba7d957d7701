use Rattle.std.proofs.Common.{rules, ◌≡◌, length, replicate, ap, ◌∙◌}
use Rattle.cost.proofs.Places.{only_from_calls}
use Rattle.cost.proofs.grid.Grid.fill.Goals as goal

pub returns-clause-after : goal.returns-clause-after
returns-clause-after g c =
    let value = c.args.value in
    let only : c.fill_with.new.self ≡ replicate (length c.args.self.now.cells.now) value =
    only_from_calls _ _ value (λ y h called. search rules) _ _ c.fill_with.ensures.ran.1 ∙ ap (λ n. replicate n value) c.fill_with.ensures.len in
    rw only
