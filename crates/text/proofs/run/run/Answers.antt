use Rattle.std.proofs.Common.{◌≡◌, take, arith}
use Rattle.std.specs.List.{prefix_len}
use Rattle.text.proofs.FormKeeps.{leading_take}
use Rattle.text.proofs.run.run.Goals as goal

pub returns-clause-part : goal.returns-clause-part
returns-clause-part g c =
    let front : c.split_at.result.0.now ≡ take (prefix_len g.kind c.args.text.now) c.args.text.now = cc in
    record {
      stands = c.split_at.ensures.by_index.0;
      all = rw front (leading_take g.kind c.args.text.now);
      low = omega arith;
      high = omega arith;
    }
