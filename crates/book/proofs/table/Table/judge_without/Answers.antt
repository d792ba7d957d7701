use Rattle.std.proofs.Common.{ap, ◌∙◌}
use Rattle.sheet.specs.Facts.{facts}
use Rattle.book.specs.Roll.{beside}
use Rattle.book.specs.Table.{offers_of, periods_of}
use Rattle.book.proofs.Halved.{halves}
use Rattle.book.proofs.table.Table.judge_without.Goals as goal

pub returns : goal.returns
returns c =
    let self = c.args.self.now in
    c.judge.ensures
    ∙ ap (λ others. beside (periods_of self) others (facts c.args.offer.now))
    (halves c.as_slice-all.result.now c.args.place (offers_of self) c.as_slice-all.ensures.offers)
