use Rattle.std.proofs.Common.{◌≤◌, length, vec_items, ap, arith}
use Rattle.std.proofs.lemmas.List.{length-map}
use Rattle.sheet.specs.Facts.{facts}
use Rattle.book.specs.Table.{days_of, offers_of}
use Rattle.book.specs.Within.{within_limits}
use Rattle.book.proofs.table.Table.as_slice.Goals as goal

pub returns-clause-few : goal.returns-clause-few
returns-clause-few c =
    let self = c.args.self.now in
    let few : length (offers_of self) ≤ 32 = (within_limits (days_of self) (offers_of self) self.kept).places in
    omega (arith, few, length-map (vec_items self.offers) facts, ap length c.as_slice.ensures.value)
