use Rattle.std.proofs.Common.{◌≡◌, ◌∙◌, length, sym, ap, arith}
use Rattle.std.proofs.lemmas.List.{length-map}
use Rattle.short_list.specs.ShortList.{items}
use Rattle.sheet.specs.Facts.{facts, row_facts}
use Rattle.sheet.proofs.Near.{periods_short}
use Rattle.sheet.proofs.offer.Offer.put_periods.Goals as goal

pub returns-clause-short : goal.returns-clause-short
returns-clause-short c =
    let rows = (facts c.args.self.now).rows in
    let few = c.as_slice.ensures.few in
    let long : length rows ≡ length c.as_slice.result.now = length-map (items c.args.self.now.rows) row_facts ∙ ap length (sym c.as_slice.ensures.values) in
    let bound = periods_short 1 rows (omega (arith, few, long)) in
    omega (arith, few, long, bound)
