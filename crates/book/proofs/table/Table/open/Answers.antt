use Rattle.std.proofs.Common.{map, ap, ◌∙◌}
use Rattle.calendar.specs.Month.{day_counts}
use Rattle.sheet.specs.Facts.{facts}
use Rattle.book.specs.Within.{within}
use Rattle.book.proofs.Within.{within_none}
use Rattle.book.proofs.table.Table.open.Goals as goal

pub invariant_of-result-clause-kept : goal.invariant_of-result-clause-kept
invariant_of-result-clause-kept c =
    let days = day_counts c.args.calendar in
    ap (λ items. within days (map facts items)) c.in_ok-offers.ensures.items ∙ within_none days c.args.calendar.kept
