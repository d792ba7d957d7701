use Rattle.std.proofs.Common.{◌≡◌, ◌++◌, map, drop, vec_items}
use Rattle.calendar.specs.Month.{day_counts}
use Rattle.sheet.specs.Facts.{facts}
use Rattle.tender_text.specs.Report.{period_table, offer_rows, offer_table}
use Rattle.tender_text.proofs.printing.tables.Given as goal

abbrev pub invariant-loop-offer : goal.invariant-loop-offer
invariant-loop-offer l =
    vec_items l.tables ++ offer_rows (map facts (drop l.offer-index l.offers)) ≡ period_table (day_counts l.calendar) ++ offer_table (map facts l.offers)
