use Rattle.std.proofs.Common.{◌≡◌, ◌-◌, length}
use Rattle.calendar.specs.Month.{day_counts}
use Rattle.book.specs.Places.{places_of}
use Rattle.book.specs.Table.{days_of, offers_of}
use Rattle.book.proofs.Reading.{SoFar}
use Rattle.book.proofs.table.Table.of_sheets.Given as goal

abbrev pub invariant-loop-rest : goal.invariant-loop-rest
invariant-loop-rest l =
    SoFar (length (day_counts l.fn.calendar)) l.lines_before l.text (places_of l.starts) l.before (offers_of l.table) l.rest
    × (days_of l.table ≡ day_counts l.fn.calendar)

abbrev pub decreases-loop-rest : goal.decreases-loop-rest
decreases-loop-rest l = 33 - length (places_of l.starts)
