use Rattle.std.proofs.Common.{◌≡◌, ◌+◌, ◌≤◌, ◌++◌, length, string_bytes}
use Rattle.std.specs.Slice.Iter.{iter_rest}
use Rattle.calendar.specs.Month.{day_counts}
use Rattle.tender_text.specs.Report.{period_rows, period_table}
use Rattle.tender_text.proofs.printing.period_table.Given as goal

abbrev pub invariant-loop-period : goal.invariant-loop-period
invariant-loop-period l = record {
  rows : string_bytes l.table ++ period_rows l.period-iterator.a.start (iter_rest l.period-iterator.b) ≡ period_table (day_counts l.calendar);
  room : l.period-iterator.a.start + length (iter_rest l.period-iterator.b) ≤ 12;
}
