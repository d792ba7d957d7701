use Rattle.std.proofs.Common.{◌≡◌, ◌-◌}
use Rattle.calendar.specs.Periods.{by_week}
use Rattle.calendar.proofs.weeks.MonthDays.by_week.Given as goal

abbrev pub invariant-loop-day : goal.invariant-loop-day
invariant-loop-day l = l.counts ≡ by_week l.self.first (l.day - 1) l.self.holidays.now
