use Rattle.std.proofs.Common.{◌≡◌, ◌+◌, ◌≤◌, map, length, decimal}
use Rattle.std.specs.Slice.Iter.{iter_rest}
use Rattle.text.specs.Written.{line_text}
use Rattle.sheet.specs.Facts.{facts, row_facts}
use Rattle.sheet.specs.Sheet.{priced}
use Rattle.sheet.specs.Writing.{with_text, so_far}
use Rattle.sheet.proofs.offer.Offer.put_periods.Given as goal

abbrev pub invariant-loop-period : goal.invariant-loop-period
invariant-loop-period l = record {
  text :
      with_text (so_far l.sheet) (line_text (map (λ p. decimal p.0) (priced l.period-iterator.a.start (map row_facts (iter_rest l.period-iterator.b)))))
      ≡ with_text (so_far l.initial.sheet) (line_text (map (λ p. decimal p.0) (priced 1 (facts l.self).rows)));
  room : l.period-iterator.a.start + length (iter_rest l.period-iterator.b) ≤ 12;
}
