use Rattle.std.proofs.Common.{[], length, ap, ◌∙◌}
use Rattle.calendar.specs.Month.{day_counts}
use Rattle.book.specs.Places.{all_begin, offers_at}
use Rattle.book.specs.Within.{within}
use Rattle.book.proofs.Within.{within_none}
use Rattle.book.proofs.deposit.Deposit.new.Goals as goal

pub invariant_of-result : goal.invariant_of-result
invariant_of-result c =
    let days = day_counts c.args.calendar in record {
      sheets = ap (λ places. all_begin (length days) [] places) c.new.ensures;
      kept = ap (λ places. within days (offers_at (length days) [] places)) c.new.ensures ∙ within_none days c.args.calendar.kept;
    }
