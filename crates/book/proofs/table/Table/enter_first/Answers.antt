use Rattle.std.proofs.Common.{sym, ap, ◌∙◌}
use Rattle.sheet.specs.Facts.{facts}
use Rattle.sheet.specs.Sheet.{read}
use Rattle.book.specs.Table.{offers_of, periods_of}
use Rattle.book.proofs.Limited.{read_fits}
use Rattle.book.proofs.Reading.{month_same, with_made}
use Rattle.book.proofs.table.Table.enter_first.Goals as goal

pub enter-requires : goal.enter-requires
enter-requires c =
    let T = periods_of c.args.self.now in
    let month = month_same c.periods.result c.periods.ensures.few ∙ c.periods.ensures.value in
    read_fits T c.args.lines_before c.args.text.now (facts c.in_ok-offer.offer) c.in_ok-offer.rest.now (sym (c.in_ok-offer.ensures ∙ ap (λ n. read n c.args.lines_before c.args.text.now) month))

pub returns-clause-entered : goal.returns-clause-entered
returns-clause-entered c =
    let T = periods_of c.args.self.now in
    let o = facts c.in_ok-offer.offer in
    let month = month_same c.periods.result c.periods.ensures.few ∙ c.periods.ensures.value in (
      o,
      sym (c.in_ok-offer.ensures ∙ ap (λ n. read n c.args.lines_before c.args.text.now) month),
      with_made T (offers_of c.args.self.now) (offers_of c.enter.new.self) o c.in_ok-enter.ensures.value c.in_ok-enter.ensures.after.0,
      c.lines-lines.ensures.value,
    )
