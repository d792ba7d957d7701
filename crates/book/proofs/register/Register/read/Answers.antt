use Rattle.std.proofs.Common.{sym, ap, ◌∙◌}
use Rattle.sheet.specs.Facts.{facts}
use Rattle.sheet.specs.Sheet.{read_alone}
use Rattle.book.specs.Register.{periods_of}
use Rattle.book.proofs.Limited.{alone_fits}
use Rattle.book.proofs.Reading.{month_same}
use Rattle.book.proofs.register.Register.read.Goals as goal

pub returns-clause-fits : goal.returns-clause-fits
returns-clause-fits c =
    let month = month_same c.periods.result c.periods.ensures.few ∙ c.periods.ensures.value in
    alone_fits (periods_of c.args.self.now) c.args.text.now (facts c.in_ok-read_alone.field-0) (sym (c.in_ok-read_alone.ensures ∙ ap (λ n. read_alone n c.args.text.now) month))
