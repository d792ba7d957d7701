use Rattle.std.proofs.Common.{◌≡◌, Ok, sym, rules}
use Rattle.text.specs.Lines.{values_of}
use Rattle.sheet.specs.Sheet.{period_line}
use Rattle.sheet.proofs.SheetKeeps.{periods_keep}
use Rattle.sheet.proofs.shape.reading.read_periods.Goals as goal

pub returns-clause-fits : goal.returns-clause-fits
returns-clause-fits c =
    let says : Ok (values_of c.in_ok-periods.periods, c.fitting.new.self.rest.now) ≡ period_line c.args.month c.args.shape.periods c.fitting.new.self.line c.args.reader.now.rest.now = search rules in
    periods_keep c.args.month c.args.shape.periods c.fitting.new.self.line c.args.reader.now.rest.now (values_of c.in_ok-periods.periods, c.fitting.new.self.rest.now) (sym says)
