use Rattle.std.proofs.Common.{replicate, None, ap, ◌∙◌, arith}
use Rattle.std.proofs.Math.Nat.{min-eq_left}
use Rattle.std.proofs.lemmas.Result.{err_from_is_err_and}
use Rattle.sheet.proofs.Counted.{counted}
use Rattle.sheet.proofs.Placed.{rows_start, row_stops, row_more}
use Rattle.sheet.proofs.prices.read_rows.Goals as goal

pub loop-period-init : goal.loop-period-init
loop-period-init c = rows_start c.args.month _ _ _ _ _ (c.filled-rows.ensures ∙ ap (λ n. replicate n None) (min-eq_left c.requires.few))

pub returns-in_err-read_row-clause-says : goal.returns-in_err-read_row-clause-says
returns-in_err-read_row-clause-says c =
    let next = counted (omega (arith, c.loop-period.invariant.at, c.loop-period-test.true, c.requires.fits.long, c.args.shape.in_month, c.requires.near)) c.in_err-read_row.ensures.counts in
    let p = err_from_is_err_and c.from_residual.result c.from_residual.ensures.1 in
    rw (p.1, p.2) (row_stops c.requires.fits c.loop-period.invariant c.loop-period-test.true next c.in_err-read_row.ensures.says)

pub loop-period-preserved : goal.loop-period-preserved
loop-period-preserved c =
    let next = counted (omega (arith, c.loop-period.invariant.at, c.loop-period-test.true, c.requires.fits.long, c.args.shape.in_month, c.requires.near)) c.in_ok-read_row.ensures.counts in
    row_more c.requires.fits c.loop-period.invariant c.loop-period-test.true next c.in_ok-read_row.field-0 c.read_row.new.reader.rest.now c.set.ensures c.in_ok-read_row.ensures.says
