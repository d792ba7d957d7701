use Rattle.std.proofs.Common.{◌∙◌}
use Rattle.std.proofs.lemmas.Result.{IfOk-weaker}
use Rattle.tender_text.specs.Report.{answered}
use Rattle.tender_text.proofs.Tenders.{printed_register}
use Rattle.tender_text.proofs.answer.report.Goals as goal

pub returns-in-Ok : goal.returns-in-Ok
returns-in-Ok c =
    let shown = printed_register (answered c.args.input.now) c.in-Ok.register c.in-Ok.ensures in
    IfOk-weaker c.tables.result _ _ (λ v is. is ∙ rw (c.calendar.ensures, c.standing.ensures) shown) c.tables.ensures
