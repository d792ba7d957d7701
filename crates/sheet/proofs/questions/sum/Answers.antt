use Rattle.std.proofs.Common.{◌≡◌, sum, sym, ◌∙◌, arith, rules}
use Rattle.sheet.specs.Offer.{total}
use Rattle.sheet.proofs.Asked.{total_sum, total_most}
use Rattle.sheet.proofs.questions.sum.Goals as goal

pub returns : goal.returns
returns c =
    let all : c.sum.result ≡ sum c.args.widths.now = search rules in
    let value : c.sum.result ≡ total c.args.widths.now = all ∙ sym (total_sum c.args.widths.now) in
    let most = total_most c.args.widths.now c.type_inv.widths in
    record { value = value; bound = omega (arith, value, most) }
