use Rattle.std.proofs.Common.{length, Some, sym, ap, ◌∙◌}
use Rattle.text.specs.Form.{◌>>=◌}
use Rattle.book.specs.Reading.{days_of}
use Rattle.book.proofs.Fronts.{named_there}
use Rattle.book.proofs.deposit.Deposit.name_in.Goals as goal

pub returns : goal.returns
returns c =
    let front = c.in_ok-text.ensures in
    ap Some (named_there (length (days_of c.args.self.now)) c.in_ok-text.text.now front.0 front.1 c.in_ok-name.name.bytes.now _ c.in_ok-name.ensures.read) ∙ ap (λ o. o >>= (λ offer. Some offer.name)) (sym front.2)
