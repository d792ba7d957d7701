use Rattle.std.proofs.Common.{append_assoc}
use Rattle.text.proofs.Prices.{stands_before}
use Rattle.text.proofs.price.read_price.Goals as goal

pub returns-clause-token : goal.returns-clause-token
returns-clause-token c =
    let number = c.in_ok-euros.ensures.token in
    let cents = c.in_ok-cents.ensures in
    let e = rw (cents.tail.1, ← append_assoc) at number.stands in
    record { stands = stands_before c.args.text.now _ c.in_ok-cents.rest.now e; small = cents.small }
