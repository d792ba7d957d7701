use Rattle.std.proofs.Common.{◌∷◌}
use Rattle.text.proofs.price.decimals.Goals as goal

pub returns-clause-tail : goal.returns-clause-tail
returns-clause-tail c =
    let number = c.in_ok-digits.ensures.part in
    (44 ∷ c.in_ok-digits.digits.now, cc (c.in-Some.ensures.stands, number.stands))
