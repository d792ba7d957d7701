-- What is paid. Assumes nothing.
use Rattle.std.specs.Prelude.{◌*◌}
use Rattle.cost.specs.Rule.{Rule}
use Rattle.cost.specs.Whole.{whole}

-- the accepted MW at the marginal price, in cents
abbrev pub money_rule : Rule
money_rule = whole (λ price accepted out. price * accepted)
