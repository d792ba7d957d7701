-- What is left out. Assumes nothing.
use Rattle.cost.specs.Rule.{Rule}
use Rattle.cost.specs.Whole.{whole}

-- the MW left out, whatever the price
abbrev pub left_out_rule : Rule
left_out_rule = whole (λ price accepted out. out)
