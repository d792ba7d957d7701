use Rattle.clearing.proofs.Pays.{units_paid, units_paid_whole, blocks_paid}
use Rattle.clearing.proofs.laws.paid_well.Goals as goal

pub returns : goal.returns
returns g c = record { units = units_paid g.R.CostRule.rule; units_whole = units_paid_whole g.R.CostRule.rule; blocks = blocks_paid g.R.CostRule.rule }
