use Rattle.clearing.proofs.Prices.{price_reached}
use Rattle.clearing.proofs.laws.price_reached.Goals as goal

pub returns : goal.returns
returns g c = price_reached g.R.CostRule.rule
