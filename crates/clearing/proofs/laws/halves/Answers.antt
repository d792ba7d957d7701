use Rattle.clearing.proofs.Halving.{cost_splits, least_joins, least_splits, first_joins, first_splits, named_splits}
use Rattle.clearing.proofs.laws.halves.Goals as goal

pub returns : goal.returns
returns g c = record {
  cost = cost_splits g.R.CostRule.rule;
  least_joins = least_joins g.R.CostRule.rule;
  least_splits = least_splits g.R.CostRule.rule;
  first_joins = first_joins g.R.CostRule.rule;
  first_splits = first_splits g.R.CostRule.rule;
  named = named_splits g.R.CostRule.rule;
}
