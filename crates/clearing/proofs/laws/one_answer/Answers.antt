use Rattle.clearing.proofs.Unique.{one_named, one_named_month}
use Rattle.clearing.proofs.Once.{one_period_answer, one_month_answer}
use Rattle.clearing.proofs.laws.one_answer.Goals as goal

pub returns : goal.returns
returns g c = record {
  award = λ d t offers. one_named d t offers g.R.CostRule.rule;
  month_award = one_named_month g.R.CostRule.rule;
  period_answer = one_period_answer g.R.CostRule.rule;
  month_answer = one_month_answer g.R.CostRule.rule;
}
