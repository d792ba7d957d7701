use Rattle.std.proofs.Common.{◌≡◌, rules}
use Rattle.std.proofs.lemmas.Iterator.{YieldsList-from_slice}
use Rattle.std.proofs.lemmas.Iterator.Consumers.{YieldsList-from_enumerate}
use Rattle.std.specs.Option.{option_map}
use Rattle.cost.proofs.Turns.{first_of_least}
use Rattle.cost.proofs.scan.cheapest.Goals as goal

pub returns : goal.returns
returns g c =
    let place : c.map.result ≡ option_map (λ p. p.0) c.min_by.result = search rules in
    rw place (first_of_least g.R.CostRule.rule g.R.CostRule.meaning c.args.costs.now _ (λ f x y o h k. search rules) _ _ _ _ c.min_by.ensures.ran (YieldsList-from_enumerate (YieldsList-from_slice c.args.costs.now cc) c.enumerate.ensures.count))
