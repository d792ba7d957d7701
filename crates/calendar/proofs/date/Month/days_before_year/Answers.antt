use Rattle.std.proofs.Common.{◌-◌, ◌^◌, refl, arith, rules}
use Rattle.std.proofs.lemmas.Iterator.{YieldsList-from_range}
use Rattle.std.proofs.lemmas.Iterator.Adapters.{fits_from_length, at_most_from_yields_List}
use Rattle.std.proofs.lemmas.List.FromFn.{length-range_with_len}
use Rattle.calendar.proofs.date.Month.days_before_year.Goals as goal

pub sum-requires-clause-fits : goal.sum-requires-clause-fits
sum-requires-clause-fits c =
    let year = c.args.self.year in
    fits_from_length _ _ 100 (2 ^ 32)
    (at_most_from_yields_List (YieldsList-from_range 2000 year (year - 2000) (cc) refl) (omega (arith, length-range_with_len 2000 (year - 2000))))
    c.map.ensures.closure (omega arith) (λ x r q k. search rules)
