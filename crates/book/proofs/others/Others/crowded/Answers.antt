use Rattle.std.proofs.Common.{◌≡◌, ◌+◌, ◌-◌, option_map, ltb, ◌∷◌, sym, ◌∙◌, arith, rules, tests}
use Rattle.std.specs.List.{find, range_with_len}
use Rattle.std.proofs.lemmas.Iterator.{YieldsList-from_range}
use Rattle.std.proofs.lemmas.Iterator.Search.{find_from_yields_List}
use Rattle.std.proofs.lemmas.Iterator.Adapters.{option_map_id}
use Rattle.sheet.specs.Facts.{facts}
use Rattle.book.specs.Limits.{ranges}
use Rattle.book.specs.Table.{others_of, periods_beside}
use Rattle.book.proofs.others.Others.crowded.Goals as goal

pub returns : goal.returns
returns c =
    let o = facts c.args.offer.now in
    let T = periods_beside c.args.self.now in
    let month : c.periods.result + 1 - 1 ≡ T = omega (arith, c.periods.ensures.value) in
    let found : option_map (λ x. x) c.find.result ≡ find (λ t. ltb 50 (ranges o.name (o ∷ others_of c.args.self.now) t)) (range_with_len 1 T) =
    find_from_yields_List (λ t. ltb 50 (ranges o.name (o ∷ others_of c.args.self.now) t)) _ _ c.find.result c.find.ensures.ran (YieldsList-from_range 1 (c.periods.result + 1) T (search rules) month) (λ x b q k. search (rules, tests))
    in
    let same : c.map.result ≡ c.find.result = search rules in
    same ∙ sym (option_map_id c.find.result) ∙ found
