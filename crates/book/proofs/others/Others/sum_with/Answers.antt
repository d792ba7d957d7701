use Rattle.std.proofs.Common.{◌≡◌, ◌^◌, ◌<◌, ◌≤◌, ◌++◌, length, arith, refl, length-append}
use Rattle.std.proofs.lemmas.Iterator.{YieldsList-from_slice, YieldsList-from_map}
use Rattle.std.proofs.lemmas.Iterator.Consumers.{YieldsList-from_chain, YieldsList-at, sum_from_yields_List}
use Rattle.std.proofs.lemmas.Iterator.Adapters.{fits_from_length, at_most_from_yields_List}
use Rattle.sheet.specs.Facts.{facts}
use Rattle.book.proofs.Adding.{returned_at, run_below, sum_shares}
use Rattle.book.proofs.others.Others.sum_with.Goals as goal

pub sum-rest-requires-clause-fits : goal.sum-rest-requires-clause-fits
sum-rest-requires-clause-fits g c =
    let self = c.args.self.now in
    let few : length (self.before.now ++ self.after.now) ≤ 32 = omega (arith, length-append self.before.now self.after.now, self.few) in
    let road = YieldsList-from_chain {s = c.chain.result} (YieldsList-from_slice self.before.now (cc)) (YieldsList-from_slice self.after.now (cc)) (cc) (cc) in
    fits_from_length _ _ 32 (2 ^ 64) (at_most_from_yields_List (YieldsList-at c.map.ensures.source road) few) c.map.ensures.closure (omega arith)
    (λ x r q k. let p = returned_at g.F.Fn g.met.F.FnMut.1 g.met.F.Fn.1 c.args.share x r q k.met in (p.0, omega (arith, c.requires.small x.now r p.1)))

pub overflow_add-result : goal.overflow_add-result
overflow_add-result g c =
    let self = c.args.self.now in
    let few : length (self.before.now ++ self.after.now) ≤ 32 = omega (arith, length-append self.before.now self.after.now, self.few) in
    let road = YieldsList-from_chain {s = c.chain.result} (YieldsList-from_slice self.before.now (cc)) (YieldsList-from_slice self.after.now (cc)) (cc) (cc) in
    let rest : c.sum-rest.result < 2 ^ 40 = run_below c.sum-rest.result (2 ^ 40) (c.sum-rest.ensures.runs tt) (fits_from_length _ _ 32 (2 ^ 40) (at_most_from_yields_List (YieldsList-at c.map.ensures.source road) few) c.map.ensures.closure (omega arith)
    (λ x r q k. let p = returned_at g.F.Fn g.met.F.FnMut.1 g.met.F.Fn.1 c.args.share x r q k.met in (p.0, omega (arith, c.requires.small x.now r p.1)))) in
    let own = c.requires.small c.args.offer.now c.share-own.result (record { shown = _; shows = refl; says = record { met = c.share-own.ensures } }) in
    omega (arith, own, rest)

pub returns : goal.returns
returns g c = λ of exact.
    let self = c.args.self.now in
    let road = YieldsList-from_chain {s = c.chain.result} (YieldsList-from_slice self.before.now (cc)) (YieldsList-from_slice self.after.now (cc)) (cc) (cc) in
    let sum = sum_from_yields_List c.map.result c.sum-rest.result c.sum-rest.ensures.ran (YieldsList-from_map _ (λ o. of (facts o)) (YieldsList-at c.map.ensures.source road) c.map.ensures.closure
    (λ x r q k. let p = returned_at g.F.Fn g.met.F.FnMut.1 g.met.F.Fn.1 c.args.share x r q k.met in (p.0, exact x.now r p.1))) in
    let own : c.share-own.result ≡ of (facts c.args.offer.now) = exact c.args.offer.now c.share-own.result (record { shown = _; shows = refl; says = record { met = c.share-own.ensures } }) in
    omega (arith, sum, own, sum_shares of self.before.now self.after.now)
