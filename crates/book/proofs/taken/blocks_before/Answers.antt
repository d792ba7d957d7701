use Rattle.std.proofs.Common.{◌≡◌, ◌≤◌, is_some, take, ◌∙◌, arith, rules, tests}
use Rattle.std.proofs.lemmas.Iterator.{YieldsList-from_range}
use Rattle.std.proofs.lemmas.Iterator.Consumers.{YieldsList-from_filter, count_from_yields_List}
use Rattle.book.specs.Book.{block_asked}
use Rattle.book.specs.Limits.{count, has_block}
use Rattle.book.proofs.TakenAsked.{blocks_counted, blocks_few}
use Rattle.book.proofs.taken.blocks_before.Goals as goal

pub returns : goal.returns
returns g c =
    let offers = g.B.Book.offers c.args.book.now in
    let few : count has_block offers ≤ 6 = (g.B.Book.kept c.args.book.now).blocks in
    let value : c.count.result ≡ count has_block (take c.args.offer offers) =
    count_from_yields_List c.filter.result c.count.result c.count.ensures.ran (YieldsList-from_filter _ (λ i. is_some (block_asked offers i)) (YieldsList-from_range 0 c.args.offer c.args.offer (search rules) (search rules)) c.filter.ensures.closure (λ x b q k. search (rules, tests)))
    ∙ blocks_counted offers c.args.offer
    in
    record { value = value; bound = omega (arith, value, few, blocks_few offers c.args.offer) }
