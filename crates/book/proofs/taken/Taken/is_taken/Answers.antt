use Rattle.std.proofs.Common.{is_some, sym, ap, ◌∙◌}
use Rattle.book.specs.Taken.{holds}
use Rattle.book.proofs.TakenAsked.{taken_with, taken_without, price_left, block_left}
use Rattle.book.proofs.taken.Taken.is_taken.Goals as goal

pub returns-then-is_some : goal.returns-then-is_some
returns-then-is_some g c =
    let choice = c.args.self.now.choice in
    let offers = g.B.Book.offers c.args.self.now.book.now in
    let offer = c.args.offer in
    let flag = holds choice c.blocks_before.result in
    let flag_is = taken_with choice offers offer c.blocks_before.result (ap is_some (sym c.block.ensures) ∙ sym c.is_some.ensures ∙ c.if-is_some.true) c.blocks_before.ensures.value in
    record { value = flag_is; price = λ t k. price_left choice offers offer t k flag flag_is; block = block_left choice offers offer flag flag_is }

pub returns-else-is_some : goal.returns-else-is_some
returns-else-is_some g c =
    let choice = c.args.self.now.choice in
    let offers = g.B.Book.offers c.args.self.now.book.now in
    let offer = c.args.offer in
    let flag_is = c.if-is_some.false ∙ taken_without choice offers offer (ap is_some (sym c.block.ensures) ∙ sym c.is_some.ensures ∙ c.if-is_some.false) in
    record { value = flag_is; price = λ t k. price_left choice offers offer t k c.is_some.result flag_is; block = block_left choice offers offer c.is_some.result flag_is }
