use Rattle.std.proofs.Common.{leb, rules}
use Rattle.std.proofs.lemmas.List.Sorted.{answers_always}
use Rattle.sheet.proofs.Judged.{chain_answered}
use Rattle.sheet.proofs.values.never_falling.Goals as goal

pub returns : goal.returns
returns c = chain_answered leb c.args.values.now c.is_sorted_by.result (c.is_sorted_by.ensures.cases leb (answers_always _ _ _ (λ f a r g called. search rules)))
