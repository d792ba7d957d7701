use Rattle.book.proofs.Limited.{limits_kept}
use Rattle.book.proofs.laws.limits_kept.Goals as goal

pub returns : goal.returns
returns c = limits_kept
