use Rattle.book.proofs.Law.{next_answered}
use Rattle.book.proofs.laws.next_answered.Goals as goal

pub returns : goal.returns
returns c = next_answered
