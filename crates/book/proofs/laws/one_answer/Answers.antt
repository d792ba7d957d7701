use Rattle.book.proofs.Once.{one_answer}
use Rattle.book.proofs.laws.one_answer.Goals as goal

pub returns : goal.returns
returns c = one_answer
