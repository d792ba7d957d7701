use Rattle.book.proofs.Deposits.{deposit_refuses}
use Rattle.book.proofs.laws.deposit_refuses.Goals as goal

pub returns : goal.returns
returns c = deposit_refuses
