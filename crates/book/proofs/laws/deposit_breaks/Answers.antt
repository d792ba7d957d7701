use Rattle.book.proofs.Deposits.{deposit_breaks}
use Rattle.book.proofs.laws.deposit_breaks.Goals as goal

pub returns : goal.returns
returns c = deposit_breaks
