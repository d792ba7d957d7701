use Rattle.book.proofs.Deposits.{deposit_enters}
use Rattle.book.proofs.laws.deposit_enters.Goals as goal

pub returns : goal.returns
returns c = deposit_enters
