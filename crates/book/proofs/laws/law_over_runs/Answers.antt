use Rattle.book.proofs.Law.{law_over_runs}
use Rattle.book.proofs.laws.law_over_runs.Goals as goal

pub returns : goal.returns
returns c = law_over_runs
