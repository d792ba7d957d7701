use Rattle.sheet.proofs.Saves.{saved_reads_back}
use Rattle.sheet.proofs.laws.saved_reads_back.Goals as goal

pub returns : goal.returns
returns c = saved_reads_back
