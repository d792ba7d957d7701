use Rattle.clearing.proofs.Worked.{small_tenders, february_opens}
use Rattle.clearing.proofs.tenders.small_tenders.Goals as goal

pub returns : goal.returns
returns c = record { table = small_tenders; calendar = february_opens }
