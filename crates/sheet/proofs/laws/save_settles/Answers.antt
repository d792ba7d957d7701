use Rattle.sheet.proofs.Kept.{save_settles}
use Rattle.sheet.proofs.laws.save_settles.Goals as goal

pub returns : goal.returns
returns c = save_settles
