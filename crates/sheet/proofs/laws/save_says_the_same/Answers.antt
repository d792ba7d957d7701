use Rattle.sheet.proofs.Kept.{save_says_the_same}
use Rattle.sheet.proofs.laws.save_says_the_same.Goals as goal

pub returns : goal.returns
returns c = save_says_the_same
