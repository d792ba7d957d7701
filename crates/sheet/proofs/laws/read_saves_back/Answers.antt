use Rattle.sheet.proofs.Kept.{read_saves_back}
use Rattle.sheet.proofs.laws.read_saves_back.Goals as goal

pub returns : goal.returns
returns c = read_saves_back
