use Rattle.clearing.proofs.Choices.{none_taken, ones_taken}
use Rattle.clearing.proofs.laws.choices_of_blocks.Goals as goal

pub returns : goal.returns
returns c = record { none = none_taken; ones = ones_taken }
