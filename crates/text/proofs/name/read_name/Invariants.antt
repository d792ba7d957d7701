use Rattle.text.specs.Form.{letter_or_digit}
use Rattle.text.proofs.name.read_name.Given as goal

abbrev pub ghost-run : goal.ghost-run
ghost-run a = letter_or_digit
