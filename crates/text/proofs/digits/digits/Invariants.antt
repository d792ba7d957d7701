use Rattle.text.specs.Form.{digit}
use Rattle.text.proofs.digits.digits.Given as goal

abbrev pub ghost-run : goal.ghost-run
ghost-run a = digit
