use Rattle.text.proofs.run.run.Given as goal

abbrev pub ghost-leading : goal.ghost-leading
ghost-leading g a = g.kind
