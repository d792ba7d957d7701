use Rattle.std.proofs.Common.{◌≡◌, [], ◌∷◌, ◌++◌, ◌∙◌, arith}
use Rattle.std.proofs.lemmas.List.{take_all}
use Rattle.text.specs.Lines.{values_of}
use Rattle.text.proofs.Fields.{read_more}
use Rattle.text.proofs.line.values.Goals as goal

pub loop-preserved : goal.loop-preserved
loop-preserved g c =
    let field = c.in_ok-value in
    let more = read_more c.loop.invariant c.loop-test.true field.ensures.read field.ensures.small in
    let kept : values_of c.push.new.self ≡ values_of c.loop.values ++ field.value ∷ [] = c.push.ensures ∙ take_all 11 _ (omega (arith, more.long, c.requires)) in
    rw kept more
