use Rattle.std.proofs.Common.{◌≡◌, ap, ◌∙◌, arith}
use Rattle.std.proofs.lemmas.Grind.{common_steps}
use Rattle.std.proofs.lemmas.Option.{gets}
use Rattle.std.specs.List.{slice_get}
use Rattle.sheet.specs.Facts.{facts}
use Rattle.sheet.specs.Offer.{prices_at}
use Rattle.book.specs.Reading.{sheets_of}
use Rattle.book.proofs.Fronts.{price_told}
use Rattle.book.proofs.asking.DepositBook.price.Goals as goal

pub returns : goal.returns
returns c =
    let o = facts c.in_ok-sheet.field-0 in
    let there : c.copied.result ≡ slice_get c.prices_at.result.now c.args.range = grind (arith, common_steps, gets) in
    there
    ∙ ap (λ prices. slice_get prices c.args.range) c.prices_at.ensures.value
    ∙ ap (λ place. slice_get (prices_at o place) c.args.range) c.in_ok-place.ensures.1
    ∙ price_told (sheets_of c.args.self.now) c.args.offer c.args.period c.args.range o c.in_ok-place.ensures.0 c.in_ok-sheet.ensures
