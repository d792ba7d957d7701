use Rattle.std.proofs.Common.{◌∙◌, rules, tests}
use Rattle.std.proofs.lemmas.Iterator.{YieldsList-from_slice}
use Rattle.std.proofs.lemmas.Iterator.Adapters.{position_from-zero}
use Rattle.std.proofs.lemmas.Iterator.Search.{position_from_yields_List}
use Rattle.sheet.specs.Facts.{facts}
use Rattle.book.specs.Limits.{is}
use Rattle.book.proofs.Finding.{position_kept}
use Rattle.book.proofs.places.Identifier.place_in.Goals as goal

pub returns-clause-value : goal.returns-clause-value
returns-clause-value c =
    let name = c.args.self.name.now in
    let number = c.args.self.number in
    let offers = c.args.offers.now in
    position_from_yields_List (λ o. is name number (facts o)) _ _ _ c.position.ensures.ran (YieldsList-from_slice offers cc) (λ x b q k. search (rules, tests))
    ∙ position_from-zero (λ o. is name number (facts o)) offers
    ∙ position_kept name number 0 offers
