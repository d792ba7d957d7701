use Rattle.std.proofs.Common.{◌≡◌, Err, map, vec_items, sym, refl, ap, ◌∙◌, arith}
use Rattle.std.proofs.lemmas.Result.{err_from_is_err_and}
use Rattle.sheet.specs.Facts.{facts}
use Rattle.book.specs.Roll.{others}
use Rattle.book.specs.Table.{days_of, offers_of}
use Rattle.book.specs.Within.{within, within_limits}
use Rattle.book.proofs.Allowed.{passed_nowhere, removed, withdrawn_nowhere, withdrawn_somewhere}
use Rattle.book.proofs.Placed.{others_placed}
use Rattle.book.proofs.Within.{within_others}
use Rattle.book.proofs.table.Table.withdraw.Goals as goal

pub returns-in_err-place-clause-value : goal.returns-in_err-place-clause-value
returns-in_err-place-clause-value c =
    let none = passed_nowhere c.place.result c.in_err-place.field-0.0 c.in_err-place.ensures.value in
    let p = err_from_is_err_and c.from_residual.result c.from_residual.ensures.1 in
    rw (p.1, p.2) (ap Err none.1 ∙ withdrawn_nowhere c.args.identifier.name.now c.args.identifier.number (offers_of c.args.self.now) (sym c.place.ensures.value ∙ none.0))

pub invariant_of-self : goal.invariant_of-self
invariant_of-self c =
    let self = c.args.self.now in
    let days = days_of self in
    let offers = offers_of self in
    let name = c.args.identifier.name.now in
    let number = c.args.identifier.number in
    let place = c.in_ok-place.place in
    let found = sym c.place.ensures.value ∙ c.in_ok-place.ensures.ok_part in
    let once = (within_limits days offers self.kept).apart name number in
    let after : map facts (vec_items c.remove.new.self) ≡ others name number offers = ap (map facts) c.remove.ensures.items ∙ removed (vec_items self.offers) place ∙ sym (others_placed name number offers place found once) in
    record {
      room = omega (arith, self.room, c.remove.ensures.capacity);
      kept = ap (within days) after ∙ within_others days offers self.kept name number;
    }

pub returns-clause-value : goal.returns-clause-value
returns-clause-value c =
    withdrawn_somewhere c.args.identifier.name.now c.args.identifier.number (offers_of c.args.self.now) c.in_ok-place.place (sym c.place.ensures.value ∙ c.in_ok-place.ensures.ok_part)

pub returns-clause-after : goal.returns-clause-after
returns-clause-after c =
    let self = c.args.self.now in
    let name = c.args.identifier.name.now in
    let number = c.args.identifier.number in
    let place = c.in_ok-place.place in
    let found = sym c.place.ensures.value ∙ c.in_ok-place.ensures.ok_part in
    let once = (within_limits (days_of self) (offers_of self) self.kept).apart name number in
    (ap (map facts) c.remove.ensures.items ∙ removed (vec_items self.offers) place ∙ sym (others_placed name number (offers_of self) place found once), refl)
