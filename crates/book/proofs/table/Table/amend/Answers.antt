use Rattle.std.proofs.Common.{Err, vec_items, sym, refl, ap, ◌∙◌}
use Rattle.std.proofs.lemmas.List.{map-set}
use Rattle.std.proofs.lemmas.Result.{err_from_is_err_and}
use Rattle.sheet.specs.Facts.{facts}
use Rattle.book.specs.Roll.{beside}
use Rattle.book.specs.Table.{days_of, offers_of, periods_of}
use Rattle.book.specs.Within.{within, within_limits}
use Rattle.book.proofs.Allowed.{amended_nowhere, amended_somewhere, passed_nowhere, somewhere}
use Rattle.book.proofs.Placed.{others_placed, replaced_placed}
use Rattle.book.proofs.Within.{fit_replaced}
use Rattle.book.proofs.table.Table.amend.Goals as goal

pub returns-in_err-place-clause-value : goal.returns-in_err-place-clause-value
returns-in_err-place-clause-value c =
    let self = c.args.self.now in
    let none = passed_nowhere c.place_of.result c.in_err-place.field-0.0 c.in_err-place.ensures.value in
    let p = err_from_is_err_and c.from_residual.result c.from_residual.ensures.1 in
    rw (p.1, p.2) (ap Err none.1 ∙ amended_nowhere (periods_of self) (offers_of self) (facts c.args.offer) (sym c.place_of.ensures.value ∙ none.0))

pub returns-in_err-judge_without-clause-value : goal.returns-in_err-judge_without-clause-value
returns-in_err-judge_without-clause-value c =
    let self = c.args.self.now in
    let o = facts c.args.offer in
    let found = sym c.place_of.ensures.value ∙ c.in_ok-place.ensures.ok_part in
    let once = (within_limits (days_of self) (offers_of self) self.kept).apart o.name o.number in
    let p = err_from_is_err_and c.from_residual-in_err-judge_without.result c.from_residual-in_err-judge_without.ensures.1 in
    rw (p.1, p.2) (c.in_err-judge_without.ensures ∙ sym (amended_somewhere (periods_of self) (offers_of self) o c.in_ok-place.place found once))

pub invariant_of-self-clause-kept : goal.invariant_of-self-clause-kept
invariant_of-self-clause-kept c =
    let self = c.args.self.now in
    let days = days_of self in
    let offers = offers_of self in
    let o = facts c.args.offer in
    let place = c.in_ok-place.place in
    let found = sym c.place_of.ensures.value ∙ c.in_ok-place.ensures.ok_part in
    let once = (within_limits days offers self.kept).apart o.name o.number in
    ap (within days) (map-set facts (vec_items self.offers) place c.args.offer ∙ sym (replaced_placed o offers place found once))
    ∙ fit_replaced days offers self.kept o c.requires (somewhere o.name o.number offers place found)
    (ap (λ rest. beside (periods_of self) rest o) (others_placed o.name o.number offers place found once) ∙ sym c.in_ok-judge_without.ensures)

pub returns-clause-value : goal.returns-clause-value
returns-clause-value c =
    let self = c.args.self.now in
    let o = facts c.args.offer in
    let found = sym c.place_of.ensures.value ∙ c.in_ok-place.ensures.ok_part in
    let once = (within_limits (days_of self) (offers_of self) self.kept).apart o.name o.number in
    c.in_ok-judge_without.ensures ∙ sym (amended_somewhere (periods_of self) (offers_of self) o c.in_ok-place.place found once)

pub returns-clause-after : goal.returns-clause-after
returns-clause-after c =
    let self = c.args.self.now in
    let o = facts c.args.offer in
    let place = c.in_ok-place.place in
    let found = sym c.place_of.ensures.value ∙ c.in_ok-place.ensures.ok_part in
    let once = (within_limits (days_of self) (offers_of self) self.kept).apart o.name o.number in
    (map-set facts (vec_items self.offers) place c.args.offer ∙ sym (replaced_placed o (offers_of self) place found once), refl)
