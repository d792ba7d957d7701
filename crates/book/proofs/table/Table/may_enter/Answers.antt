use Rattle.std.proofs.Common.{◌≡◌, ◌≤◌, ◌<◌, true, false, length, is_some, vec_items, sym, ap, ◌∙◌, refl, arith}
use Rattle.std.proofs.lemmas.Bool.{lt-ltb, le-ltb}
use Rattle.std.proofs.lemmas.List.{length-map}
use Rattle.sheet.specs.Facts.{facts}
use Rattle.book.specs.Roll.{stands}
use Rattle.book.specs.Table.{offers_of}
use Rattle.book.proofs.Placed.{stands_placed}
use Rattle.book.proofs.table.Table.may_enter.Goals as goal

pub returns-then-is_some-clause-value : goal.returns-then-is_some-clause-value
returns-then-is_some-clause-value c =
    let offers = offers_of c.args.self.now in
    let o = facts c.args.offer.now in
    let known : stands o.name o.number offers ≡ true = stands_placed o.name o.number offers ∙ ap is_some (sym c.place_of.ensures.value) ∙ sym c.is_some.ensures ∙ c.if-is_some.true in
    rw known refl

pub returns-then-len-ge-MOST_OFFERS-clause-value : goal.returns-then-len-ge-MOST_OFFERS-clause-value
returns-then-len-ge-MOST_OFFERS-clause-value c =
    let offers = offers_of c.args.self.now in
    let o = facts c.args.offer.now in
    let new : stands o.name o.number offers ≡ false = stands_placed o.name o.number offers ∙ ap is_some (sym c.place_of.ensures.value) ∙ sym c.is_some.ensures ∙ c.if-is_some.false in
    let full : 32 ≤ length offers = omega (arith, length-map (vec_items c.args.self.now.offers) facts) in
    rw (new, le-ltb (length offers) 32 full) refl

pub returns-clause-value : goal.returns-clause-value
returns-clause-value c =
    let offers = offers_of c.args.self.now in
    let o = facts c.args.offer.now in
    let new : stands o.name o.number offers ≡ false = stands_placed o.name o.number offers ∙ ap is_some (sym c.place_of.ensures.value) ∙ sym c.is_some.ensures ∙ c.if-is_some.false in
    let room : length offers < 32 = omega (arith, length-map (vec_items c.args.self.now.offers) facts) in
    rw (new, lt-ltb (length offers) 32 room) c.judge_with_all.ensures
