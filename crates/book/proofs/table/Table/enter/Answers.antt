use Rattle.std.proofs.Common.{◌≡◌, ◌++◌, ◌∷◌, [], map, vec_items, sym, ap, ◌∙◌, arith}
use Rattle.std.proofs.lemmas.List.{map_push}
use Rattle.sheet.specs.Facts.{facts}
use Rattle.book.specs.Table.{days_of, offers_of}
use Rattle.book.specs.Within.{within}
use Rattle.book.proofs.Within.{fit_admitted}
use Rattle.book.proofs.table.Table.enter.Goals as goal

pub invariant_of-self : goal.invariant_of-self
invariant_of-self c =
    let self = c.args.self.now in
    let o = facts c.args.offer in
    let now : map facts (vec_items c.push_reserved.new.self) ≡ offers_of self ++ (o ∷ []) = ap (map facts) c.push_reserved.ensures.items ∙ map_push facts (vec_items self.offers) c.args.offer in
    record {
      room = omega (arith, self.room, c.push_reserved.ensures.capacity);
      kept = ap (within (days_of self)) now ∙ fit_admitted (days_of self) (offers_of self) self.kept o c.requires (sym c.in_ok-may_enter.ensures.value);
    }
