-- The offers before a place and those after it.
use Rattle.std.proofs.Common.{◌≡◌, ℕ, ◌+◌, ◌-◌, List, ◌++◌, map, length, take, drop, sym, ap, ◌∙◌, arith, length-drop}
use Rattle.std.proofs.lemmas.List.{take-map, drop-map, take_all}
use Rattle.sheet.specs.declared.offer.Offer.{Offer as Kept}
use Rattle.sheet.specs.Facts.{facts}
use Rattle.sheet.specs.Offer.{Offer}

pub halves : (all : List Kept) (place : ℕ) (offers : List Offer) → map facts all ≡ offers → map facts (take place all) ++ map facts (take (length all - (place + 1)) (drop (place + 1) all)) ≡ take place offers ++ drop (place + 1) offers
halves all place offers are =
    let front : map facts (take place all) ≡ take place offers =
    sym (take-map facts place all) ∙ ap (take place) are
    in
    let back : map facts (take (length all - (place + 1)) (drop (place + 1) all)) ≡ drop (place + 1) offers =
    ap (map facts) (take_all (length all - (place + 1)) (drop (place + 1) all) (omega (arith, length-drop (place + 1) all)))
    ∙ sym (drop-map facts (place + 1) all)
    ∙ ap (drop (place + 1)) are
    in
    ap (λ xs. xs ++ map facts (take (length all - (place + 1)) (drop (place + 1) all))) front ∙ ap (λ ys. take place offers ++ ys) back
