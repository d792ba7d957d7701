-- What stands at the front of a sheet of a deposit, and what its offer is asked for.
use Rattle.std.proofs.Common.{◌≡◌, ℕ, zero, suc, ◌+◌, ◌-◌, ◌≤◌, Bool, true, not, ◌&&◌, leb, List, [], ◌∷◌, map, length, get_or, take, drop, Some, None, Ok, codes, Option, sym, refl, ap, ◌∙◌, subst, arith, length-drop}
use Rattle.std.proofs.lemmas.List.{take_all}
use Rattle.std.proofs.lemmas.Bool.{and_parts, le-leb}
use Rattle.std.specs.List.{slice_get}
use Rattle.text.specs.Form.{◌>>=◌, ended, field, whole, name, named}
use Rattle.text.proofs.FormKeeps.{some_from, ended_from}
use Rattle.sheet.specs.Limits.{highest_number}
use Rattle.sheet.specs.Offer.{Offer, listed, prices_at}
use Rattle.sheet.specs.Sheet.{every, itself, identifier_line, floor_line, product_line, domax_line, mark_line, Head, head, shape_line, width_line, period_line, price_lines, block_line, offer_of, read}
use Rattle.sheet.proofs.SheetKeeps.{ok_case, must_case, line_from, ok_same}
use Rattle.sheet.specs.declared.fault.SheetFault.{SheetFault}
use Rattle.sheet.specs.declared.fault.SheetFault.TheVariants.{Marks}
use Rattle.book.specs.Book.{price_asked}
use Rattle.book.specs.Places.{begins, offer_at, all_begin, offers_at}
use Rattle.book.proofs.Reading.{begins_inside, begins_so, offer_there}

-- ---- lists

every_nth : (test : ℕ → Bool) (xs : List ℕ) (i x : ℕ) → every test xs ≡ true → slice_get xs i ≡ Some x → test x ≡ true
every_nth test [] i x h e = absurd (cc)
every_nth test (y ∷ xs) zero x h e = let same : y ≡ x = cc in ap test (sym same) ∙ (and_parts (test y) (every test xs) h).0
every_nth test (y ∷ xs) (suc i) x h e = every_nth test xs i x (and_parts (test y) (every test xs) h).1 e

nth_map : {X Y : Type 0} (f : X → Y) (xs : List X) (i : ℕ) → slice_get (map f xs) i ≡ (slice_get xs i >>= (λ x. Some (f x)))
nth_map f [] i = refl
nth_map f (x ∷ xs) zero = refl
nth_map f (x ∷ xs) (suc i) = nth_map f xs i

-- ---- the front

pub all_after : (text : List ℕ) (place : ℕ) → take (length text - place) (drop place text) ≡ drop place text
all_after text place = take_all (length text - place) (drop place text) (omega (arith, length-drop place text))

module _ (T : ℕ) (text places : List ℕ) (i : ℕ) where
  pub front_none : None ≡ slice_get places i → slice_get (offers_at T text places) i ≡ None
  front_none e = nth_map (offer_at T text) places i ∙ ap (λ r. r >>= (λ place. Some (offer_at T text place))) (sym e)

  module _ (place : ℕ) (all : all_begin T text places ≡ true) (e : Some place ≡ slice_get places i) where
    begins_there : begins T text place ≡ true
    begins_there = every_nth (begins T text) places i place all (sym e)

    pub front_inside : place ≤ length text
    front_inside = begins_inside T text place begins_there

    pub front_some : (s : Offer × List ℕ) × (read T 0 (drop place text) ≡ Ok s) × (slice_get (offers_at T text places) i ≡ Some s.0)
    front_some =
        let s = begins_so T text place begins_there in (
          s.0,
          s.1,
          nth_map (offer_at T text) places i ∙ ap (λ r. r >>= (λ place. Some (offer_at T text place))) (sym e) ∙ ap Some (offer_there T text place s.0 s.1),
        )

-- ---- the name at the front

some_name : (text : List ℕ) (s : (List ℕ × ℕ) × List ℕ) → named text ≡ Some s → (rest : List ℕ) × (name text ≡ Some (s.0.0, rest))
some_name text s e =
    let a = some_from (field name text) _ s e in
    let b = some_from (ended 10 (field whole) a.0.1) _ s a.2 in
    let c = ended_from 59 name text a.0 a.1 in
    let d : ◌≡◌ {A = (List ℕ × ℕ) × List ℕ} ((a.0.0, b.0.0), b.0.1) s = cc in
    let who : a.0.0 ≡ s.0.0 = ap (λ (p : (List ℕ × ℕ) × List ℕ). p.0.0) d in
    (c.0.1, c.1 ∙ ap (λ who. Some (who, c.0.1)) (c.2 ∙ who))

head_name : (before : ℕ) (text : List ℕ) (s : Head × List ℕ) → head before text ≡ Ok s → (rest : List ℕ) × (name text ≡ Some (s.0.name, rest))
head_name before text s h =
    ok_case (identifier_line (before + 1) text) _ s h (λ p1 e1 h1.
    ok_case (floor_line (before + 2) p1.1) _ s h1 (λ p2 e2 h2.
    ok_case (product_line (before + 3) p2.1) _ s h2 (λ p3 e3 h3.
    ok_case (domax_line p3.0 (before + 4) p3.1) _ s h3 (λ p4 e4 h4.
    ok_case (mark_line (codes "Obs_Stat;") (before + 5) p4.1) _ s h4 (λ p5 e5 h5.
    ok_case (mark_line (codes "DOmin;") (before + 6) p5.1) _ s h5 (λ p6 e6 h6.
    must_case (not (p5.0 && p6.0)) (Marks (before + 6)) _ s h6 (λ marks h7.
    let is : Head = record { name = p1.0.0; number = p1.0.1; floor = p2.0; product = p3.0; observed = p5.0; short = p6.0 } in
    let line = line_from named (λ id. leb id.1 highest_number) itself (before + 1) text p1 e1 in
    let who = some_name text line.0 line.1 in
    subst (λ p. (rest : List ℕ) × (name text ≡ Some (p.0.name, rest))) (ok_same {F = SheetFault} (is, p6.1) s h7) (who.0, who.1 ∙ ap (λ id. Some (id.0, who.0)) line.3))))))))

read_name : (T : ℕ) (text : List ℕ) (s : Offer × List ℕ) → read T 0 text ≡ Ok s → (rest : List ℕ) × (name text ≡ Some (s.0.name, rest))
read_name T text s h =
    ok_case (head 0 text) _ s h (λ p6 e6 h6.
    ok_case (shape_line T 7 p6.1) _ s h6 (λ p7 e7 h7.
    ok_case (width_line p7.0.ranges p6.0.floor 8 p7.1) _ s h7 (λ p8 e8 h8.
    ok_case (period_line T p7.0.periods 9 p8.1) _ s h8 (λ p9 e9 h9.
    ok_case (price_lines p7.0.ranges p7.0.periods 10 p9.1) _ s h9 (λ p10 e10 h10.
    ok_case (block_line p7.0.blocks (10 + p7.0.periods) p10.1) _ s h10 (λ p11 e11 h11.
    subst (λ p. (rest : List ℕ) × (name text ≡ Some (p.0.name, rest))) (ok_same {F = SheetFault} (offer_of T p6.0 p8.0 p9.0 p10.0 p11.0, p11.1) s h11) (head_name 0 text p6 e6)))))))

module _ (T : ℕ) (text : List ℕ) (s : Offer × List ℕ) (e : read T 0 text ≡ Ok s) where
  -- the name token is the sheet's
  pub named_there : (who rest : List ℕ) → Some (who, rest) ≡ name text → who ≡ s.0.name
  named_there who rest h =
      let p = read_name T text s e in
      let same : ◌≡◌ {A = Option (List ℕ × List ℕ)} (Some (who, rest)) (Some (s.0.name, p.0)) = h ∙ p.1 in
      let both : ◌≡◌ {A = List ℕ × List ℕ} (who, rest) (s.0.name, p.0) = cc in
      ap (λ (q : List ℕ × List ℕ). q.0) both

-- ---- a price

rows_asked : (rows : List (Option (List ℕ))) (place k : ℕ) → slice_get (listed (get_or rows place None)) k ≡ (slice_get rows place >>= (λ row. row >>= (λ prices. slice_get prices k)))
rows_asked [] place k = refl
rows_asked (None ∷ rows) zero k = refl
rows_asked (Some prices ∷ rows) zero k = refl
rows_asked (row ∷ rows) (suc place) k = rows_asked rows place k

pub price_told : (offers : List Offer) (i t k : ℕ) (o : Offer) → 1 ≤ t → Some o ≡ slice_get offers i → slice_get (prices_at o (t - 1)) k ≡ price_asked offers i t k
price_told offers i t k o h e = rw (le-leb 1 t h, ← e) (rows_asked o.rows (t - 1) k)
