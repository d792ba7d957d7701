-- The sheets of a text, read one after the other, are those that begin at the places told.
use Rattle.std.proofs.Common.{◌≡◌, ℕ, suc, ◌+◌, ◌-◌, ◌*◌, ◌<◌, ◌≤◌, Bool, true, ◌&&◌, leb, List, [], ◌∷◌, ◌++◌, length, take, drop, Ok, Err, Result, sym, refl, ap, ◌∙◌, append-nil, arith}
use native.Mathlib.Nat.{min-eq_left}
use Rattle.std.proofs.lemmas.List.{map-append, length-map, length_push, take_all}
use Rattle.std.proofs.lemmas.Bool.{and_parts, leb-true, le-leb}
use Rattle.text.specs.Judging.{◌>>=◌}
use Rattle.text.specs.Tokens.{Tail}
use Rattle.sheet.specs.Offer.{Offer}
use Rattle.sheet.specs.Read.{month_of}
use Rattle.sheet.specs.Sheet.{every, read, lines}
use Rattle.sheet.specs.declared.fault.SheetFault.{SheetFault}
use Rattle.sheet.specs.declared.fault.SheetFault.TheVariants.{Form, Value, Marks, Order, PartMonth}
use Rattle.book.specs.Deposit.{entering, deposited}
use Rattle.book.specs.Fault.{of_sheet, sheet_later}
use Rattle.book.specs.Places.{was_read, offer_read, begins, offer_at, all_begin, offers_at}
use Rattle.book.specs.Roll.{admitted, with}
use Rattle.book.specs.declared.fault.RegisterFault.{RegisterFault}
use Rattle.book.proofs.Ends.{tail_on, tail_place, read_tail, whole_tail}
use Rattle.book.proofs.Later.{Settled, Later, read_later}
use Rattle.book.proofs.Parts.{with_parts}

-- a month has at most 11 periods
pub month_same : (T : ℕ) → T ≤ 11 → month_of T ≡ T
month_same T h = min-eq_left h

pub with_made : (T : ℕ) (offers after : List Offer) (o : Offer) → Ok tt ≡ admitted T offers o → after ≡ offers ++ (o ∷ []) → with T offers o ≡ Ok after
with_made T offers after o e made =
    let next : Result (List Offer) RegisterFault = Ok (offers ++ (o ∷ [])) in
    ap (λ r. r >>= (λ _. next)) (sym e) ∙ ap Ok (sym made)

-- ---- what was read with lines before it is read without

settled : (fault : SheetFault) → Settled [] fault
settled (Form l) = refl
settled (Value l) = tt
settled (Marks l) = tt
settled (Order l) = tt
settled (PartMonth l) = tt

pub read_first : (T before : ℕ) (text rest : List ℕ) (o : Offer) → read T before text ≡ Ok (o, rest) → read T 0 text ≡ Ok (o, rest)
read_first T before text rest o e = go (read T 0 text) refl (read_later before [] T text)
  where
    alone : read T before (text ++ []) ≡ Ok (o, rest)
    alone = ap (λ t. read T before t) (append-nil text) ∙ e

    go : (r : Result (Offer × List ℕ) SheetFault) → read T 0 text ≡ r → Later before [] r (read T before (text ++ [])) → read T 0 text ≡ Ok (o, rest)
    go (Ok s) k h =
        let same : ◌≡◌ {A = Result (Offer × List ℕ) SheetFault} (Ok (s.0, s.1 ++ [])) (Ok (o, rest)) = sym h ∙ alone in
        let both : ◌≡◌ {A = Offer × List ℕ} (s.0, s.1 ++ []) (o, rest) = cc in
        let first : s.0 ≡ o = ap (λ (p : Offer × List ℕ). p.0) both in
        let second : s.1 ≡ rest = sym (append-nil s.1) ∙ ap (λ (p : Offer × List ℕ). p.1) both in
        k ∙ ap (λ x. Ok (x, s.1)) first ∙ ap (λ x. Ok (o, x)) second
    go (Err fault) k h =
        let no : ◌≡◌ {A = Result (Offer × List ℕ) SheetFault} (Err (sheet_later before fault)) (Ok (o, rest)) = sym (h (settled fault)) ∙ alone in
        absurd (cc)

-- ---- a place

module _ (T : ℕ) (text : List ℕ) (place : ℕ) where
  pub begins_inside : begins T text place ≡ true → place ≤ length text
  unfolding begins
  begins_inside h = leb-true place (length text) (and_parts (leb place (length text)) (was_read (read T 0 (drop place text))) h).0

  module _ (s : Offer × List ℕ) (e : read T 0 (drop place text) ≡ Ok s) where
    pub begins_read : place ≤ length text → begins T text place ≡ true
    unfolding begins
    begins_read inside = ap (λ b. b && was_read (read T 0 (drop place text))) (le-leb place (length text) inside) ∙ ap was_read e

    pub offer_there : offer_at T text place ≡ s.0
    unfolding offer_at
    offer_there = ap offer_read e

  pub begins_so : begins T text place ≡ true → (s : Offer × List ℕ) × (read T 0 (drop place text) ≡ Ok s)
  unfolding begins
  begins_so h = go (read T 0 (drop place text)) refl (and_parts (leb place (length text)) (was_read (read T 0 (drop place text))) h).1
    where
      go : (r : Result (Offer × List ℕ) SheetFault) → read T 0 (drop place text) ≡ r → was_read r ≡ true → (s : Offer × List ℕ) × (read T 0 (drop place text) ≡ Ok s)
      go (Ok s) e h = (s, e)
      go (Err fault) e h = absurd (cc)

pub every_push : {X : Type 0} (test : X → Bool) (xs : List X) (x : X) → every test xs ≡ true → test x ≡ true → every test (xs ++ (x ∷ [])) ≡ true
every_push test [] x h k = ap (λ b. b && true) k
every_push test (y ∷ xs) x h k =
    let p = and_parts (test y) (every test xs) h in
    ap (λ b. b && every test (xs ++ (x ∷ []))) p.0 ∙ every_push test xs x p.1 k

-- ---- one turn

module _ (T turns before : ℕ) (offers : List Offer) where
  pub enters_next : (text rest : List ℕ) (o : Offer) (after : List Offer) → 1 ≤ length text → read T before text ≡ Ok (o, rest) → with T offers o ≡ Ok after → entering T (suc turns) before offers text ≡ entering T turns (before + lines o) after rest
  enters_next [] rest o after h e w = absurd (omega arith)
  enters_next (b ∷ text) rest o after h e w =
      let next : Offer × List ℕ → Result (List Offer) RegisterFault = λ s. with T offers s.0 >>= (λ more. entering T turns (before + lines s.0) more s.1) in
      ap (λ r. of_sheet r >>= next) e ∙ ap (λ r. r >>= (λ more. entering T turns (before + lines o) more rest)) w

  refused_so : {X Y Z F : Type 0} (r : Result X F) (f : X → Result Y F) (g : X → Y → Result Z F) (fault : F) → (r >>= f) ≡ Err fault → (r >>= (λ x. f x >>= g x)) ≡ Err fault
  refused_so (Ok x) f g fault h = ap (λ q. q >>= g x) h
  refused_so {Y = Y} {F = F} (Err e) f g fault h = let same : e ≡ fault = cc in ap Err same

  pub enters_not : (text : List ℕ) (fault : RegisterFault) → 1 ≤ length text → (of_sheet (read T before text) >>= (λ s. with T offers s.0)) ≡ Err fault → entering T (suc turns) before offers text ≡ Err fault
  enters_not [] fault h e = absurd (omega arith)
  enters_not (b ∷ text) fault h e = refused_so (of_sheet (read T before (b ∷ text))) (λ s. with T offers s.0) (λ s more. entering T turns (before + lines s.0) more s.1) fault e

-- ---- all turns

-- the sheets before the rest of a text have entered, and so many lines stand before it
pub record SoFar (T first : ℕ) (text places : List ℕ) (before : ℕ) (offers : List Offer) (rest : List ℕ) : Type 0 where
  pub judged : entering T (33 - length places) before offers rest ≡ deposited T first text
  pub told : offers_at T text places ≡ offers
  pub sheets : all_begin T text places ≡ true
  pub tail : Tail text rest
  pub few : length places ≤ 32
  pub near : before ≤ 255 + 21 * length places

pub so_far_none : (T first : ℕ) (text places : List ℕ) (before : ℕ) (offers : List Offer) → before ≡ first → first ≤ 255 → offers ≡ [] → places ≡ [] → SoFar T first text places before offers text
so_far_none T first text places before offers same low none empty =
    let zero_places : length places ≡ 0 = ap length empty in
    record {
      judged = ap (λ n. entering T (33 - n) before offers text) zero_places ∙ ap (λ os. entering T 33 before os text) none ∙ ap (λ n. entering T 33 n [] text) same;
      told = ap (offers_at T text) empty ∙ sym none;
      sheets = ap (all_begin T text) empty;
      tail = whole_tail text;
      few = omega arith;
      near = omega arith;
    }

module _ (T first : ℕ) (text places : List ℕ) (before : ℕ) (offers : List Offer) (rest : List ℕ) (so_far : SoFar T first text places before offers rest) (some : 1 ≤ length rest) where
  left : 33 - length places ≡ suc (33 - (length places + 1))
  left = let few = so_far.few in omega arith

  pub so_far_refused : (fault : RegisterFault) → (of_sheet (read T before rest) >>= (λ s. with T offers s.0)) ≡ Err fault → Err fault ≡ deposited T first text
  so_far_refused fault e =
      sym (enters_not T (33 - (length places + 1)) before offers rest fault some e) ∙ ap (λ n. entering T n before offers rest) (sym left) ∙ so_far.judged

  -- one more sheet enters, and its place is told
  module _ (o : Offer) (after : List Offer) (later : List ℕ) (e : read T before rest ≡ Ok (o, later)) (w : with T offers o ≡ Ok after) (next : List ℕ) (one_more : next ≡ take 32 (places ++ ((length text - length rest) ∷ []))) where
    room : length places < 32
    room = let room = (with_parts T offers o after w).0.room in omega (arith, ap length so_far.told, length-map places (offer_at T text))

    whole : next ≡ places ++ ((length text - length rest) ∷ [])
    whole = one_more ∙ take_all 32 (places ++ ((length text - length rest) ∷ [])) (omega (arith, room, length_push places (length text - length rest)))

    longer : length next ≡ length places + 1
    longer = ap length whole ∙ length_push places (length text - length rest)

    pub so_far_smaller : 33 - length next < 33 - length places
    so_far_smaller = omega (arith, longer, room)

    pub so_far_more : (n : ℕ) → n ≡ lines o → n ≤ 21 → SoFar T first text next (before + n) after later
    so_far_more n counted short =
        let place = length text - length rest in
        let here : drop place text ≡ rest = tail_place text rest so_far.tail in
        let first_read : read T 0 (drop place text) ≡ Ok (o, later) = ap (λ t. read T 0 t) here ∙ read_first T before rest later o e in
        let made = (with_parts T offers o after w).1 in
        let near = so_far.near in
        record {
          judged = ap (λ k. entering T (33 - k) (before + n) after later) longer ∙ ap (λ k. entering T (33 - (length places + 1)) (before + k) after later) counted ∙ sym (enters_next T (33 - (length places + 1)) before offers rest later o after some e w) ∙ ap (λ n. entering T n before offers rest) (sym left) ∙ so_far.judged;
          told = ap (offers_at T text) whole ∙ map-append (offer_at T text) places (place ∷ []) ∙ ap (λ os. os ++ (offer_at T text place ∷ [])) so_far.told ∙ ap (λ x. offers ++ (x ∷ [])) (offer_there T text place (o, later) first_read) ∙ sym made;
          sheets = ap (all_begin T text) whole ∙ every_push (begins T text) places place so_far.sheets (begins_read T text place (o, later) first_read (omega arith));
          tail = tail_on text rest later so_far.tail (read_tail T before rest o later e);
          few = omega (arith, longer, room);
          near = omega (arith, longer);
        }
