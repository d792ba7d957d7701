-- The sheets of a deposit enter as they would enter one by one.
use Rattle.std.proofs.Common.{◌≡◌, ℕ, zero, suc, ◌+◌, ◌≤◌, Bool, true, false, not, eqb, ltb, leb, List, [], ◌∷◌, ◌++◌, length, Some, None, Ok, Err, Option, Result, sym, refl, ap, ◌∙◌, subst, append_assoc, append-nil, arith}
use Rattle.std.proofs.lemmas.List.{length_push}
use Rattle.std.proofs.lemmas.Bool.{true≢false, eqb-true}
use Rattle.std.specs.List.{concat}
use Rattle.text.specs.Judging.{◌>>=◌, ◌>>◌, must}
use Rattle.sheet.specs.Offer.{Offer}
use Rattle.sheet.specs.Sheet.{read, read_alone, lines}
use Rattle.sheet.specs.declared.fault.SheetFault.{SheetFault}
use Rattle.sheet.specs.declared.fault.SheetFault.TheVariants.{Form, Value, Marks, Order, PartMonth}
use Rattle.sheet.proofs.SheetKeeps.{ok_from, must_from}
use Rattle.book.specs.Deposit.{all_lines, entering, deposited, enter_each, DepositEnters, DepositRefuses, DepositBreaks}
use Rattle.book.specs.Fault.{of_sheet, breaks_form, sheet_later, later}
use Rattle.book.specs.Limits.{most_offers, most_volume, most_blocks, count, breadth, has_block}
use Rattle.book.specs.Roll.{Roll, new, stands, crowded, no_pairs, admitted, with, entered}
use Rattle.book.specs.declared.fault.RegisterFault.{RegisterFault}
use Rattle.book.specs.declared.fault.RegisterFault.TheVariants.{Sheet, Known, Full, Pairs, Volume, Blocks}
use Rattle.book.proofs.Later.{Settled, Later, read_later}
use Rattle.book.proofs.Parts.{bind_parts, ok_same, entered_parts}
use Rattle.book.proofs.Sums.{sum_push}

-- ---- one sheet

ok_not_err : {X F : Type 0} (x : X) (f : F) → ◌≡◌ {A = Result X F} (Ok x) (Err f) → ⊥
ok_not_err x f e = cc

-- a sheet that is read alone leaves nothing
alone_whole : (T : ℕ) (text : List ℕ) (o : Offer) → read_alone T text ≡ Ok o → read T 0 text ≡ Ok (o, [])
alone_whole T text o h =
    let a = ok_from (read T 0 text) _ o h in
    let b = must_from (eqb (length a.0.1) 0) (Form (lines a.0.0 + 1)) _ o a.2 in
    let e = ok_same {F = SheetFault} a.0.0 o b.1 in
    let none = nothing a.0.1 (eqb-true (length a.0.1) 0 b.0) in
    a.1 ∙ ap (λ x. Ok (x, a.0.1)) e ∙ ap (λ r. Ok (o, r)) none
  where
    nothing : (xs : List ℕ) → length xs ≡ 0 → xs ≡ []
    nothing [] h = refl
    nothing (x ∷ xs) h = absurd (omega arith)

module _ (T turns before : ℕ) (offers : List Offer) where
  -- what a turn makes of what is read
  abbrev turn : Result (Offer × List ℕ) SheetFault → Result (List Offer) RegisterFault
  turn r = of_sheet r >>= (λ s. with T offers s.0 >>= (λ after. entering T turns (before + lines s.0) after s.1))

  turn_taken : (text : List ℕ) → (text ≡ [] → ⊥) → entering T (suc turns) before offers text ≡ turn (read T before text)
  turn_taken [] some = absurd (some refl)
  turn_taken (b ∷ text) some = refl

  turn_read : (text rest : List ℕ) (o : Offer) → read T before text ≡ Ok (o, rest) → (text ≡ [] → ⊥)
  turn_read text rest o h none = ok_not_err (o, rest) (Form (before + 1)) (sym h ∙ ap (read T before) none)

  turn_entered : (text rest : List ℕ) (o : Offer) (after : List Offer) → read T before text ≡ Ok (o, rest) → with T offers o ≡ Ok after → entering T (suc turns) before offers text ≡ entering T turns (before + lines o) after rest
  turn_entered text rest o after h k = turn_taken text (turn_read text rest o h) ∙ ap turn h ∙ ap (λ w. w >>= (λ after. entering T turns (before + lines o) after rest)) k

  turn_refused : (text rest : List ℕ) (o : Offer) (fault : RegisterFault) → read T before text ≡ Ok (o, rest) → with T offers o ≡ Err fault → entering T (suc turns) before offers text ≡ Err fault
  turn_refused text rest o fault h k = turn_taken text (turn_read text rest o h) ∙ ap turn h ∙ ap (λ w. w >>= (λ after. entering T turns (before + lines o) after rest)) k

  turn_unread : (text : List ℕ) (fault : SheetFault) → (text ≡ [] → ⊥) → read T before text ≡ Err fault → entering T (suc turns) before offers text ≡ Err (Sheet fault)
  turn_unread text fault some h = turn_taken text some ∙ ap turn h

-- ---- the sheets that enter

-- where a deposit stands after sheets that entered: with turns left
record Reached (T turns before : ℕ) (offers : List Offer) (text : List ℕ) (result : Result (List Offer) RegisterFault) : Type 0 where
  few : length offers ≤ most_offers
  enough : 33 ≤ length offers + turns
  same : result ≡ entering T turns before offers text

-- so many lines before the first offer
module _ (T first : ℕ) where
  abbrev start : Roll → ℕ
  start roll = first + all_lines roll.offers

  -- a sheet that is read alone is read in its place
  in_place : (before : ℕ) (text rest : List ℕ) (o : Offer) → read_alone T text ≡ Ok o → read T before (text ++ rest) ≡ Ok (o, rest)
  in_place before text rest o h =
      subst (λ r. Later before rest r (read T before (text ++ rest))) (alone_whole T text o h) (read_later before rest T text)

  one_through : (turns : ℕ) (roll next : Roll) (text rest : List ℕ) → entered T roll text ≡ Ok next → 33 ≤ length roll.offers + turns →
      (left : ℕ) × Reached T left (start next) next.offers rest (entering T turns (start roll) roll.offers (text ++ rest))
  one_through zero roll next text rest h enough =
      let room = (entered_parts T roll text next h).enters.room in
      absurd (omega arith)
  one_through (suc turns) roll next text rest h enough =
      let p = entered_parts T roll text next h in
      let o = p.offer in
      let pushed : next.offers ≡ roll.offers ++ (o ∷ []) = ap (λ r. r.offers) p.made in
      let long : length next.offers ≡ length roll.offers + 1 = ap length pushed ∙ length_push roll.offers o in
      let room = p.enters.room in
      let s = sum_push lines roll.offers o in
      let t = ap all_lines pushed in
      let lines_on : start roll + lines o ≡ start next = omega arith in
      let entry = turn_entered T turns (start roll) roll.offers (text ++ rest) rest o next.offers (in_place (start roll) text rest o p.sheet) p.joins in
      (turns, record { few = omega arith; enough = omega arith; same = entry ∙ ap (λ b. entering T turns b next.offers rest) lines_on })

  through : (turns : ℕ) (roll : Roll) (texts : List (List ℕ)) (after : Roll) (more : List ℕ) → length roll.offers ≤ most_offers → 33 ≤ length roll.offers + turns → enter_each T roll texts ≡ Ok after →
      (left : ℕ) × Reached T left (start after) after.offers more (entering T turns (start roll) roll.offers (concat texts ++ more))
  through turns roll [] after more few enough h =
      let e = ok_same {F = RegisterFault} roll after h in
      (turns, subst (λ r. Reached T turns (start r) r.offers more (entering T turns (start roll) roll.offers more)) e (record { few = few; enough = enough; same = refl }))
  through turns roll (text ∷ texts) after more few enough h =
      let b = bind_parts (entered T roll text) (λ next. enter_each T next texts) after h in
      let one = one_through turns roll b.0 text (concat texts ++ more) b.1 enough in
      let others = through one.0 b.0 texts after more one.1.few one.1.enough b.2 in (
        others.0,
        record {
          few = others.1.few;
          enough = others.1.enough;
          same = ap (entering T turns (start roll) roll.offers) (append_assoc text (concat texts) more) ∙ one.1.same ∙ others.1.same;
        },
      )

-- ---- refusals of an entry

kept_err : {X Y F : Type 0} (r : Result X F) (f : X → Y) (fault : F) → (r >>= (λ x. Ok (f x))) ≡ Err fault → r ≡ Err fault
kept_err (Ok x) f fault h = absurd (ok_not_err (f x) fault h)
kept_err (Err g) f fault h = cc

-- a refusal that has no line
abbrev Stays : {X : Type 0} → ℕ → Result X RegisterFault → Type 0
Stays n r = (fault : RegisterFault) → r ≡ Err fault → later n fault ≡ fault

module _ (n : ℕ) where
  stays_ok : {X : Type 0} (x : X) → Stays n (Ok x)
  stays_ok x fault h = absurd (ok_not_err x fault h)

  stays_err : {X : Type 0} (g : RegisterFault) → later n g ≡ g → Stays {X = X} n (Err g)
  stays_err g e fault h = let same : g ≡ fault = cc in subst (λ f. later n f ≡ f) same e

  stays_then : {Y : Type 0} (r : Result (Unit {0}) RegisterFault) (next : Result Y RegisterFault) → Stays n r → Stays n next → Stays n (r >> next)
  stays_then (Ok tt) next h k = k
  stays_then (Err g) next h k = stays_err g (h g refl)

  stays_must : (b : Bool) (g : RegisterFault) → later n g ≡ g → Stays n (must b g)
  stays_must true g e = stays_ok tt
  stays_must false g e = stays_err g e

  stays_pairs : (t : Option ℕ) → Stays n (no_pairs t)
  stays_pairs None = stays_ok tt
  stays_pairs (Some t) = stays_err (Pairs t) refl

  with_stays : (T : ℕ) (offers : List Offer) (o : Offer) → Stays n (with T offers o)
  with_stays T offers o =
      stays_then (admitted T offers o) _
      (stays_then (must (not (stands o.name o.number offers)) Known) _ (stays_must _ Known refl)
      (stays_then (must (ltb (length offers) most_offers) Full) _ (stays_must _ Full refl)
      (stays_then (no_pairs (crowded T offers o)) _ (stays_pairs _)
      (stays_then (must (leb (breadth o.product (o ∷ offers)) most_volume) Volume) _ (stays_must _ Volume refl)
      (stays_must (leb (count has_block (o ∷ offers)) most_blocks) Blocks refl)))))
      (stays_ok _)

-- ---- the laws

module _ (T : ℕ) where
  -- after sheets that entered a new register
  from_new : (texts : List (List ℕ)) (after : Roll) (more : List ℕ) → enter_each T (new T) texts ≡ Ok after → (left : ℕ) × Reached T left (all_lines after.offers) after.offers more (deposited T 0 (concat texts ++ more))
  from_new texts after more h =
      let r = through T 0 33 (new T) texts after more (omega arith) (omega arith) h in
      (r.0, subst (λ n. Reached T r.0 n after.offers more (deposited T 0 (concat texts ++ more))) (omega arith) r.1)

  pub deposit_enters : DepositEnters T
  deposit_enters texts roll h =
      let r = from_new texts roll [] h in
      ap (deposited T 0) (sym (append-nil (concat texts))) ∙ r.1.same

  last_turn : (left before : ℕ) (offers : List Offer) (text : List ℕ) (result fault : Result (List Offer) RegisterFault) → Reached T left before offers text result → ((turns : ℕ) → entering T (suc turns) before offers text ≡ fault) → result ≡ fault
  last_turn zero before offers text result fault r h = let f = r.few in let e = r.enough in absurd (omega arith)
  last_turn (suc turns) before offers text result fault r h = r.same ∙ h turns

  unread_in_place : (before : ℕ) (text rest : List ℕ) (fault : SheetFault) → Settled rest fault → read T 0 text ≡ Err fault → read T before (text ++ rest) ≡ Err (sheet_later before fault)
  unread_in_place before text rest fault settled h = subst (λ r. Later before rest r (read T before (text ++ rest))) h (read_later before rest T text) settled

  pub deposit_breaks : DepositBreaks T
  deposit_breaks texts roll text fault h some broken =
      let r = from_new texts roll text h in
      let before = all_lines roll.offers in
      let same : read T before text ≡ Err (sheet_later before fault) = ap (read T before) (sym (append-nil text)) ∙ unread_in_place before text [] fault (settled fault) broken in
      last_turn r.0 before roll.offers text _ _ r.1 (λ turns. turn_unread T turns before roll.offers text (sheet_later before fault) some same)
    where
      settled : (fault : SheetFault) → Settled [] fault
      settled (Form l) = refl
      settled (Value l) = tt
      settled (Marks l) = tt
      settled (Order l) = tt
      settled (PartMonth l) = tt

  -- a sheet that is refused alone, and not for its form, is refused while it is read
  alone_refused : (text rest : List ℕ) (fault : SheetFault) → breaks_form (Sheet fault) ≡ false → read_alone T text ≡ Err fault → (read T 0 text ≡ Err fault) × Settled rest fault
  alone_refused text rest fault other h = go (read T 0 text) refl h
    where
      is_form : (b : Bool) (l : ℕ) (o : Offer) → (must b (Form l) >> Ok o) ≡ Err fault → Form l ≡ fault
      is_form true l o h = absurd (ok_not_err {F = SheetFault} o fault h)
      is_form false l o h = cc

      settled : (fault : SheetFault) → breaks_form (Sheet fault) ≡ false → Settled rest fault
      settled (Form l) h = absurd (true≢false h)
      settled (Value l) h = tt
      settled (Marks l) h = tt
      settled (Order l) h = tt
      settled (PartMonth l) h = tt

      go : (r : Result (Offer × List ℕ) SheetFault) → read T 0 text ≡ r → (r >>= (λ s. must (eqb (length s.1) 0) (Form (lines s.0 + 1)) >> Ok s.0)) ≡ Err fault → (read T 0 text ≡ Err fault) × Settled rest fault
      go (Ok s) e h = absurd (true≢false (ap (λ f. breaks_form (Sheet f)) (is_form (eqb (length s.1) 0) (lines s.0 + 1) s.0 h) ∙ other))
      go (Err f) e h = let same : f ≡ fault = cc in (e ∙ ap Err same, settled fault other)

  -- nor is it empty
  alone_some : (text rest : List ℕ) (fault : SheetFault) → breaks_form (Sheet fault) ≡ false → read_alone T text ≡ Err fault → text ++ rest ≡ [] → ⊥
  alone_some [] rest fault other h none = let form : Form 1 ≡ fault = cc in true≢false (ap (λ f. breaks_form (Sheet f)) form ∙ other)
  alone_some (b ∷ text) rest fault other h none = cc

  module _ (roll : Roll) (text rest : List ℕ) (fault : RegisterFault) where
    abbrev placed : List Offer → Roll
    placed offers = record { offers = offers; needs = roll.needs }

    abbrev judged : Result Offer SheetFault → Result Roll RegisterFault
    judged r = of_sheet r >>= (λ o. with T roll.offers o >>= (λ offers. Ok (placed offers)))

    refused_turn : (turns before : ℕ) → breaks_form fault ≡ false → (r : Result Offer SheetFault) → read_alone T text ≡ r → judged r ≡ Err fault → entering T (suc turns) before roll.offers (text ++ rest) ≡ Err (later before fault)
    refused_turn turns before other (Ok o) e h =
        let w = kept_err (with T roll.offers o) placed fault h in
        turn_refused T turns before roll.offers (text ++ rest) rest o fault (in_place T 0 before text rest o e) w ∙ ap Err (sym (with_stays before T roll.offers o fault w))
    refused_turn turns before other (Err f) e h =
        let same : Sheet f ≡ fault = cc in
        let lined = ap breaks_form same ∙ other in
        let a = alone_refused text rest f lined e in
        turn_unread T turns before roll.offers (text ++ rest) (sheet_later before f) (alone_some text rest f lined e) (unread_in_place before text rest f a.1 a.0) ∙ ap (λ g. Err (later before g)) same

  pub deposit_refuses : DepositRefuses T
  deposit_refuses texts roll text fault rest h refused other =
      let r = from_new texts roll (text ++ rest) h in
      let before = all_lines roll.offers in
      last_turn r.0 before roll.offers (text ++ rest) _ _ r.1 (λ turns. refused_turn roll text rest fault turns before other (read_alone T text) refl refused)
