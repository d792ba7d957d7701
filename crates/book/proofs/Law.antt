-- The law over runs: an invariant of the past and the roll, kept by every step.
use Rattle.std.proofs.Common.{◌≡◌, ℕ, ◌+◌, ◌-◌, ◌<◌, ◌≤◌, Bool, true, false, cond, not, eqb, List, [], ◌∷◌, ◌++◌, length, get_or, set, Some, None, Option, unwrap_or, sym, refl, ap, ◌∙◌, subst, inl, inr, append_assoc, append-nil, arith}
use Rattle.std.proofs.lemmas.Bool.{eqb-true, eqb-false}
use Rattle.std.proofs.lemmas.List.{length-set, length-replicate, get_or-replicate, get_or-set_same, get_or-set_other}
use Rattle.std.proofs.ByRecursion.{All-push, All-map, all_kept_by, All-weaker}
use Rattle.std.specs.Option.{option_or}
use Rattle.std.specs.List.{AllByRecursion}
use Rattle.sheet.specs.Offer.{Offer}
use Rattle.book.specs.Limits.{same, is, count, InMonth}
use Rattle.book.specs.Needs.{no_need, need_of}
use Rattle.book.specs.Roll.{Roll, new, stands, others, replaced, entered, amended, withdrawn, needed}
use Rattle.book.specs.Step.{Call, enter, amend, withdraw, need, save, Answer, accepted, refusal, text_saved, Step}
use Rattle.book.specs.Runs.{Event, entry, amendment, withdrawal, need_set, from_sheet, events, if_accepted, history, is_entry, is_withdrawal, sheet_in, last_sheet, need_in, last_need, replay, RunLaw, Runs, LawOverRuns, NextAnswered}
use Rattle.book.specs.declared.need.Need.{Need}
use Rattle.book.proofs.Known.{same_parts, same_itself, is_other, is_back, count_stands, stands_count, none_counted, none_is, others_count}
use Rattle.book.proofs.Parts.{changed_parts, entered_parts, amended_parts, withdrawn_parts, needed_parts}
use Rattle.book.proofs.Sums.{sum_push, sum_same, sum_kept}

-- ---- one more event

or_assoc : {X : Type 0} (a b c : Option X) → option_or (option_or a b) c ≡ option_or a (option_or b c)
or_assoc None b c = refl
or_assoc (Some x) b c = refl

or_none : {X : Type 0} (a : Option X) → a ≡ option_or a None
or_none None = refl
or_none (Some x) = refl

last_sheet_push : (name : List ℕ) (number : ℕ) (past : List Event) (e : Event) → last_sheet name number (past ++ (e ∷ [])) ≡ option_or (sheet_in name number e) (last_sheet name number past)
last_sheet_push name number [] e = or_none (sheet_in name number e)
last_sheet_push name number (x ∷ past) e =
    ap (λ a. option_or a (sheet_in name number x)) (last_sheet_push name number past e) ∙ or_assoc (sheet_in name number e) (last_sheet name number past) (sheet_in name number x)

last_need_push : (t : ℕ) (past : List Event) (e : Event) → last_need t (past ++ (e ∷ [])) ≡ option_or (need_in t e) (last_need t past)
last_need_push t [] e = or_none (need_in t e)
last_need_push t (x ∷ past) e =
    ap (λ a. option_or a (need_in t x)) (last_need_push t past e) ∙ or_assoc (need_in t e) (last_need t past) (need_in t x)

-- what is replayed after what came before
replay_more : (past more : List Event) (offers : List Offer) → replay (past ++ more) offers ≡ replay more (replay past offers)
replay_more [] more offers = refl
replay_more (entry o ∷ past) more offers = replay_more past more (offers ++ (o ∷ []))
replay_more (amendment o ∷ past) more offers = replay_more past more (replaced o offers)
replay_more (withdrawal name number ∷ past) more offers = replay_more past more (others name number offers)
replay_more (need_set t n ∷ past) more offers = replay_more past more offers

abbrev is_count : (name : List ℕ) (number : ℕ) → Offer → ℕ
is_count name number x = cond (is name number x) 1 0

abbrev entry_count : (name : List ℕ) (number : ℕ) → Event → ℕ
entry_count name number x = cond (is_entry name number x) 1 0

abbrev withdrawal_count : (name : List ℕ) (number : ℕ) → Event → ℕ
withdrawal_count name number x = cond (is_withdrawal name number x) 1 0

abbrev amended_one : Offer → Offer → Offer
amended_one o old = cond (is o.name o.number old) o old

pub same_one : (o : Offer) (name : List ℕ) (number : ℕ) (x : Offer) → is_count name number (amended_one o x) ≡ is_count name number x
same_one o name number x = go (is o.name o.number x) (λ e. is_other name number o.name o.number x e)
  where
    go : (b : Bool) → (b ≡ true → is name number x ≡ is name number o) → is_count name number (cond b o x) ≡ is_count name number x
    go true e = ap (λ (b : Bool). cond b 1 0) (sym (e refl))
    go false e = refl

-- ---- each identifier stands once

pub once_pushed : (offers : List Offer) (o : Offer) → ((name : List ℕ) (number : ℕ) → count (is name number) offers ≤ 1) → stands o.name o.number offers ≡ false →
    (name : List ℕ) (number : ℕ) → count (is name number) (offers ++ (o ∷ [])) ≤ 1
once_pushed offers o apart out name number = go (is name number o) refl
  where
    go : (b : Bool) → is name number o ≡ b → count (is name number) (offers ++ (o ∷ [])) ≤ 1
    go true h =
        let p = same_parts name number o.name o.number h in
        let z : count (is name number) offers ≡ 0 = ap (λ n. count (is n number) offers) (sym p.0) ∙ ap (λ m. count (is o.name m) offers) (sym p.1) ∙ none_counted o.name o.number offers out in
        let c = sum_push (is_count name number) offers o ∙ ap (λ (b : Bool). cond b 1 0 + count (is name number) offers) h in
        omega arith
    go false h =
        let c = sum_push (is_count name number) offers o ∙ ap (λ (b : Bool). cond b 1 0 + count (is name number) offers) h in
        let a = apart name number in
        omega arith

pub once_replaced : (offers : List Offer) (o : Offer) → ((name : List ℕ) (number : ℕ) → count (is name number) offers ≤ 1) → (name : List ℕ) (number : ℕ) → count (is name number) (replaced o offers) ≤ 1
once_replaced offers o apart name number =
    let c = sum_same (is_count name number) (amended_one o) (same_one o name number) offers in
    let a = apart name number in
    omega arith

-- ---- the invariant

pub record Kept (days : List ℕ) (past : List Event) (roll : Roll) : Type 0 where
  pub balance : (name : List ℕ) (number : ℕ) → count (is_withdrawal name number) past + count (is name number) roll.offers ≡ count (is_entry name number) past
  pub apart : (name : List ℕ) (number : ℕ) → count (is name number) roll.offers ≤ 1
  pub last : AllByRecursion (λ o. last_sheet o.name o.number past ≡ Some o) roll.offers
  pub again : roll.offers ≡ replay past []
  pub whole : length roll.needs ≡ length days
  pub needed_last : (t : ℕ) → InMonth days t → need_of roll.needs t ≡ unwrap_or (last_need t past) no_need

module _ (days : List ℕ) where
  -- at the start
  pub kept_new : Kept days [] (new (length days))
  kept_new = record {
    balance = λ name number. refl;
    apart = λ name number. omega arith;
    last = tt;
    again = refl;
    whole = length-replicate (length days) no_need;
    needed_last = λ t h. get_or-replicate (length days) (t - 1) no_need no_need (omega arith);
  }

  module _ (past : List Event) (roll : Roll) (k : Kept days past roll) where
    -- an event that sets no need leaves them
    same_needs : (e : Event) → ((t : ℕ) → need_in t e ≡ None) → (t : ℕ) → InMonth days t → need_of roll.needs t ≡ unwrap_or (last_need t (past ++ (e ∷ []))) no_need
    same_needs e none t h = k.needed_last t h ∙ sym (ap (λ o. unwrap_or o no_need) (last_need_push t past e ∙ ap (λ o. option_or o (last_need t past)) (none t)))

    -- an offer whose identifier the event does not name keeps its sheet
    same_sheet : (e : Event) (o : Offer) → sheet_in o.name o.number e ≡ None → last_sheet o.name o.number past ≡ Some o → last_sheet o.name o.number (past ++ (e ∷ [])) ≡ Some o
    same_sheet e o none h = last_sheet_push o.name o.number past e ∙ ap (λ a. option_or a (last_sheet o.name o.number past)) none ∙ h

    new_sheet : (e : Event) (o : Offer) → sheet_in o.name o.number e ≡ Some o → last_sheet o.name o.number (past ++ (e ∷ [])) ≡ Some o
    new_sheet e o some = last_sheet_push o.name o.number past e ∙ ap (λ a. option_or a (last_sheet o.name o.number past)) some

    of_itself : (o : Offer) → cond (is o.name o.number o) (Some o) None ≡ Some o
    of_itself o = ap (λ (b : Bool). cond b (Some o) None) (same_itself o.name o.number)

    of_another : (o x : Offer) → is o.name o.number x ≡ false → cond (is x.name x.number o) (Some o) None ≡ None
    of_another o x h = ap (λ (b : Bool). cond b (Some o) None) (is_back o x h)

    -- the list is replayed with one more event
    again_more : (e : Event) (offers : List Offer) → offers ≡ replay (e ∷ []) roll.offers → offers ≡ replay (past ++ (e ∷ [])) []
    again_more e offers h = h ∙ ap (replay (e ∷ [])) k.again ∙ sym (replay_more past (e ∷ []) [])

    kept_entry : (o : Offer) → stands o.name o.number roll.offers ≡ false → Kept days (past ++ (entry o ∷ [])) (record { offers = roll.offers ++ (o ∷ []); needs = roll.needs })
    kept_entry o out = record {
      balance = λ name number.
          let b = k.balance name number in
          let c = sum_push (is_count name number) roll.offers o in
          let w = sum_push (withdrawal_count name number) past (entry o) in
          let e = sum_push (entry_count name number) past (entry o) in
          omega arith;
      apart = once_pushed roll.offers o k.apart out;
      last = All-push (λ x. last_sheet x.name x.number (past ++ (entry o ∷ [])) ≡ Some x) roll.offers o (olds roll.offers k.last (none_is o.name o.number roll.offers out)) (new_sheet (entry o) o (of_itself o));
      again = again_more (entry o) _ refl;
      whole = k.whole;
      needed_last = same_needs (entry o) (λ t. refl);
    }
      where
        olds : (xs : List Offer) → AllByRecursion (λ x. last_sheet x.name x.number past ≡ Some x) xs → AllByRecursion (λ x. is o.name o.number x ≡ false) xs → AllByRecursion (λ x. last_sheet x.name x.number (past ++ (entry o ∷ [])) ≡ Some x) xs
        olds [] l n = tt
        olds (x ∷ xs) l n = (same_sheet (entry o) x (of_another o x n.0) l.0, olds xs l.1 n.1)

    kept_amendment : (o : Offer) → Kept days (past ++ (amendment o ∷ [])) (record { offers = replaced o roll.offers; needs = roll.needs })
    kept_amendment o = record {
      balance = λ name number.
          let b = k.balance name number in
          let c = sum_same (is_count name number) (amended_one o) (same_one o name number) roll.offers in
          let w = sum_push (withdrawal_count name number) past (amendment o) in
          let e = sum_push (entry_count name number) past (amendment o) in
          omega arith;
      apart = once_replaced roll.offers o k.apart;
      last = All-map (λ x. last_sheet x.name x.number (past ++ (amendment o ∷ [])) ≡ Some x) (amended_one o) roll.offers (All-weaker (λ x. last_sheet x.name x.number past ≡ Some x) _ (λ x l. sheet x (is o.name o.number x) refl l) roll.offers k.last);
      again = again_more (amendment o) _ refl;
      whole = k.whole;
      needed_last = same_needs (amendment o) (λ t. refl);
    }
      where
        sheet : (x : Offer) (b : Bool) → is o.name o.number x ≡ b → last_sheet x.name x.number past ≡ Some x →
            last_sheet (amended_one o x).name (amended_one o x).number (past ++ (amendment o ∷ [])) ≡ Some (amended_one o x)
        sheet x true h l = subst (λ (b : Bool). last_sheet (cond b o x).name (cond b o x).number (past ++ (amendment o ∷ [])) ≡ Some (cond b o x)) (sym h) (new_sheet (amendment o) o (of_itself o))
        sheet x false h l = subst (λ (b : Bool). last_sheet (cond b o x).name (cond b o x).number (past ++ (amendment o ∷ [])) ≡ Some (cond b o x)) (sym h) (same_sheet (amendment o) x (of_another o x h) l)

    kept_withdrawal : (n : List ℕ) (m : ℕ) → stands n m roll.offers ≡ true → Kept days (past ++ (withdrawal n m ∷ [])) (record { offers = others n m roll.offers; needs = roll.needs })
    kept_withdrawal n m known = record {
      balance = λ name number.
          let b = k.balance name number in
          let c = others_count n m name number roll.offers in
          let w = sum_push (withdrawal_count name number) past (withdrawal n m) in
          let e = sum_push (entry_count name number) past (withdrawal n m) in
          let one = ap (λ v. cond (same name number n m) v 0) once in
          omega arith;
      apart = λ name number. let c = sum_kept (is_count name number) (λ o. not (is n m o)) roll.offers in let a = k.apart name number in omega arith;
      last = All-weaker (λ x. last_sheet x.name x.number past ≡ Some x) _ (λ x l. same_sheet (withdrawal n m) x refl l) (others n m roll.offers) (all_kept_by (λ o. not (is n m o)) _ roll.offers k.last);
      again = again_more (withdrawal n m) _ refl;
      whole = k.whole;
      needed_last = same_needs (withdrawal n m) (λ t. refl);
    }
      where
        once : count (is n m) roll.offers ≡ 1
        once = let a = k.apart n m in let c = count_stands n m roll.offers known in omega arith

    kept_need : (u : ℕ) (wanted : Need) → 1 ≤ u → u ≤ length days → Kept days (past ++ (need_set u wanted ∷ [])) (record { offers = roll.offers; needs = set roll.needs (u - 1) wanted })
    kept_need u wanted low high = record {
      balance = λ name number.
          let b = k.balance name number in
          let w = sum_push (withdrawal_count name number) past (need_set u wanted) in
          let e = sum_push (entry_count name number) past (need_set u wanted) in
          omega arith;
      apart = k.apart;
      last = All-weaker (λ x. last_sheet x.name x.number past ≡ Some x) _ (λ x l. same_sheet (need_set u wanted) x refl l) roll.offers k.last;
      again = again_more (need_set u wanted) _ refl;
      whole = length-set roll.needs (u - 1) wanted ∙ k.whole;
      needed_last = λ t h. at t h (eqb u t) refl;
    }
      where
        at : (t : ℕ) → InMonth days t → (b : Bool) → eqb u t ≡ b → need_of (set roll.needs (u - 1) wanted) t ≡ unwrap_or (last_need t (past ++ (need_set u wanted ∷ []))) no_need
        at t h true e =
            let same_t = eqb-true u t e in
            let l : u - 1 < length roll.needs = omega (arith, k.whole) in
            ap (λ i. get_or (set roll.needs (u - 1) wanted) (i - 1) no_need) (sym same_t)
            ∙ get_or-set_same roll.needs (u - 1) wanted no_need l
            ∙ sym (ap (λ o. unwrap_or o no_need) (last_need_push t past (need_set u wanted) ∙ ap (λ (b : Bool). option_or (cond b (Some wanted) None) (last_need t past)) e))
        at t h false e =
            let other_t = eqb-false u t e in
            get_or-set_other roll.needs (u - 1) (t - 1) wanted no_need (λ s. other_t (omega arith))
            ∙ k.needed_last t h
            ∙ sym (ap (λ o. unwrap_or o no_need) (last_need_push t past (need_set u wanted) ∙ ap (λ (b : Bool). option_or (cond b (Some wanted) None) (last_need t past)) e))

    -- ---- a step

    kept_nothing : (after : Roll) (happened : List Event) → after ≡ roll → happened ≡ [] → Kept days (past ++ happened) after
    kept_nothing after happened e none = subst (Kept days (past ++ happened)) (sym e) (subst (λ h. Kept days (past ++ h) roll) (sym none) (subst (λ h. Kept days h roll) (sym (append-nil past)) k))

    kept_event : (after made : Roll) (happened : List Event) (e : Event) → after ≡ made → happened ≡ e ∷ [] → Kept days (past ++ (e ∷ [])) made → Kept days (past ++ happened) after
    kept_event after made happened e same_roll one h = subst (Kept days (past ++ happened)) (sym same_roll) (subst (λ hs. Kept days (past ++ hs) made) (sym one) h)

    none_refused : (a : Answer) (n : ℕ × ℕ) (happened : List Event) → a ≡ refusal n → if_accepted a happened ≡ []
    none_refused a n happened e = ap (λ x. if_accepted x happened) e

    all_accepted : (a : Answer) (happened : List Event) → a ≡ accepted → if_accepted a happened ≡ happened
    all_accepted a happened e = ap (λ x. if_accepted x happened) e

    if_none : (a : Answer) → if_accepted a [] ≡ []
    if_none accepted = refl
    if_none (refusal n) = refl
    if_none (text_saved text) = refl

    pub kept_step : (c : Call) (a : Answer) (after : Roll) → Step (length days) roll c a after → Kept days (past ++ if_accepted a (events (length days) c)) after
    kept_step (enter text) a after h = elim (changed_parts (entered (length days) roll text) roll a after h) [
      | inl s ↦
          let p = entered_parts (length days) roll text after s.0 in
          kept_event after _ _ (entry p.offer) p.made (all_accepted a _ s.1 ∙ ap (from_sheet entry) p.sheet) (kept_entry p.offer p.enters.new_one)
      | inr s ↦ kept_nothing after _ s.2 (none_refused a _ _ s.1)
    ]
    kept_step (amend text) a after h = elim (changed_parts (amended (length days) roll text) roll a after h) [
      | inl s ↦
          let p = amended_parts (length days) roll text after s.0 in
          kept_event after _ _ (amendment p.offer) p.made (all_accepted a _ s.1 ∙ ap (from_sheet amendment) p.sheet) (kept_amendment p.offer)
      | inr s ↦ kept_nothing after _ s.2 (none_refused a _ _ s.1)
    ]
    kept_step (withdraw name number) a after h = elim (changed_parts (withdrawn (length days) roll name number) roll a after h) [
      | inl s ↦
          let p = withdrawn_parts (length days) roll name number after s.0 in
          kept_event after _ _ (withdrawal name number) p.1 (all_accepted a _ s.1) (kept_withdrawal name number p.0)
      | inr s ↦ kept_nothing after _ s.2 (none_refused a _ _ s.1)
    ]
    kept_step (need t rr rc) a after h = elim (changed_parts (needed (length days) roll t rr rc) roll a after h) [
      | inl s ↦
          let p = needed_parts (length days) roll t rr rc after s.0 in
          let wanted : Need = record { rapid = rr; complementary = rc } in
          kept_event after _ _ (need_set t wanted) p.2 (all_accepted a _ s.1) (kept_need t wanted p.0 p.1)
      | inr s ↦ kept_nothing after _ s.2 (none_refused a _ _ s.1)
    ]
    kept_step (save name number room) a after h = kept_nothing after _ h.1 (if_none a)

  -- ---- a run

  pub kept_run : (past : List Event) (roll : Roll) → Kept days past roll → (calls : List Call) (answers : List Answer) (after : Roll) → Runs days roll calls answers after → Kept days (past ++ history (length days) calls answers) after
  kept_run past roll k [] [] after h = kept_nothing past roll k after [] h refl
  kept_run past roll k [] (a ∷ answers) after h = absurd h
  kept_run past roll k (c ∷ calls) [] after h = absurd h
  kept_run past roll k (c ∷ calls) (a ∷ answers) after h =
      let one = kept_step past roll k c a h.0 h.1 in
      let more = kept_run (past ++ if_accepted a (events (length days) c)) h.0 one calls answers after h.2 in
      subst (λ p. Kept days p after) (append_assoc past (if_accepted a (events (length days) c)) (history (length days) calls answers)) more

  pub kept_law : (past : List Event) (roll : Roll) → Kept days past roll → RunLaw days past roll
  kept_law past roll k = record {
    stands_if = λ name number h. stands_count name number roll.offers (let b = k.balance name number in omega arith);
    only_if = λ name number h. let b = k.balance name number in let c = count_stands name number roll.offers h in omega arith;
    once = k.apart;
    last_accepted = k.last;
    replayed = k.again;
    last_needed = k.needed_last;
  }

pub law_over_runs : (days : List ℕ) → LawOverRuns days
law_over_runs days calls answers roll h = kept_law days _ roll (kept_run days [] (new (length days)) (kept_new days) calls answers roll h)

-- ---- a run and one step after it

module _ (days : List ℕ) where
  pub runs_push : (start : Roll) (calls : List Call) (answers : List Answer) (roll : Roll) → Runs days start calls answers roll →
      (next : Call) (answer : Answer) (after : Roll) → Step (length days) roll next answer after → Runs days start (calls ++ (next ∷ [])) (answers ++ (answer ∷ [])) after
  runs_push start [] [] roll h next answer after s = (after, subst (λ r. Step (length days) r next answer after) h s, refl)
  runs_push start [] (a ∷ answers) roll h next answer after s = absurd h
  runs_push start (c ∷ calls) [] roll h next answer after s = absurd h
  runs_push start (c ∷ calls) (a ∷ answers) roll h next answer after s = (h.0, h.1, runs_push h.0 calls answers roll h.2 next answer after s)

  pub next_answered : NextAnswered days
  next_answered calls answers roll run next answer after s = record {
    answers = answers;
    roll = roll;
    run = run;
    law = law_over_runs days calls answers roll run;
    answered = s;
    law_after = law_over_runs days (calls ++ (next ∷ [])) (answers ++ (answer ∷ [])) after (runs_push (new (length days)) calls answers roll run next answer after s);
  }
