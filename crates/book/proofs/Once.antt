-- A call on a roll has one answer and leaves one roll; a list of calls has one run.
use Rattle.std.proofs.Common.{◌≡◌, ℕ, List, [], ◌∷◌, length, Ok, Err, Result, sym, refl, ap, ◌∙◌, subst}
use Rattle.book.specs.Roll.{Roll, entered, amended, withdrawn, needed}
use Rattle.book.specs.Step.{enter, amend, withdraw, need, save, Answer, Changed, OneAnswer}
use Rattle.book.specs.Runs.{Runs, OneRun}
use Rattle.book.specs.declared.fault.RegisterFault.{RegisterFault}

one_change : (r : Result Roll RegisterFault) (roll : Roll) (a b : Answer) (after later : Roll) → Changed r roll a after → Changed r roll b later → (a ≡ b) × (after ≡ later)
one_change (Ok next) roll a b after later h k = (h.0 ∙ sym k.0, h.1 ∙ sym k.1)
one_change (Err fault) roll a b after later h k = (h.0 ∙ sym k.0, h.1 ∙ sym k.1)

pub one_answer : (T : ℕ) → OneAnswer T
one_answer T roll (enter text) a b after later h k = one_change (entered T roll text) roll a b after later h k
one_answer T roll (amend text) a b after later h k = one_change (amended T roll text) roll a b after later h k
one_answer T roll (withdraw name number) a b after later h k = one_change (withdrawn T roll name number) roll a b after later h k
one_answer T roll (need t rr rc) a b after later h k = one_change (needed T roll t rr rc) roll a b after later h k
one_answer T roll (save name number room) a b after later h k = (h.0 ∙ sym k.0, h.1 ∙ sym k.1)

pub one_run : (days : List ℕ) → OneRun days
one_run days start [] [] [] after later h k = (refl, h ∙ sym k)
one_run days start [] [] (b ∷ bs) after later h k = absurd k
one_run days start [] (a ∷ as') bs after later h k = absurd h
one_run days start (c ∷ calls) [] bs after later h k = absurd h
one_run days start (c ∷ calls) (a ∷ as') [] after later h k = absurd k
one_run days start (c ∷ calls) (a ∷ as') (b ∷ bs) after later h k =
    let one = one_answer (length days) start c a b h.0 k.0 h.1 k.1 in
    let more = one_run days k.0 calls as' bs after later (subst (λ r. Runs days r calls as' after) one.1 h.2) k.2 in
    (ap (λ x. x ∷ as') one.0 ∙ ap (λ xs. b ∷ xs) more.0, more.1)
