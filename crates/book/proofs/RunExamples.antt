-- A run of six calls in a month of two periods, one after it, and the law of that run.
use Rattle.std.proofs.Common.{◌≡◌, ℕ, zero, suc, ◌+◌, ◌<◌, ◌≤◌, Bool, true, false, cond, eqb, List, [], ◌∷◌, is_some, Some, None, codes, unwrap_or, refl, subst, arith, lit<}
use mathlib.Core.Bool.{false≢true}
use Rattle.std.specs.Fmt.{digits}
use Rattle.sheet.specs.Offer.{Offer, total}
use Rattle.sheet.specs.Saved.{written}
use Rattle.sheet.specs.declared.product.Product.TheVariants.{Rapid}
use Rattle.book.specs.Limits.{is, row}
use Rattle.book.specs.Needs.{no_need, need_of}
use Rattle.book.specs.Roll.{Roll, new}
use Rattle.book.specs.Step.{Call, enter, amend, withdraw, need, save, Answer, accepted, refusal, text_saved}
use Rattle.book.specs.Runs.{entry, amendment, need_set, history, last_need, Runs, RunLaw, AnsweredAfter}

abbrev offer : (price : ℕ) → Offer
offer price = record {
  name = codes "A";
  number = 1;
  floor = 10;
  product = Rapid;
  observed = false;
  short = false;
  widths = 10 ∷ [];
  rows = Some (price ∷ []) ∷ None ∷ [];
  block = None;
}

abbrev days : List ℕ
days = 5 ∷ 2 ∷ []

abbrev calls : List Call
calls =
    enter (written (offer 9000))
    ∷ enter (written (offer 8000))
    ∷ need 1 20 0
    ∷ save (codes "A") 1 10
    ∷ amend (written (offer 8500))
    ∷ withdraw (codes "A") 2
    ∷ []

abbrev answers : List Answer
answers = accepted ∷ refusal (6, 0) ∷ accepted ∷ refusal (13, 0) ∷ accepted ∷ refusal (7, 0) ∷ []

abbrev roll : List Offer → ℕ → Roll
roll offers rr = record { offers = offers; needs = record { rapid = rr; complementary = 0 } ∷ no_need ∷ [] }

run : Runs days (new 2) calls answers (roll (offer 8500 ∷ []) 20)
unfolding digits
run = (
  roll (offer 9000 ∷ []) 0,
  (refl, refl),
  (
    roll (offer 9000 ∷ []) 0,
    (refl, refl),
    (
      roll (offer 9000 ∷ []) 20,
      (refl, refl),
      (
        roll (offer 9000 ∷ []) 20,
        (refl, refl),
        (roll (offer 8500 ∷ []) 20, (refl, refl), (roll (offer 8500 ∷ []) 20, (refl, refl), refl)),
      ),
    ),
  ),
)

past : history 2 calls answers ≡ entry (offer 9000) ∷ need_set 1 (record { rapid = 20; complementary = 0 }) ∷ amendment (offer 8500) ∷ []
unfolding digits
past = refl

-- the law holds of it: one offer stands, with its amended sheet
law : RunLaw days (history 2 calls answers) (roll (offer 8500 ∷ []) 20)
unfolding digits
law = record {
  stands_if = λ name number. there (is name number (offer 9000));
  only_if = λ name number. back (is name number (offer 9000));
  once = λ name number. one (is name number (offer 9000));
  last_accepted = (refl, tt);
  replayed = refl;
  last_needed = needs;
}
  where
    there : (b : Bool) → 0 < cond b 1 0 + 0 → is_some (cond b (Some (offer 8500)) None) ≡ true
    there true h = refl
    there false h = absurd (omega arith)

    back : (b : Bool) → is_some (cond b (Some (offer 8500)) None) ≡ true → 0 < cond b 1 0 + 0
    back true h = lit< tt
    back false h = absurd (false≢true h)

    one : (b : Bool) → cond b 1 0 + 0 ≤ 1
    one true = omega arith
    one false = omega arith

    needs : (t : ℕ) → (1 ≤ t) × (t ≤ 2) → need_of (roll (offer 8500 ∷ []) 20).needs t ≡ unwrap_or (last_need t (history 2 calls answers)) no_need
    needs zero h = absurd (omega arith)
    needs (suc zero) h = refl
    needs (suc (suc zero)) h = refl
    needs (suc (suc (suc t))) h = absurd (omega arith)

-- and not of a roll that stored nothing
stored : RunLaw days (history 2 calls answers) (roll [] 20) → ⊥
unfolding digits
stored l = subst (λ b. cond b ⊥ (Unit {0})) (l.stands_if (codes "A") 1 (lit< tt)) tt

-- nor of one that kept the first sheet
amended : RunLaw days (history 2 calls answers) (roll (offer 9000 ∷ []) 20) → ⊥
unfolding digits
amended l = subst (λ o. cond (eqb (total (row (unwrap_or o (offer 0)) 1)) 8500) (Unit {0}) ⊥) l.last_accepted.0 tt

-- a save after it
after : AnsweredAfter days calls (save (codes "A") 1 90) (text_saved (written (offer 8500))) (roll (offer 8500 ∷ []) 20)
unfolding digits
after = record { answers = answers; roll = roll (offer 8500 ∷ []) 20; run = run; law = law; answered = (refl, refl); law_after = law }
