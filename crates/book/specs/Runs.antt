-- Runs of calls, what their history says, and the law over runs. Assumes nothing.
use Rattle.std.specs.Prelude.{◌≡◌, ℕ, ◌<◌, ◌≤◌, Bool, true, false, cond, List, [], ◌∷◌, ◌++◌, length, Some, None, Ok, Err, Option, Result, ◌==◌}
use Rattle.std.specs.Option.{unwrap_or, option_or}
use Rattle.std.specs.List.{AllByRecursion}
use Rattle.sheet.specs.Offer.{Offer, total}
use Rattle.sheet.specs.Sheet.{read_alone}
use Rattle.sheet.specs.declared.fault.SheetFault.{SheetFault}
use Rattle.book.specs.Limits.{same, is, count, InMonth, Limits}
use Rattle.book.specs.Needs.{no_need, need_of}
use Rattle.book.specs.Roll.{Roll, new, stands, others, replaced}
use Rattle.book.specs.Step.{Call, enter, amend, withdraw, need, save, Answer, accepted, refusal, text_saved, Step}
use Rattle.book.specs.declared.need.Need.{Need}

-- ---- the history of a run: what was entered, amended, withdrawn and needed, in turn

pub data Event : Type 0 where
  entry : Offer → Event
  amendment : Offer → Event
  withdrawal : (name : List ℕ) (number : ℕ) → Event
  need_set : (t : ℕ) → Need → Event

-- what a text brings, read as a sheet alone
abbrev pub from_sheet : (Offer → Event) → Result Offer SheetFault → List Event
from_sheet event (Ok o) = event o ∷ []
from_sheet event (Err fault) = []

abbrev pub events : (T : ℕ) → Call → List Event
events T (enter text) = from_sheet entry (read_alone T text)
events T (amend text) = from_sheet amendment (read_alone T text)
events T (withdraw name number) = withdrawal name number ∷ []
events T (need t rr rc) = need_set t (record { rapid = rr; complementary = rc }) ∷ []
events T (save name number room) = []

-- only an accepted call counts
abbrev pub if_accepted : Answer → List Event → List Event
if_accepted accepted happened = happened
if_accepted (refusal n) happened = []
if_accepted (text_saved text) happened = []

abbrev pub history : (T : ℕ) → List Call → List Answer → List Event
history T [] answers = []
history T (c ∷ calls) [] = []
history T (c ∷ calls) (a ∷ answers) = if_accepted a (events T c) ++ history T calls answers

module _ (name : List ℕ) (number : ℕ) where
  abbrev pub is_entry : Event → Bool
  is_entry (entry o) = is name number o
  is_entry (amendment o) = false
  is_entry (withdrawal n k) = false
  is_entry (need_set t n) = false

  abbrev pub is_withdrawal : Event → Bool
  is_withdrawal (entry o) = false
  is_withdrawal (amendment o) = false
  is_withdrawal (withdrawal n k) = same name number n k
  is_withdrawal (need_set t n) = false

  abbrev pub sheet_in : Event → Option Offer
  sheet_in (entry o) = cond (is name number o) (Some o) None
  sheet_in (amendment o) = cond (is name number o) (Some o) None
  sheet_in (withdrawal n k) = None
  sheet_in (need_set t n) = None

  -- the sheet last entered or amended
  abbrev pub last_sheet : List Event → Option Offer
  last_sheet [] = None
  last_sheet (e ∷ es) = option_or (last_sheet es) (sheet_in e)

abbrev pub need_in : (t : ℕ) → Event → Option Need
need_in t (entry o) = None
need_in t (amendment o) = None
need_in t (withdrawal name number) = None
need_in t (need_set u n) = cond (u == t) (Some n) None

abbrev pub last_need : (t : ℕ) → List Event → Option Need
last_need t [] = None
last_need t (e ∷ es) = option_or (last_need t es) (need_in t e)

-- the offers that a history leaves, in order: an entry goes to the end, an amended offer keeps its place
abbrev pub replay : List Event → List Offer → List Offer
replay [] offers = offers
replay (entry o ∷ es) offers = replay es (offers ++ (o ∷ []))
replay (amendment o ∷ es) offers = replay es (replaced o offers)
replay (withdrawal name number ∷ es) offers = replay es (others name number offers)
replay (need_set t n ∷ es) offers = replay es offers

-- ---- the law

-- what a run on a new roll leaves, by its history
pub record RunLaw (days : List ℕ) (past : List Event) (roll : Roll) : Type 0 where
  -- an offer stands exactly if its accepted entries outnumber its accepted withdrawals
  pub stands_if : (name : List ℕ) (number : ℕ) → count (is_withdrawal name number) past < count (is_entry name number) past → stands name number roll.offers ≡ true
  pub only_if : (name : List ℕ) (number : ℕ) → stands name number roll.offers ≡ true → count (is_withdrawal name number) past < count (is_entry name number) past
  -- it stands once
  pub once : (name : List ℕ) (number : ℕ) → count (is name number) roll.offers ≤ 1
  -- it has the sheet last accepted for it
  pub last_accepted : AllByRecursion (λ o. last_sheet o.name o.number past ≡ Some o) roll.offers
  -- the offers stand in the order of their last entries: the list is the history replayed
  pub replayed : roll.offers ≡ replay past []
  -- each need is the last accepted, or 0 before any
  pub last_needed : (t : ℕ) → InMonth days t → need_of roll.needs t ≡ unwrap_or (last_need t past) no_need

module _ (days : List ℕ) where
  abbrev pub Runs : Roll → List Call → List Answer → Roll → Type 0
  Runs roll [] [] after = after ≡ roll
  Runs roll [] (a ∷ answers) after = ⊥
  Runs roll (c ∷ calls) [] after = ⊥
  Runs roll (c ∷ calls) (a ∷ answers) after = (next : Roll) × Step (length days) roll c a next × Runs next calls answers after

  abbrev pub LawOverRuns : Type 0
  LawOverRuns = (calls : List Call) (answers : List Answer) (roll : Roll) → Runs (new (length days)) calls answers roll → RunLaw days (history (length days) calls answers) roll

  -- the limits of a book hold of what stands
  abbrev pub LimitsKept : Type 0
  LimitsKept = (calls : List Call) (answers : List Answer) (roll : Roll) → length days ≤ 11 → total days ≤ 31 → Runs (new (length days)) calls answers roll → Limits days roll.offers

  -- what a call after others on a new register must ensure: the roll's own answer, and the law before and after it
  pub record AnsweredAfter (calls : List Call) (next : Call) (answer : Answer) (after : Roll) : Type 0 where
    pub answers : List Answer
    pub roll : Roll
    pub run : Runs (new (length days)) calls answers roll
    pub law : RunLaw days (history (length days) calls answers) roll
    pub answered : Step (length days) roll next answer after
    pub law_after : RunLaw days (history (length days) (calls ++ (next ∷ [])) (answers ++ (answer ∷ []))) after

  -- a run and one step after it
  abbrev pub NextAnswered : Type 0
  NextAnswered =
      (calls : List Call) (answers : List Answer) (roll : Roll) → Runs (new (length days)) calls answers roll →
      (next : Call) (answer : Answer) (after : Roll) → Step (length days) roll next answer after → AnsweredAfter calls next answer after

  -- the calls alone say what is answered and what is left
  abbrev pub OneRun : Type 0
  OneRun = (start : Roll) (calls : List Call) (a b : List Answer) (after later : Roll) → Runs start calls a after → Runs start calls b later → (a ≡ b) × (after ≡ later)
