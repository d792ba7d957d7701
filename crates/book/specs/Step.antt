-- The clerk's calls, what each answers and what the roll is after it. Assumes nothing.
use Rattle.std.specs.Prelude.{◌≡◌, ℕ, List, ◌++◌, length, drop, Ok, Err, Result}
use Rattle.book.specs.Fault.{number_and_place}
use Rattle.book.specs.Roll.{Roll, entered, amended, withdrawn, needed, saved}
use Rattle.book.specs.declared.fault.RegisterFault.{RegisterFault}

-- a save names its buffer's length
pub data Call : Type 0 where
  enter : (text : List ℕ) → Call
  amend : (text : List ℕ) → Call
  withdraw : (name : List ℕ) (number : ℕ) → Call
  need : (t rr rc : ℕ) → Call
  save : (name : List ℕ) (number room : ℕ) → Call

pub data Answer : Type 0 where
  accepted : Answer
  -- number and place
  refusal : ℕ × ℕ → Answer
  text_saved : List ℕ → Answer

-- a refused call changes nothing
abbrev pub Changed : Result Roll RegisterFault → Roll → Answer → Roll → Type 0
Changed (Ok next) roll answer after = (answer ≡ accepted) × (after ≡ next)
Changed (Err fault) roll answer after = (answer ≡ refusal (number_and_place fault)) × (after ≡ roll)

abbrev pub of_save : Result (List ℕ) RegisterFault → Answer
of_save (Ok text) = text_saved text
of_save (Err fault) = refusal (number_and_place fault)

-- in a month of T periods, a call on a roll has this answer and leaves that roll
module _ (T : ℕ) where
  abbrev pub Step : Roll → Call → Answer → Roll → Type 0
  Step roll (enter text) answer after = Changed (entered T roll text) roll answer after
  Step roll (amend text) answer after = Changed (amended T roll text) roll answer after
  Step roll (withdraw name number) answer after = Changed (withdrawn T roll name number) roll answer after
  Step roll (need t rr rc) answer after = Changed (needed T roll t rr rc) roll answer after
  Step roll (save name number room) answer after = (answer ≡ of_save (saved T roll name number room)) × (after ≡ roll)

  -- there is one answer and one roll after it
  abbrev pub OneAnswer : Type 0
  OneAnswer = (roll : Roll) (call : Call) (a b : Answer) (after later : Roll) → Step roll call a after → Step roll call b later → (a ≡ b) × (after ≡ later)

-- what a call leaves in the buffer lent to it: a saved text, and no byte past it touched
abbrev pub BufferAfter : Answer → (before after : List ℕ) → Type 0
BufferAfter accepted before after = after ≡ before
BufferAfter (refusal n) before after = after ≡ before
BufferAfter (text_saved text) before after = after ≡ text ++ drop (length text) before
