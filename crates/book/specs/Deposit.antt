-- The deposit: several sheets in one text, which enter a new register in turn. Assumes nothing.
use Rattle.std.specs.Prelude.{◌≡◌, ℕ, zero, suc, ◌+◌, false, List, [], ◌∷◌, ◌++◌, map, Ok, Err, Result, ◌≢◌}
use Rattle.std.specs.List.{concat}
use Rattle.text.specs.Judging.{◌>>=◌}
use Rattle.sheet.specs.Offer.{Offer, total}
use Rattle.sheet.specs.Sheet.{read, lines}
use Rattle.sheet.specs.declared.fault.SheetFault.{SheetFault}
use Rattle.book.specs.Fault.{of_sheet, breaks_form, sheet_later, later}
use Rattle.book.specs.Roll.{Roll, new, with, entered}
use Rattle.book.specs.declared.fault.RegisterFault.{RegisterFault}
use Rattle.book.specs.declared.fault.RegisterFault.TheVariants.{Sheet, Full}

-- the lines of the sheets of these offers
abbrev pub all_lines : List Offer → ℕ
all_lines offers = total (map lines offers)

module _ (T : ℕ) where
  -- the sheets of a text enter in turn, with so many lines before them
  abbrev pub entering : (turns before : ℕ) → List Offer → List ℕ → Result (List Offer) RegisterFault
  entering turns before offers [] = Ok offers
  entering zero before offers (b ∷ text) = Err Full
  entering (suc turns) before offers (b ∷ text) = do
    (o, rest) ← of_sheet (read T before (b ∷ text))
    offers' ← with T offers o
    entering turns (before + lines o) offers' rest

  -- 32 offers stand at most: a 33rd sheet that is no known offer is refused, and no other is read
  abbrev pub deposited : (before : ℕ) → List ℕ → Result (List Offer) RegisterFault
  deposited before text = entering 33 before [] text

  abbrev pub enter_each : Roll → List (List ℕ) → Result Roll RegisterFault
  enter_each roll [] = Ok roll
  enter_each roll (text ∷ texts) = entered T roll text >>= (λ next. enter_each next texts)

  -- sheets that enter a new register one by one make, in one text, a deposit with that register's list
  abbrev pub DepositEnters : Type 0
  DepositEnters = (texts : List (List ℕ)) (roll : Roll) → enter_each (new T) texts ≡ Ok roll → deposited 0 (concat texts) ≡ Ok roll.offers

  -- after such sheets, one that would be refused for anything but its form: the deposit is refused so, whatever follows
  abbrev pub DepositRefuses : Type 0
  DepositRefuses =
      (texts : List (List ℕ)) (roll : Roll) (text : List ℕ) (fault : RegisterFault) (rest : List ℕ) → enter_each (new T) texts ≡ Ok roll → entered T roll text ≡ Err fault → breaks_form fault ≡ false →
      deposited 0 (concat texts ++ (text ++ rest)) ≡ Err (later (all_lines roll.offers) fault)

  -- what follows may mend a broken form, and bytes after a sheet are the next one's: a last text that cannot be read is refused so
  abbrev pub DepositBreaks : Type 0
  DepositBreaks =
      (texts : List (List ℕ)) (roll : Roll) (text : List ℕ) (fault : SheetFault) → enter_each (new T) texts ≡ Ok roll → (text ≢ []) → read T 0 text ≡ Err fault →
      deposited 0 (concat texts ++ text) ≡ Err (Sheet (sheet_later (all_lines roll.offers) fault))
