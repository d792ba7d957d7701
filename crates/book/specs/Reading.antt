-- What the reading of a deposit answers. Assumes nothing.
use Rattle.std.specs.Prelude.{◌≡◌, ℕ, true, List, length, Some, None, Ok, Err, Option, Result}
use Rattle.std.specs.Borrow.{Bor}
use Rattle.std.specs.List.{slice_get}
use Rattle.calendar.specs.Month.{day_counts}
use Rattle.text.specs.Judging.{◌>>=◌}
use Rattle.sheet.specs.Facts.{facts}
use Rattle.sheet.specs.Offer.{Offer}
use Rattle.sheet.specs.Sheet.{read, lines}
use Rattle.sheet.specs.declared.offer.Offer.{Offer as Kept}
use Rattle.book.specs.Fault.{of_sheet}
use Rattle.book.specs.Limits.{Limits}
use Rattle.book.specs.Places.{places_of, all_begin, offers_at}
use Rattle.book.specs.Roll.{with}
use Rattle.book.specs.Table.{days_of as table_days, offers_of}
use Rattle.book.specs.Within.{within_limits}
use Rattle.book.specs.declared.deposit.Deposit.{Deposit}
use Rattle.book.specs.declared.fault.RegisterFault.{RegisterFault}
use Rattle.short_list.specs.declared.list.ShortList.{ShortList}
use Rattle.book.specs.declared.table.Table.{Table}
use Rattle.book.specs.declared.unread.DepositFault.{DepositFault}
use Rattle.book.specs.declared.unread.DepositFault.TheVariants.{Memory, Register}

-- the day count of each period
abbrev pub days_of : Deposit → List ℕ
days_of deposit = day_counts deposit.calendar

-- the offers of its sheets, in order
abbrev pub sheets_of : Deposit → List Offer
sheets_of deposit = offers_at (length (days_of deposit)) deposit.text.now (places_of deposit.starts)

-- the first sheet of a text enters beside these offers: its lines, what follows it, and the offers after
abbrev pub FirstEnters : (T before : ℕ) → List ℕ → List Offer → Result (ℕ × Bor (List ℕ)) RegisterFault → (after : List Offer) → Type 0
FirstEnters T before text offers (Err fault) after = (of_sheet (read T before text) >>= (λ s. with T offers s.0)) ≡ Err fault
FirstEnters T before text offers (Ok told) after = (o : Offer) × (read T before text ≡ Ok (o, told.1.now)) × (with T offers o ≡ Ok after) × (told.0 ≡ lines o)

-- the table that the sheets of a text make, and where they begin
pub record SheetsEntered (days text : List ℕ) (judged : Result (List Offer) RegisterFault) (table : Table) (starts : ShortList ℕ 32) : Type 0 where
  pub judges : judged ≡ Ok (offers_of table)
  pub month : table_days table ≡ days
  pub sheets : all_begin (length days) text (places_of starts) ≡ true
  pub told : offers_at (length days) text (places_of starts) ≡ offers_of table

-- what is made of a text that was judged, or the refusal. Memory may lack at any time
abbrev pub Judged : {X : Type 0} → (judged : Result (List Offer) RegisterFault) → (X → Type 0) → Result X DepositFault → Type 0
Judged judged Made (Err Memory) = Unit {0}
Judged judged Made (Err (Register fault)) = judged ≡ Err fault
Judged judged Made (Ok made) = Made made

abbrev pub SheetsRead : (days text : List ℕ) (judged : Result (List Offer) RegisterFault) → Result (Table × ShortList ℕ 32) DepositFault → Type 0
SheetsRead days text judged = Judged judged (λ entered. SheetsEntered days text judged entered.0 entered.1)

-- a deposit of the list that was judged, under these day counts
abbrev pub Opened : (days : List ℕ) (judged : Result (List Offer) RegisterFault) → Result Deposit DepositFault → Type 0
Opened days judged = Judged judged (λ deposit. (judged ≡ Ok (sheets_of deposit)) × (days_of deposit ≡ days))

-- a deposit is refused as was judged, and the list stays; or the list is the one judged. Memory may lack at any time
abbrev pub Deposited : (judged : Result (List Offer) RegisterFault) (before after : List Offer) → Result (Unit {0}) DepositFault → Type 0
Deposited judged before after (Err Memory) = after ≡ before
Deposited judged before after (Err (Register fault)) = (judged ≡ Err fault) × (after ≡ before)
Deposited judged before after (Ok u) = judged ≡ Ok after

-- the text from the front of sheet i on, counted from 0; none where there is no such sheet
abbrev pub FrontOf : Deposit → (i : ℕ) → Option (Bor (List ℕ)) → Type 0
FrontOf deposit i None = slice_get (sheets_of deposit) i ≡ None
FrontOf deposit i (Some text) = (s : Offer × List ℕ) × (read (length (days_of deposit)) 0 text.now ≡ Ok s) × (slice_get (sheets_of deposit) i ≡ Some s.0)

-- what a sheet that was read says
abbrev pub sheet_told : Option Kept → Option Offer
sheet_told None = None
sheet_told (Some sheet) = Some (facts sheet)

pub deposit_limits : (deposit : Deposit) → Limits (days_of deposit) (sheets_of deposit)
deposit_limits deposit = within_limits (days_of deposit) (sheets_of deposit) deposit.kept
