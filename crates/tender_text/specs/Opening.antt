-- The first lines of a tender's text, and the calendar that they open. Assumes nothing.
use Rattle.std.specs.Prelude.{ℕ, List, Ok, Err, Result, slice_index_or}
use Rattle.std.specs.Borrow.{Bor}
use Rattle.std.specs.Option.{ok_or}
use Rattle.text.specs.Form.{whole, line_of}
use Rattle.text.specs.Judging.{◌>>=◌, ◌>>◌, must}
use Rattle.text.specs.Lines.{Values, values_of}
use Rattle.calendar.specs.Month.{day_counts}
use Rattle.calendar.specs.Opening.{announced, opened}
use Rattle.calendar.specs.declared.fault.CalendarFault.{CalendarFault}
use Rattle.calendar.specs.declared.fault.CalendarFault.TheVariants.{Date}
use Rattle.calendar.specs.declared.month.Calendar.{Calendar as Periods}
use Rattle.tender_text.specs.declared.fault.TenderFault.{TenderFault}
use Rattle.tender_text.specs.declared.fault.TenderFault.TheVariants.{Form, Calendar}
use Rattle.tender_text.specs.declared.opening.FirstLines.{FirstLines}

-- what the first two lines tell, and what follows them
pub record Told : Type 0 where
  pub year : ℕ
  pub month : ℕ
  pub holidays : List ℕ
  pub rest : List ℕ

-- a line of so many whole numbers, and what follows it
abbrev pub numbers : (line count : ℕ) → List ℕ → Result (List ℕ × List ℕ) TenderFault
numbers line count text = ok_or (line_of whole count text) (Form line)

-- line 1 has the year, the month and the number of holidays, line 2 the holidays.
-- What line 1 tells of the date is judged before line 2 is looked at.
abbrev pub first_lines : List ℕ → Result Told TenderFault
first_lines text = do
  (head, rest) ← numbers 1 3 text
  let year = slice_index_or head 0 0 in let month = slice_index_or head 1 0 in let count = slice_index_or head 2 0 in do
    must (announced year month count) (Calendar Date)
    (holidays, rest') ← numbers 2 count rest
    Ok (record { year = year; month = month; holidays = holidays; rest = rest' })

-- a calendar's refusal reaches the reader of the text whole
abbrev pub by_calendar : {X : Type 0} → Result X CalendarFault → Result X TenderFault
by_calendar (Ok x) = Ok x
by_calendar (Err fault) = Err (Calendar fault)

-- the day counts of the periods of the month that the text tells of
abbrev pub month_told : Told → Result (List ℕ) TenderFault
month_told told = by_calendar (opened told.year told.month told.holidays)

abbrev pub month_of : List ℕ → Result (List ℕ) TenderFault
month_of text = first_lines text >>= month_told

-- ---- what the code answers, by its meaning

abbrev pub numbers_read : Result (Values × Bor (List ℕ)) TenderFault → Result (List ℕ × List ℕ) TenderFault
numbers_read (Ok (values, rest)) = Ok (values_of values, rest.now)
numbers_read (Err fault) = Err fault

abbrev pub told : FirstLines → Told
told lines = record { year = lines.year; month = lines.month; holidays = values_of lines.holidays; rest = lines.rest.now }

abbrev pub lines_read : Result FirstLines TenderFault → Result Told TenderFault
lines_read (Ok lines) = Ok (told lines)
lines_read (Err fault) = Err fault

abbrev pub month_read : Result Periods TenderFault → Result (List ℕ) TenderFault
month_read (Ok calendar) = Ok (day_counts calendar)
month_read (Err fault) = Err fault
