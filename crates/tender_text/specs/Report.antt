-- What a tender's text tells, and what is printed for it. Assumes nothing.
use Rattle.std.specs.Prelude.{ℕ, ◌+◌, cond, List, [], ◌∷◌, ◌++◌, flat_map, length, Ok, Err, codes, decimal, Result, nat_le}
use Rattle.text.specs.Judging.{◌>>=◌}
use Rattle.text.specs.Written.{line_text}
use Rattle.sheet.specs.Offer.{Offer, width}
use Rattle.sheet.specs.Product.{product_text}
use Rattle.book.specs.Deposit.{deposited}
use Rattle.book.specs.declared.fault.RegisterFault.{RegisterFault}
use Rattle.tender_text.specs.Fault.{number, place}
use Rattle.tender_text.specs.Needs.{need_line}
use Rattle.tender_text.specs.Opening.{first_lines, month_told}
use Rattle.tender_text.specs.declared.fault.TenderFault.{TenderFault}
use Rattle.tender_text.specs.declared.fault.TenderFault.TheVariants.{Register, Space}

-- a tender's text has at most so many bytes
abbrev pub most_bytes : ℕ
most_bytes = 32768

-- what a tender's text tells: the day counts of its periods, the needs of each product, and the offers of its sheets
pub record Tender : Type 0 where
  pub days : List ℕ
  pub rapid : List ℕ
  pub complementary : List ℕ
  pub offers : List Offer

-- a register's refusal reaches the reader of the text whole
abbrev pub by_register : {X : Type 0} → Result X RegisterFault → Result X TenderFault
by_register (Ok x) = Ok x
by_register (Err fault) = Err (Register fault)

-- lines 1 and 2 open the month, lines 3 and 4 have the needs, and the sheets follow as a deposit
abbrev pub tender_of : List ℕ → Result Tender TenderFault
tender_of input = do
  told ← first_lines input
  days ← month_told told
  (rapid, rest) ← need_line 3 (length days) told.rest
  (complementary, sheets) ← need_line 4 (length days) rest
  offers ← by_register (deposited (length days) 4 sheets)
  Ok (record { days = days; rapid = rapid; complementary = complementary; offers = offers })

-- the tender, or the refusal
abbrev pub answered : List ℕ → Result Tender TenderFault
answered input = cond (nat_le (length input) most_bytes) (tender_of input) (Err Space)

-- a row for each period from period t on: its number and its days
abbrev pub period_rows : (t : ℕ) → List ℕ → List ℕ
period_rows t [] = []
period_rows t (days ∷ counts) = line_text (decimal t ∷ decimal days ∷ []) ++ period_rows (t + 1) counts

abbrev pub period_table : List ℕ → List ℕ
period_table counts = line_text (codes "period" ∷ codes "days" ∷ []) ++ period_rows 1 counts

-- an offer's row: its name, its number, its product and its MW
abbrev pub offer_line : Offer → List ℕ
offer_line o = line_text (o.name ∷ decimal o.number ∷ product_text o.product ∷ decimal (width o) ∷ [])

abbrev pub offer_rows : List Offer → List ℕ
offer_rows = flat_map offer_line

abbrev pub offer_table : List Offer → List ℕ
offer_table offers = line_text (codes "offer" ∷ codes "number" ∷ codes "product" ∷ codes "MW" ∷ []) ++ offer_rows offers

abbrev pub refusal : TenderFault → List ℕ
refusal fault = line_text (codes "refused" ∷ decimal (number fault) ∷ decimal (place fault) ∷ [])

abbrev pub report : Result Tender TenderFault → List ℕ
report (Ok tender) = period_table tender.days ++ offer_table tender.offers
report (Err fault) = refusal fault
