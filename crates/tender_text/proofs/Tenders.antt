-- What is read for a tender, and what is printed for it.
use Rattle.std.proofs.Common.{◌≡◌, ℕ, List, ◌++◌, length, Ok, Err, Result, sym, refl, ap, ◌∙◌}
use Rattle.sheet.specs.Offer.{Offer}
use Rattle.book.specs.Deposit.{deposited}
use Rattle.book.specs.Register.{days_of, roll_of}
use Rattle.book.specs.declared.register.Register.{Register}
use Rattle.tender_text.specs.Answer.{Answered}
use Rattle.tender_text.specs.Needs.{need_line}
use Rattle.tender_text.specs.Opening.{Told, first_lines, month_told}
use Rattle.tender_text.specs.Report.{Tender, tender_of, period_table, offer_table, report}
use Rattle.tender_text.specs.declared.fault.TenderFault.{TenderFault}

-- a tender is what its lines and its sheets tell
pub tender_told : (input : List ℕ) (told : Told) (days rapid rest complementary sheets : List ℕ) (offers : List Offer) → Ok told ≡ first_lines input → Ok days ≡ month_told told → need_line 3 (length days) told.rest ≡ Ok (rapid, rest) → need_line 4 (length days) rest ≡ Ok (complementary, sheets) → Ok offers ≡ deposited (length days) 4 sheets → tender_of input ≡ Ok (record { days = days; rapid = rapid; complementary = complementary; offers = offers })
tender_told input told days rapid rest complementary sheets offers lines month third fourth entered = rw (← lines, ← month, third, fourth, ← entered) refl

-- what is printed for a tender that was read
pub printed : (expected : Result Tender TenderFault) (tender : Tender) (days : List ℕ) (offers : List Offer) → expected ≡ Ok tender → days ≡ tender.days → offers ≡ tender.offers → period_table days ++ offer_table offers ≡ report expected
printed expected tender days offers is same_days same_offers =
    ap (λ d. period_table d ++ offer_table offers) same_days ∙ ap (λ os. period_table tender.days ++ offer_table os) same_offers ∙ ap report (sym is)

-- the same for the register of that tender
pub printed_register : (expected : Result Tender TenderFault) (register : Register) → Answered expected (Ok register) → period_table (days_of register) ++ offer_table (roll_of register).offers ≡ report expected
printed_register (Ok tender) register told = printed (Ok tender) tender (days_of register) (roll_of register).offers refl told.0 told.1
printed_register (Err fault) register told = absurd told
