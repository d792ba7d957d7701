-- How the library answers a tender's text. Assumes nothing.
use Rattle.std.specs.Prelude.{◌≡◌, Ok, Err, Result, IsOkAnd}
use Rattle.book.specs.Register.{days_of, roll_of}
use Rattle.book.specs.declared.register.Register.{Register as KeptRegister}
use Rattle.book.specs.declared.unread.DepositFault.{DepositFault}
use Rattle.book.specs.declared.unread.DepositFault.TheVariants.{Memory as NoMemory, Register as ByRegister}
use Rattle.tender_text.specs.Report.{Tender}
use Rattle.tender_text.specs.declared.answer.AnswerFault.{AnswerFault}
use Rattle.tender_text.specs.declared.answer.AnswerFault.TheVariants.{Refused, Memory}
use Rattle.tender_text.specs.declared.fault.TenderFault.{TenderFault}
use Rattle.tender_text.specs.declared.fault.TenderFault.TheVariants.{Register}

-- a refusal of the sheets is the tender's, unless there is no memory
abbrev pub of_deposit : DepositFault → AnswerFault
of_deposit (ByRegister fault) = Refused (Register fault)
of_deposit NoMemory = Memory

-- a register with the tender's month and its offers, or the tender's refusal, unless there is no memory
abbrev pub Answered : Result Tender TenderFault → Result KeptRegister AnswerFault → Type 0
Answered expected (Ok register) = IsOkAnd expected (λ tender. (days_of register ≡ tender.days) × ((roll_of register).offers ≡ tender.offers))
Answered expected (Err (Refused fault)) = expected ≡ Err fault
Answered expected (Err Memory) = Unit {0}
