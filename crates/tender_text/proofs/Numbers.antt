-- A line of few numbers, as its reader answers.
use Rattle.std.proofs.Common.{◌≡◌, ℕ, ◌≤◌, List, Option, refl, ap, ◌∙◌}
use Rattle.std.specs.Option.{ok_or}
use Rattle.std.proofs.lemmas.Bool.{le-leb}
use Rattle.text.specs.Lines.{number_line}
use Rattle.tender_text.specs.Opening.{numbers}
use Rattle.tender_text.specs.declared.fault.TenderFault.TheVariants.{Form}

pub numbers_by : (line count : ℕ) (text : List ℕ) (read : Option (List ℕ × List ℕ)) → count ≤ 11 → read ≡ number_line count text → ok_or read (Form line) ≡ numbers line count text
numbers_by line count text read few is = ap (λ r. ok_or r (Form line)) (is ∙ rw (le-leb count 11 few) refl)
