use Rattle.std.proofs.Common.{length, ap, ◌∙◌}
use Rattle.sheet.specs.Sheet.{read}
use Rattle.book.specs.Places.{places_of}
use Rattle.book.specs.Reading.{days_of}
use Rattle.book.proofs.Fronts.{all_after, front_inside, front_some}
use Rattle.book.proofs.deposit.Deposit.text_from.Goals as goal

pub slice_bounds-result-count : goal.slice_bounds-result-count
slice_bounds-result-count c =
    let self = c.args.self.now in
    front_inside (length (days_of self)) self.text.now (places_of self.starts) c.args.sheet c.in_ok-start.start self.sheets c.in_ok-start.ensures

pub slice_bounds-result-start : goal.slice_bounds-result-start
slice_bounds-result-start c =
    let self = c.args.self.now in
    front_inside (length (days_of self)) self.text.now (places_of self.starts) c.args.sheet c.in_ok-start.start self.sheets c.in_ok-start.ensures

pub returns : goal.returns
returns c =
    let self = c.args.self.now in
    let T = length (days_of self) in
    let front = front_some T self.text.now (places_of self.starts) c.args.sheet c.in_ok-start.start self.sheets c.in_ok-start.ensures in
    (front.0, ap (λ text. read T 0 text) (all_after self.text.now c.in_ok-start.start) ∙ front.1, front.2)
