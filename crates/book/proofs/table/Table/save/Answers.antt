use Rattle.std.proofs.Common.{◌<◌, Err, length, sym, ap, ◌∙◌, arith}
use Rattle.std.proofs.lemmas.Result.{err_from_is_err_and}
use Rattle.book.specs.Calls.{saved_length, saved_buffer}
use Rattle.book.specs.Table.{offers_of}
use Rattle.book.proofs.Allowed.{passed_nowhere}
use Rattle.book.proofs.Placed.{unplaced}
use Rattle.book.proofs.Saving.{fits_length, fits_not, saves_standing}
use Rattle.book.proofs.table.Table.save.Goals as goal

pub returns-in_err-place : goal.returns-in_err-place
returns-in_err-place c =
    let before = c.args.buffer.now in
    let none = passed_nowhere c.place.result c.in_err-place.field-0.0 c.in_err-place.ensures.value in
    let p = err_from_is_err_and c.from_residual.result c.from_residual.ensures.1 in
    let nowhere = unplaced c.args.identifier.name.now c.args.identifier.number (offers_of c.args.self.now) (sym c.place.ensures.value ∙ none.0) in
    rw (p.1, p.2) (record {
      value = ap Err none.1 ∙ sym (ap (saved_length (length before)) nowhere);
      buffer = sym (ap (saved_buffer before) nowhere);
    })

pub returns-in_err-save : goal.returns-in_err-save
returns-in_err-save c =
    let self = c.args.self.now in
    let before = c.args.buffer.now in
    let found = sym c.in_ok-place.ensures.ok_part ∙ c.place.ensures.value in
    let inside : c.in_ok-place.place < length c.as_slice.result.now = omega (arith, c.as_slice.ensures.len, rw c.in_ok-place.ensures.ok_part at c.place.ensures.inside) in
    let p = err_from_is_err_and c.from_residual-in_err-save.result c.from_residual-in_err-save.ensures.1 in
    let same = saves_standing c.args.identifier.name.now c.args.identifier.number c.as_slice.result.now (offers_of self) c.in_ok-place.place _ c.as_slice.ensures.offers inside found in
    rw (p.1, p.2) (record {
      value = fits_not _ before c.in_err-save.field-0.0 c.in_err-save.ensures.answer ∙ ap (saved_length (length before)) same;
      buffer = c.in_err-save.ensures.buffer ∙ ap (saved_buffer before) same;
    })

pub returns : goal.returns
returns c =
    let self = c.args.self.now in
    let before = c.args.buffer.now in
    let found = sym c.in_ok-place.ensures.ok_part ∙ c.place.ensures.value in
    let inside : c.in_ok-place.place < length c.as_slice.result.now = omega (arith, c.as_slice.ensures.len, rw c.in_ok-place.ensures.ok_part at c.place.ensures.inside) in
    let same = saves_standing c.args.identifier.name.now c.args.identifier.number c.as_slice.result.now (offers_of self) c.in_ok-place.place _ c.as_slice.ensures.offers inside found in
    record {
      value = fits_length _ before c.in_ok-save.field-0 c.in_ok-save.ensures.answer ∙ ap (saved_length (length before)) same;
      buffer = c.in_ok-save.ensures.buffer ∙ ap (saved_buffer before) same;
    }
