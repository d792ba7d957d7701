use Rattle.std.proofs.Common.{◌≡◌, ◌≤◌, length, Ok, Err, sym, ◌∙◌, subst, rules}
use Rattle.std.proofs.lemmas.Result.{err_from_is_err_and}
use Rattle.calendar.specs.Month.{day_counts}
use Rattle.text.specs.Judging.{◌>>=◌}
use Rattle.sheet.specs.Sheet.{read}
use Rattle.book.specs.Fault.{of_sheet}
use Rattle.book.specs.Roll.{with}
use Rattle.book.specs.Places.{places_of}
use Rattle.book.specs.Table.{offers_of}
use Rattle.book.proofs.Reading.{so_far_none, so_far_refused, so_far_smaller, so_far_more}
use Rattle.book.proofs.table.Table.of_sheets.Goals as goal

pub loop-rest-init : goal.loop-rest-init
loop-rest-init c = (
  so_far_none (length (day_counts c.args.calendar)) c.args.lines_before c.args.text.now (places_of c.new-starts.result) c.from-before.result (offers_of c.in_ok-table.table) (search rules) (search rules) c.in_ok-table.ensures.offers c.new-starts.ensures,
  c.in_ok-table.ensures.days,
)

pub returns-in_err-lines : goal.returns-in_err-lines
returns-in_err-lines c =
    let some : 1 ≤ length c.loop-rest.rest.now = search rules in
    let before = c.loop-rest.before in
    let offers = offers_of c.loop-rest.table in
    let rest = c.loop-rest.rest.now in
    let fault = c.in_err-lines.field-0.0 in
    let refused = subst (λ days. (of_sheet (read (length days) before rest) >>= (λ s. with (length days) offers s.0)) ≡ Err fault) c.loop-rest.invariant.1 c.in_err-lines.ensures.entered in
    let p = err_from_is_err_and c.from_residual-in_err-lines.result c.from_residual-in_err-lines.ensures.1 in
    rw (p.1, p.2) (sym (so_far_refused (length (day_counts c.args.calendar)) c.args.lines_before c.args.text.now (places_of c.loop-rest.starts) before offers rest c.loop-rest.invariant.0 some fault refused))

pub loop-rest-smaller : goal.loop-rest-smaller
loop-rest-smaller c =
    let some : 1 ≤ length c.loop-rest.rest.now = search rules in
    let before = c.loop-rest.before in
    let offers = offers_of c.loop-rest.table in
    let rest = c.loop-rest.rest.now in
    let after = offers_of c.enter_first.new.self in
    let told = c.in_ok-lines.ensures.entered in
    let sheet = subst (λ days. read (length days) before rest ≡ Ok (told.0, c.in_ok-lines.after.now)) c.loop-rest.invariant.1 told.1 in
    let enters = subst (λ days. with (length days) offers told.0 ≡ Ok after) c.loop-rest.invariant.1 told.2 in
    so_far_smaller (length (day_counts c.args.calendar)) c.args.lines_before c.args.text.now (places_of c.loop-rest.starts) before offers rest c.loop-rest.invariant.0 some
    told.0 after c.in_ok-lines.after.now sheet enters (places_of c.push.new.self) c.push.ensures

pub loop-rest-preserved : goal.loop-rest-preserved
loop-rest-preserved c =
    let some : 1 ≤ length c.loop-rest.rest.now = search rules in
    let before = c.loop-rest.before in
    let offers = offers_of c.loop-rest.table in
    let rest = c.loop-rest.rest.now in
    let after = offers_of c.enter_first.new.self in
    let told = c.in_ok-lines.ensures.entered in
    let sheet = subst (λ days. read (length days) before rest ≡ Ok (told.0, c.in_ok-lines.after.now)) c.loop-rest.invariant.1 told.1 in
    let enters = subst (λ days. with (length days) offers told.0 ≡ Ok after) c.loop-rest.invariant.1 told.2 in (
      so_far_more (length (day_counts c.args.calendar)) c.args.lines_before c.args.text.now (places_of c.loop-rest.starts) before offers rest c.loop-rest.invariant.0 some
          told.0 after c.in_ok-lines.after.now sheet enters (places_of c.push.new.self) c.push.ensures c.in_ok-lines.lines told.3 c.in_ok-lines.ensures.few,
      c.in_ok-lines.ensures.days ∙ c.loop-rest.invariant.1,
    )
