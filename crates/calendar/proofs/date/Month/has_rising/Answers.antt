use Rattle.std.proofs.Common.{ltb, ◌∙◌, rules, tests}
use Rattle.std.proofs.lemmas.Fn.{always_returns_same}
use Rattle.std.proofs.lemmas.Iterator.{YieldsList-from_slice}
use Rattle.std.proofs.lemmas.Iterator.Search.{all_from_yields_List}
use Rattle.calendar.specs.Date.{month_length}
use Rattle.calendar.proofs.Days.{in_month, not_rising, rising-list_all}
use Rattle.calendar.proofs.date.Month.has_rising.Goals as goal

pub returns-then-is_sorted_by : goal.returns-then-is_sorted_by
returns-then-is_sorted_by c =
    let month = c.args.self in
    let last = month_length month.year month.month in
    let days = c.args.days.now in
    all_from_yields_List (in_month last) _ _ _ c.all.ensures.ran (YieldsList-from_slice days (cc)) (λ x b q k. search (rules, tests))
    ∙ rising-list_all last days (c.if-is_sorted_by.ensures.cases ltb (always_returns_same _ _ _ (λ a r f k. search (rules, tests))))

pub returns-else-is_sorted_by : goal.returns-else-is_sorted_by
returns-else-is_sorted_by c =
    let month = c.args.self in
    c.if-is_sorted_by.false
    ∙ not_rising (month_length month.year month.month) c.args.days.now (c.if-is_sorted_by.ensures.cases ltb (always_returns_same _ _ _ (λ a r f k. search (rules, tests))))
