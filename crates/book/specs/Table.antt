-- The offers that a table holds, and its month. Assumes nothing.
use Rattle.std.specs.Prelude.{◌≡◌, ℕ, List, ◌++◌, map, length, vec_items, Option}
use Rattle.std.specs.List.{position_from}
use Rattle.calendar.specs.Month.{day_counts}
use Rattle.sheet.specs.Facts.{facts}
use Rattle.sheet.specs.Offer.{Offer}
use Rattle.book.specs.Limits.{is}
use Rattle.book.specs.declared.others.Others.{Others}
use Rattle.book.specs.declared.table.Table.{Table}

-- the day count of each period of its month
abbrev pub days_of : Table → List ℕ
days_of table = day_counts table.calendar

-- how many periods its month has
abbrev pub periods_of : Table → ℕ
periods_of table = length (days_of table)

-- in order
abbrev pub offers_of : Table → List Offer
offers_of table = map facts (vec_items table.offers)

-- these offers stand then, under the same calendar
abbrev pub Holds : (before after : Table) → List Offer → Type 0
Holds before after offers = (offers_of after ≡ offers) × (days_of after ≡ days_of before)

-- the offers beside which one is judged
abbrev pub others_of : Others → List Offer
others_of others = map facts others.before.now ++ map facts others.after.now

-- how many periods their month has
abbrev pub periods_beside : Others → ℕ
periods_beside others = length (day_counts others.calendar.now)

-- the place of the first offer of that identifier, counted from i
abbrev pub place_from : (i : ℕ) (name : List ℕ) (number : ℕ) → List Offer → Option ℕ
place_from i name number = position_from (is name number) i

-- counted from 0
abbrev pub place_of : (name : List ℕ) (number : ℕ) → List Offer → Option ℕ
place_of = place_from 0
