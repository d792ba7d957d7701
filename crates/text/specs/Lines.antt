-- Lines of fields of one kind, as they are read. Assumes nothing.
use Rattle.std.specs.Prelude.{ℕ, cond, List, Some, None, Option, nat_le}
use Rattle.std.specs.Borrow.{Bor}
use Rattle.short_list.specs.ShortList.{items}
use Rattle.short_list.specs.declared.list.ShortList.{ShortList}
use Rattle.text.specs.Form.{Reads, whole, price, line_of}

-- the values of a line, of which there are at most 11
abbrev pub Values : Type 0
Values = ShortList ℕ 11

-- the same, in order
abbrev pub values_of : Values → List ℕ
values_of values = items values

-- the values of a line, and what follows it
abbrev pub values_read : Option (Values × Bor (List ℕ)) → Option (List ℕ × List ℕ)
values_read None = None
values_read (Some (values, rest)) = Some (values_of values, rest.now)

-- a line of so many fields of one kind, of which at most 11 may be asked for
abbrev pub short_line : Reads ℕ → ℕ → Reads (List ℕ)
short_line reads count text = cond (nat_le count 11) (line_of reads count text) None

abbrev pub number_line : ℕ → Reads (List ℕ)
number_line = short_line whole

abbrev pub price_line : ℕ → Reads (List ℕ)
price_line = short_line price
