-- What an offer as it is kept says. Assumes nothing.
use Rattle.std.specs.Prelude.{ℕ, List, map, Some, None, Option}
use Rattle.short_list.specs.declared.list.ShortList.{ShortList}
use Rattle.short_list.specs.ShortList.{items}
use Rattle.sheet.specs.declared.offer.Offer.{Offer as Kept}
use Rattle.sheet.specs.Offer.{Offer}

-- a candidate's name
abbrev pub Name : Type 0
Name = ShortList ℕ 16

-- a number for each range
abbrev pub PerRange : Type 0
PerRange = ShortList ℕ 4

abbrev pub name_of : Name → List ℕ
name_of who = items who

abbrev pub numbers_of : PerRange → List ℕ
numbers_of each = items each

abbrev pub row_facts : Option PerRange → Option (List ℕ)
row_facts None = None
row_facts (Some prices) = Some (numbers_of prices)

abbrev pub facts : Kept → Offer
facts o = record {
  name = name_of o.name;
  number = o.number;
  floor = o.floor;
  product = o.product;
  observed = o.observed;
  short = o.short;
  widths = numbers_of o.widths;
  rows = map row_facts (items o.rows);
  block = o.block;
}
