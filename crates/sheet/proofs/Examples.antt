-- Sheets at work: what the definitions make of texts, computed.
use Rattle.std.proofs.Common.{◌≡◌, ℕ, true, false, List, [], ◌∷◌, ◌++◌, Some, None, Ok, Err, codes, refl}
use Rattle.std.specs.Fmt.{digits}
use Rattle.sheet.specs.declared.product.Product.TheVariants.{Rapid, Complementary}
use Rattle.sheet.specs.Offer.{Offer}
use Rattle.sheet.specs.declared.fault.SheetFault.TheVariants.{Form, Value, Marks, Order, PartMonth}
use Rattle.sheet.specs.Sheet.{read, read_alone, lines}
use Rattle.sheet.specs.Saved.{written}

-- a month of three periods, offered in the first and the last
small : List ℕ
small = codes "ACME1;7;\nseuil_minimum;10;\nDMO;13;\nDOmax;120;\nObs_Stat;0;\nDOmin;1;\n2;2;0;\n10;30;\n1;3;\n36,5;40;\n0;0,07;\n"

abbrev offer : Offer
offer = record {
  name = codes "ACME1";
  number = 7;
  floor = 10;
  product = Rapid;
  observed = false;
  short = true;
  widths = 10 ∷ 30 ∷ [];
  rows = Some (3650 ∷ 4000 ∷ []) ∷ None ∷ Some (0 ∷ 7 ∷ []) ∷ [];
  block = None;
}

reads : read_alone 3 small ≡ Ok offer
unfolding small
reads = refl

-- 36,5 is saved as 36,50
saves : written offer ≡ codes "ACME1;7;\nseuil_minimum;10;\nDMO;13;\nDOmax;120;\nObs_Stat;0;\nDOmin;1;\n2;2;0;\n10;30;\n1;3;\n36,50;40,00;\n0,00;0,07;\n"
unfolding digits
saves = refl

reads_back : read_alone 3 (written offer) ≡ Ok offer
unfolding digits
reads_back = refl

-- with a block, all periods, and a text that follows
abbrev blocked : Offer
blocked = record {
  name = codes "Z";
  number = 65535;
  floor = 500;
  product = Complementary;
  observed = true;
  short = false;
  widths = 500 ∷ [];
  rows = Some (10000000 ∷ []) ∷ Some (0 ∷ []) ∷ Some (123456 ∷ []) ∷ [];
  block = Some 100000000;
}

reads_back_blocked : read 3 44 (written blocked ++ codes "more") ≡ Ok (blocked, codes "more")
unfolding digits
reads_back_blocked = refl

thirteen_lines : lines blocked ≡ 13
thirteen_lines = refl

trailing : read_alone 3 (written blocked ++ codes "more") ≡ Err (Form 14)
unfolding digits
trailing = refl

bad_keyword : read_alone 3 (codes "A;1;\nseuil_maximum;10;\n") ≡ Err (Form 2)
bad_keyword = refl

longest_mismatch : read_alone 3 (codes "A;1;\nseuil_minimum;10;\nDMO;30;\nDOmax;120;\nObs_Stat;0;\n") ≡ Err (Value 4)
longest_mismatch = refl

both_marks : read_alone 3 (codes "A;1;\nseuil_minimum;10;\nDMO;30;\nDOmax;90;\nObs_Stat;1;\nDOmin;1;\n9;9;9;\n") ≡ Err (Marks 6)
both_marks = refl

part_month : read_alone 3 (codes "A;1;\nseuil_minimum;10;\nDMO;30;\nDOmax;90;\nObs_Stat;1;\nDOmin;0;\n1;2;1;\n") ≡ Err (PartMonth 7)
part_month = refl

value_before_part_month : read_alone 3 (codes "A;1;\nseuil_minimum;10;\nDMO;30;\nDOmax;90;\nObs_Stat;1;\nDOmin;0;\n5;2;1;\n") ≡ Err (Value 7)
value_before_part_month = refl

not_the_floor : read_alone 3 (codes "A;1;\nseuil_minimum;10;\nDMO;30;\nDOmax;90;\nObs_Stat;1;\nDOmin;0;\n2;2;0;\n11;10;\n") ≡ Err (Value 8)
not_the_floor = refl

not_rising : read_alone 3 (codes "A;1;\nseuil_minimum;10;\nDMO;30;\nDOmax;90;\nObs_Stat;1;\nDOmin;0;\n2;2;0;\n10;10;\n2;2;\n") ≡ Err (Order 9)
not_rising = refl

falling : read_alone 3 (codes "A;1;\nseuil_minimum;10;\nDMO;30;\nDOmax;90;\nObs_Stat;1;\nDOmin;0;\n2;2;0;\n10;10;\n2;3;\n5;5;\n5;4,99;\n") ≡ Err (Order 11)
falling = refl

too_dear : read_alone 3 (codes "A;1;\nseuil_minimum;10;\nDMO;30;\nDOmax;90;\nObs_Stat;1;\nDOmin;0;\n2;2;0;\n10;10;\n2;3;\n5;100000,01;\n") ≡ Err (Value 10)
too_dear = refl

third_decimal : read_alone 3 (codes "A;1;\nseuil_minimum;10;\nDMO;30;\nDOmax;90;\nObs_Stat;1;\nDOmin;0;\n2;2;0;\n10;10;\n2;3;\n5;5,001;\n") ≡ Err (Form 10)
third_decimal = refl

ends_early : read_alone 3 (codes "A;1;\nseuil_minimum;10;\n") ≡ Err (Form 3)
ends_early = refl

cut_line : read_alone 3 (codes "A;1;\nseuil_minimum;10;") ≡ Err (Form 2)
cut_line = refl

leading_zero : read_alone 3 (codes "A;01;\n") ≡ Err (Form 1)
leading_zero = refl

eleven_digits : read_alone 3 (codes "A;10000000000;\n") ≡ Err (Form 1)
eleven_digits = refl

ten_digits : read_alone 3 (codes "A;1000000000;\n") ≡ Err (Value 1)
ten_digits = refl

small_letter : read_alone 3 (codes "a;1;\n") ≡ Err (Form 1)
small_letter = refl

long_name : read_alone 3 (codes "ABCDEFGHIJKLMNOPQ;1;\n") ≡ Err (Form 1)
long_name = refl

extra_field : read_alone 3 (codes "A;1;2;\n") ≡ Err (Form 1)
extra_field = refl

lines_after_others : read 3 20 (codes "A;1;\nseuil_minimum;9;\n") ≡ Err (Value 22)
lines_after_others = refl

-- ---- more that tells its neighbours apart

only_after_a_comma : read_alone 3 (codes "A;1;\nseuil_minimum;10;\nDMO;30;\nDOmax;90;\nObs_Stat;1;\nDOmin;0;\n2;2;0;\n10;10;\n2;3;\n5,;6;\n") ≡ Err (Form 10)
only_after_a_comma = refl

comma_in_a_number : read_alone 3 (codes "A;1;\nseuil_minimum;10,5;\n") ≡ Err (Form 2)
comma_in_a_number = refl

empty_field : read_alone 3 (codes "A;;\n") ≡ Err (Form 1)
empty_field = refl

carriage_return : read_alone 3 (codes "A;1;\r\n") ≡ Err (Form 1)
carriage_return = refl

empty_text : read_alone 3 [] ≡ Err (Form 1)
empty_text = refl

a_mark_of_two : read_alone 3 (codes "A;1;\nseuil_minimum;10;\nDMO;30;\nDOmax;90;\nObs_Stat;2;\n") ≡ Err (Value 5)
a_mark_of_two = refl

no_such_product : read_alone 3 (codes "A;1;\nseuil_minimum;10;\nDMO;14;\n") ≡ Err (Value 3)
no_such_product = refl

low_floor : read_alone 3 (codes "A;1;\nseuil_minimum;9;\n") ≡ Err (Value 2)
low_floor = refl

too_wide : read_alone 3 (codes "A;1;\nseuil_minimum;10;\nDMO;30;\nDOmax;90;\nObs_Stat;1;\nDOmin;0;\n2;2;0;\n10;491;\n") ≡ Err (Value 8)
too_wide = refl

-- a range too few is a matter of form, before any value
missing_width : read_alone 3 (codes "A;1;\nseuil_minimum;10;\nDMO;30;\nDOmax;90;\nObs_Stat;1;\nDOmin;0;\n2;2;0;\n999;\n") ≡ Err (Form 8)
missing_width = refl

-- a period outside the month is a matter of value, before the order
outside_the_month : read_alone 3 (codes "A;1;\nseuil_minimum;10;\nDMO;30;\nDOmax;90;\nObs_Stat;1;\nDOmin;0;\n1;2;0;\n10;\n4;1;\n") ≡ Err (Value 9)
outside_the_month = refl

-- 1000000,00 is the highest price of a block
dear_block : read_alone 1 (codes "A;1;\nseuil_minimum;10;\nDMO;30;\nDOmax;90;\nObs_Stat;1;\nDOmin;0;\n1;1;1;\n10;\n1;\n5;\n1000000,01;\n") ≡ Err (Value 11)
dear_block = refl

-- eight digits of euros
long_euros : read_alone 1 (codes "A;1;\nseuil_minimum;10;\nDMO;30;\nDOmax;90;\nObs_Stat;1;\nDOmin;0;\n1;1;1;\n10;\n1;\n5;\n10000000;\n") ≡ Err (Form 11)
long_euros = refl
