-- The roll and the deposit at work, in a month of two periods.
use Rattle.std.proofs.Common.{◌≡◌, ℕ, true, false, List, [], ◌∷◌, ◌++◌, map, replicate, Some, None, Ok, Err, codes, Option, refl}
use Rattle.std.specs.Fmt.{digits}
use Rattle.std.specs.List.{concat, range_with_len}
use Rattle.sheet.specs.Offer.{Offer}
use Rattle.sheet.specs.Saved.{written}
use Rattle.sheet.specs.declared.fault.SheetFault.TheVariants.{Form, Value}
use Rattle.sheet.specs.declared.product.Product.TheVariants.{Rapid, Complementary}
use Rattle.book.specs.Deposit.{deposited}
use Rattle.book.specs.Needs.{no_need}
use Rattle.book.specs.Roll.{Roll, with, entered, amended, withdrawn, needed, saved}
use Rattle.book.specs.Taken.{choices, withheld, takes, taken}
use Rattle.book.specs.Within.{fitting, within}
use Rattle.book.specs.declared.fault.RegisterFault.TheVariants.{Sheet, Known, Unknown, Full, Pairs, Volume, Blocks, Period, Space}

-- a rapid offer in both periods
abbrev plain : (name : List ℕ) (number mw ranges : ℕ) → Option ℕ → Offer
plain name number mw ranges block = record {
  name = name;
  number = number;
  floor = mw;
  product = Rapid;
  observed = false;
  short = false;
  widths = replicate ranges mw;
  rows = Some (replicate ranges 500) ∷ Some (replicate ranges 500) ∷ [];
  block = block;
}

abbrev a1 : Offer
a1 = plain (codes "A") 1 10 1 None

abbrev b2 : Offer
b2 = plain (codes "B") 2 20 1 None

abbrev roll : List Offer → Roll
roll offers = record { offers = offers; needs = no_need ∷ no_need ∷ [] }

enters : entered 2 (roll (b2 ∷ [])) (written a1) ≡ Ok (roll (b2 ∷ a1 ∷ []))
unfolding digits
enters = refl

knows : entered 2 (roll (b2 ∷ a1 ∷ [])) (written a1) ≡ Err Known
unfolding digits
knows = refl

sheet_first : entered 2 (roll (a1 ∷ [])) (written a1 ++ codes "x") ≡ Err (Sheet (Form 12))
unfolding digits
sheet_first = refl

amends : amended 2 (roll (a1 ∷ b2 ∷ [])) (written (plain (codes "A") 1 30 2 (Some 5))) ≡ Ok (roll (plain (codes "A") 1 30 2 (Some 5) ∷ b2 ∷ []))
unfolding digits
amends = refl

unknown : amended 2 (roll (a1 ∷ b2 ∷ [])) (written (plain (codes "A") 2 30 2 None)) ≡ Err Unknown
unfolding digits
unknown = refl

withdraws : withdrawn 2 (roll (a1 ∷ b2 ∷ [])) (codes "A") 1 ≡ Ok (roll (b2 ∷ []))
withdraws = refl

needs : needed 2 (roll (a1 ∷ [])) 2 30 40 ≡ Ok (record { offers = a1 ∷ []; needs = no_need ∷ record { rapid = 30; complementary = 40 } ∷ [] })
needs = refl

no_period : needed 2 (roll []) 3 30 40 ≡ Err (Period 3)
no_period = refl

no_period_zero : needed 2 (roll []) 0 30 40 ≡ Err (Period 0)
no_period_zero = refl

large_need : needed 2 (roll []) 2 0 1001 ≡ Err (Period 2)
large_need = refl

saves : saved 2 (roll (a1 ∷ [])) (codes "A") 1 91 ≡ Ok (codes "A;1;\nseuil_minimum;10;\nDMO;13;\nDOmax;120;\nObs_Stat;0;\nDOmin;0;\n1;2;0;\n10;\n1;2;\n5,00;\n5,00;\n")
unfolding digits
saves = refl

short_buffer : saved 2 (roll (a1 ∷ [])) (codes "A") 1 90 ≡ Err Space
unfolding digits
short_buffer = refl

-- ---- the limits

numbered : (name : List ℕ) → (mw ranges : ℕ) → Option ℕ → ℕ → List Offer
numbered name mw ranges block n = map (λ k. plain name k mw ranges block) (range_with_len 1 n)

full : with 2 (numbered (codes "A") 10 1 None 32) b2 ≡ Err Full
unfolding numbered
full = refl

-- 12 offers of 4 ranges and one of 2 are 50; one of 3 is too much
fifty : with 2 (numbered (codes "A") 10 4 None 12) (plain (codes "A") 99 10 3 None) ≡ Err (Pairs 1)
unfolding numbered
fifty = refl

fifty_in_second : with 2 (numbered (codes "A") 10 4 None 12) (record { name = codes "A"; number = 99; floor = 10; product = Complementary; observed = false; short = false; widths = replicate 3 10; rows = None ∷ Some (1 ∷ 1 ∷ 1 ∷ []) ∷ []; block = None }) ≡ Err (Pairs 2)
unfolding numbered
fifty_in_second = refl

known_before_volume : with 2 (numbered (codes "A") 500 1 None 4) a1 ≡ Err Known
unfolding numbered
known_before_volume = refl

volume : with 2 (numbered (codes "A") 500 1 None 4) b2 ≡ Err Volume
unfolding numbered
volume = refl

seventh : with 2 (numbered (codes "A") 10 1 (Some 7) 6) (plain (codes "B") 2 20 1 (Some 7)) ≡ Err Blocks
unfolding numbered
seventh = refl

-- 32 offers of one candidate keep the limits, and the same one twice does not
thirty_two : within (5 ∷ 2 ∷ []) (numbered (codes "A") 10 1 None 32) ≡ true
unfolding within fitting numbered
thirty_two = refl

twice : within (5 ∷ 2 ∷ []) (a1 ∷ b2 ∷ a1 ∷ []) ≡ false
unfolding within fitting
twice = refl

-- ---- taken blocks: the first and the third offer have one

abbrev month_block : ℕ → Offer
month_block number = plain (codes "C") number 10 1 (Some 7)

blocks_chosen : takes 2 (month_block 1 ∷ b2 ∷ month_block 3 ∷ []) ≡ false ∷ false ∷ true ∷ []
blocks_chosen = refl

second_taken : taken 2 (month_block 1 ∷ b2 ∷ month_block 3 ∷ []) ≡ month_block 1 ∷ b2 ∷ withheld (month_block 3) ∷ []
second_taken = refl

four_choices : choices (month_block 1 ∷ b2 ∷ month_block 3 ∷ []) ≡ 4
four_choices = refl

-- ---- the deposit

deposits : deposited 2 0 (written b2 ++ written a1) ≡ Ok (b2 ∷ a1 ∷ [])
unfolding digits
deposits = refl

-- two sheets in one text are no sheet
two_sheets : entered 2 (roll []) (written b2 ++ written a1) ≡ Err (Sheet (Form 12))
unfolding digits
two_sheets = refl

deposit_line : deposited 2 4 (written b2 ++ codes "A;1;\nseuil_minimum;9;\n") ≡ Err (Sheet (Value 17))
unfolding digits
deposit_line = refl

deposit_known : deposited 2 0 (written b2 ++ written b2 ++ codes "junk") ≡ Err Known
unfolding digits
deposit_known = refl

deposit_32 : deposited 2 0 (concat (map written (numbered (codes "A") 10 1 None 32))) ≡ Ok (numbered (codes "A") 10 1 None 32)
unfolding digits numbered
deposit_32 = refl

deposit_33 : deposited 2 0 (concat (map written (numbered (codes "A") 10 1 None 33))) ≡ Err Full
unfolding digits numbered
deposit_33 = refl

deposit_34 : deposited 2 0 (concat (map written (numbered (codes "A") 10 1 None 32)) ++ codes "A;1;2;\n") ≡ Err (Sheet (Form 353))
unfolding digits numbered
deposit_34 = refl
