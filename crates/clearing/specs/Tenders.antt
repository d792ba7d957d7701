-- The small tenders: what each offers and needs, and the award that it must have, or none. Assumes nothing.
use Rattle.std.specs.Prelude.{◌≡◌, ℕ, true, false, List, [], ◌∷◌, ◌++◌, map, replicate, Some, None, Ok, Option}
use Rattle.std.specs.List.{AllByRecursion}
use Rattle.calendar.specs.Opening.{opened}
use Rattle.sheet.specs.Offer.{Offer}
use Rattle.sheet.specs.declared.product.Product.{Product}
use Rattle.sheet.specs.declared.product.Product.TheVariants.{Rapid, Complementary}
use Rattle.book.specs.declared.need.Need.{Need}
use Rattle.cost.specs.Rule.{Rule}
use Rattle.cost.specs.Money.{money_rule}
use Rattle.cost.specs.LeftOut.{left_out_rule}
use Rattle.cost.specs.Pair.{pair_rule}
use Rattle.clearing.specs.Period.{Award, Cover, Named, NothingAdmitted}
use Rattle.clearing.specs.Month.{cover_of, MonthAward, NamedMonth, NothingAdmittedMonth}

-- ---- the rules

pub data Way : Type 0 where
  money_first left_out_first : Way

abbrev pub rule : Way → Rule
rule money_first = pair_rule money_rule left_out_rule
rule left_out_first = pair_rule left_out_rule money_rule

-- ---- offers, MW and cents

pub data Mark : Type 0 where
  plain short observed : Mark

abbrev pub A : ℕ
A = 65

abbrev pub B : ℕ
B = 66

abbrev pub C : ℕ
C = 67

-- an offer with these ranges, at these prices in each period, and with a block or none
abbrev pub offer : (letter : ℕ) → Product → Mark → (floor : ℕ) (widths : List ℕ) (prices : List (List ℕ)) (block : Option ℕ) → Offer
offer letter product mark floor widths prices block = record {
  name = letter ∷ [];
  number = 1;
  floor = floor;
  product = product;
  observed = elim mark [ plain ↦ false | short ↦ false | observed ↦ true ];
  short = elim mark [ plain ↦ false | short ↦ true | observed ↦ false ];
  widths = widths;
  rows = map (λ row. Some row) prices;
  block = block;
}

-- of one range, at a price for each period
abbrev pub one_range : (letter : ℕ) → Product → Mark → (mw : ℕ) (prices : List ℕ) (block : Option ℕ) → Offer
one_range letter product mark mw prices block = offer letter product mark mw (mw ∷ []) (map (λ cents. cents ∷ []) prices) block

-- plain, for one period
abbrev pub rr : (letter mw cents : ℕ) → Offer
rr letter mw cents = one_range letter Rapid plain mw (cents ∷ []) None

abbrev pub rc : (letter mw cents : ℕ) → Offer
rc letter mw cents = one_range letter Complementary plain mw (cents ∷ []) None

-- 10 MW, and 10 more
abbrev pub twenty : (letter : ℕ) → Product → (cents more : ℕ) → Offer
twenty letter product cents more = offer letter product plain 10 (10 ∷ 10 ∷ []) ((cents ∷ more ∷ []) ∷ []) None

abbrev pub need : (for_rr for_rc : ℕ) → Need
need for_rr for_rc = record { rapid = for_rr; complementary = for_rc }

-- ---- awards

abbrev pub award : {R : Rule} → (rr_price rr_volume rc_price rc_volume : ℕ) → List ℕ → R.Meaning → List ℕ → Award R
award rr_price rr_volume rc_price rc_volume powers cost pays = record { rr_price = rr_price; rc_price = rc_price; rr_volume = rr_volume; rc_volume = rc_volume; powers = powers; cost = cost; pays = pays }

-- with no RC
abbrev pub rr_award : {R : Rule} → (price volume : ℕ) → List ℕ → R.Meaning → List ℕ → Award R
rr_award price volume powers cost pays = award price volume 0 0 powers cost pays

abbrev pub month_award : {R : Rule} → (choice : ℕ) → List (Award R) → R.Meaning → List ℕ → MonthAward R
month_award choice periods cost pays = record { choice = choice; periods = periods; month_cost = cost; month_pays = pays }

-- ---- the table

pub data Tender : Type 0 where
  -- one period of five days
  period : (way : Way) → Need → List Offer → Option (Award (rule way)) → Tender
  -- the days of each period, and the needs of each
  month : (way : Way) (days : List ℕ) → List Need → List Offer → Option (MonthAward (rule way)) → Tender

-- the award named for a period, or none where nothing is admitted
abbrev pub Comes : (d t : ℕ) → List Offer → (R : Rule) → Cover → Option (Award R) → Type 0
Comes d t offers R cover None = NothingAdmitted d t offers R cover
Comes d t offers R cover (Some a) = Named d t offers R cover a

abbrev pub ComesMonth : (R : Rule) → List ℕ → List Offer → List Need → Option (MonthAward R) → Type 0
ComesMonth R days offers needs None = NothingAdmittedMonth R days offers needs
ComesMonth R days offers needs (Some a) = NamedMonth R days offers needs a

abbrev pub Worked : Tender → Type 0
Worked (period way n offers award) = Comes 5 1 offers (rule way) (cover_of n) award
Worked (month way days needs offers award) = ComesMonth (rule way) days offers needs award

abbrev pub february_2021 : List ℕ
february_2021 = 5 ∷ 2 ∷ 5 ∷ 2 ∷ 5 ∷ 2 ∷ 5 ∷ 2 ∷ []

-- a tender of that month, with no holiday, has these days
abbrev pub FebruaryOpens : Type 0
FebruaryOpens = opened 2021 2 [] ≡ Ok february_2021

-- A at these prices for a unit and for its block, B and C without a block
abbrev pub with_block : (unit block : ℕ) → List Offer
with_block unit block = one_range A Rapid plain 10 (replicate 8 unit) (Some block) ∷ one_range B Rapid plain 10 (replicate 8 9500) None ∷ one_range C Rapid plain 10 (replicate 8 9800) None ∷ []

-- the tenders that the trade tells
abbrev pub told : List Tender
told =
    period money_first (need 20 0) (rr A 10 10000 ∷ rr B 10 12000 ∷ rr C 20 11000 ∷ [])
    (Some (rr_award 12000 20 (10 ∷ 10 ∷ 0 ∷ []) (240000, 20) (120000 ∷ 120000 ∷ 0 ∷ [])))
    ∷ period left_out_first (need 20 0) (rr A 10 10000 ∷ rr B 10 12000 ∷ rr C 20 11000 ∷ [])
    (Some (rr_award 11000 30 (10 ∷ 0 ∷ 20 ∷ []) (0, 330000) (110000 ∷ 0 ∷ 220000 ∷ [])))
    ∷ period money_first (need 10 10) (rr A 10 5000 ∷ rr B 10 6000 ∷ rc C 10 8000 ∷ [])
    (Some (rr_award 6000 20 (10 ∷ 10 ∷ 0 ∷ []) (120000, 0) (60000 ∷ 60000 ∷ 0 ∷ [])))
    ∷ period money_first (need 10 0) (rr A 10 9000 ∷ rr B 12 8000 ∷ [])
    (Some (rr_award 9000 10 (10 ∷ 0 ∷ []) (90000, 12) (90000 ∷ 0 ∷ [])))
    ∷ period money_first (need 10 0) (rr A 10 10001 ∷ rr B 10 10001 ∷ [])
    (Some (rr_award 10001 10 (10 ∷ 0 ∷ []) (100010, 0) (100010 ∷ 0 ∷ [])))
    ∷ period money_first (need 10 0) (rr A 10 10001 ∷ rr B 10 10000 ∷ [])
    (Some (rr_award 10000 10 (0 ∷ 10 ∷ []) (100000, 0) (0 ∷ 100000 ∷ [])))
    ∷ period money_first (need 10 0) (one_range A Rapid short 10 (2000 ∷ []) None ∷ [])
    (Some (rr_award 0 10 (10 ∷ []) (0, 0) (25000 ∷ [])))
    ∷ period money_first (need 21 0) (rr A 10 10000 ∷ rr B 10 12000 ∷ []) None
    ∷ period money_first (need 20 0) (rr A 10 10000 ∷ rc B 30 10000 ∷ []) None
    ∷ month money_first february_2021 (replicate 8 (need 20 0)) (with_block 10000 76000)
    (Some (month_award 1 (replicate 8 (rr_award 9500 10 (0 ∷ 10 ∷ 0 ∷ []) (95000, 0) (0 ∷ 95000 ∷ 0 ∷ []))) (1520000, 0) (760000 ∷ 760000 ∷ 0 ∷ [])))
    ∷ month money_first february_2021 (replicate 8 (need 20 0)) (with_block 10000 76001)
    (Some (month_award 0 (replicate 8 (rr_award 9800 20 (0 ∷ 10 ∷ 10 ∷ []) (196000, 0) (0 ∷ 98000 ∷ 98000 ∷ []))) (1568000, 10) (0 ∷ 784000 ∷ 784000 ∷ [])))
    ∷ []

-- more of one period, that tell its neighbours apart
abbrev pub further : List Tender
further =
    -- an observed offer: criterion 45,00, pay 20,00 per MW
    period money_first (need 10 0) (one_range A Rapid observed 10 (2000 ∷ []) None ∷ [])
    (Some (rr_award 4500 10 (10 ∷ []) (45000, 0) (20000 ∷ [])))
    -- a part of the second range
    ∷ period money_first (need 15 0) (twenty A Rapid 10000 11000 ∷ [])
    (Some (rr_award 11000 15 (15 ∷ []) (165000, 0) (165000 ∷ [])))
    -- as dear in RR as in RC: the lower RR price
    ∷ period money_first (need 0 10) (rr A 10 10000 ∷ rc B 10 10000 ∷ [])
    (Some (award 0 0 10000 10 (0 ∷ 10 ∷ []) (100000, 0) (0 ∷ 100000 ∷ [])))
    -- a lower RC price before a lower RR volume
    ∷ period money_first (need 10 10) (twenty A Rapid 10000 10000 ∷ rc B 10 10000 ∷ [])
    (Some (rr_award 10000 20 (20 ∷ 0 ∷ []) (200000, 0) (200000 ∷ 0 ∷ [])))
    -- a lower RR volume before a lower RC volume
    ∷ period money_first (need 10 20) (twenty A Rapid 10000 10000 ∷ twenty B Complementary 10000 10000 ∷ [])
    (Some (award 10000 10 10000 20 (10 ∷ 20 ∷ []) (300000, 0) (100000 ∷ 200000 ∷ [])))
    -- a criterion of 0 and no need: the lower volume
    ∷ period money_first (need 0 0) (one_range A Rapid short 10 (2500 ∷ []) None ∷ [])
    (Some (rr_award 0 0 (0 ∷ []) (0, 0) (0 ∷ [])))
    -- a criterion below 0 must be accepted, even with no need
    ∷ period money_first (need 0 0) (one_range A Rapid short 10 (2000 ∷ []) None ∷ [])
    (Some (rr_award 0 10 (10 ∷ []) (0, 0) (25000 ∷ [])))
    ∷ []

-- more months
abbrev pub further_months : List Tender
further_months =
    -- each period has its own days, need and prices
    month money_first (5 ∷ 2 ∷ []) (need 10 0 ∷ need 20 0 ∷ []) (one_range A Rapid observed 10 (3000 ∷ 4000 ∷ []) None ∷ one_range B Rapid plain 10 (5000 ∷ 4500 ∷ []) None ∷ [])
    (Some (month_award 0 (rr_award 5000 10 (0 ∷ 10 ∷ []) (50000, 0) (0 ∷ 50000 ∷ []) ∷ rr_award 5000 20 (10 ∷ 10 ∷ []) (100000, 0) (40000 ∷ 50000 ∷ []) ∷ []) (150000, 0) (40000 ∷ 100000 ∷ [])))
    -- what an RR block has above the RR need serves the RC need
    ∷ month money_first (5 ∷ []) (need 10 10 ∷ []) (one_range A Rapid short 20 (2000 ∷ []) (Some 2000) ∷ rc B 10 8000 ∷ [])
    (Some (month_award 1 (rr_award 0 0 (0 ∷ 0 ∷ []) (0, 0) (0 ∷ 0 ∷ []) ∷ []) (0, 0) (50000 ∷ 0 ∷ [])))
    -- an RC block never serves the RR need
    ∷ month money_first (5 ∷ []) (need 20 0 ∷ []) (rr A 10 10000 ∷ one_range B Complementary short 30 (2000 ∷ []) (Some 2000) ∷ []) None
    -- an RC block goes by the RC prices
    ∷ month money_first (5 ∷ []) (need 10 20 ∷ []) (rr A 10 5000 ∷ one_range B Complementary plain 10 (9000 ∷ []) (Some 8000) ∷ rc C 10 8500 ∷ [])
    (Some (month_award 1 (award 5000 10 8500 10 (10 ∷ 0 ∷ 10 ∷ []) (135000, 0) (50000 ∷ 0 ∷ 85000 ∷ []) ∷ []) (220000, 0) (50000 ∷ 85000 ∷ 85000 ∷ [])))
    -- a block's mark counts over all days of the month: its criterion is 60,00, which is the sum
    ∷ month money_first (5 ∷ 2 ∷ []) (replicate 2 (need 20 0)) (one_range A Rapid short 10 (9000 ∷ 9000 ∷ []) (Some 9500) ∷ one_range B Rapid plain 10 (3000 ∷ 3000 ∷ []) None ∷ one_range C Rapid plain 10 (3500 ∷ 3500 ∷ []) None ∷ [])
    (Some (month_award 1 (replicate 2 (rr_award 3000 10 (0 ∷ 10 ∷ 0 ∷ []) (30000, 0) (0 ∷ 30000 ∷ 0 ∷ []))) (120000, 0) (95000 ∷ 60000 ∷ 0 ∷ [])))
    -- a block sets no price, and is left out though its units are accepted
    ∷ month money_first (5 ∷ []) (need 10 0 ∷ []) (one_range A Rapid plain 10 (9000 ∷ []) (Some 8500) ∷ [])
    (Some (month_award 0 (rr_award 9000 10 (10 ∷ []) (90000, 0) (90000 ∷ []) ∷ []) (90000, 10) (90000 ∷ [])))
    -- a taken offer's units are gone, and its block is paid the sum
    ∷ month money_first february_2021 (replicate 8 (need 20 0)) (with_block 9000 75000)
    (Some (month_award 1 (replicate 8 (rr_award 9500 10 (0 ∷ 10 ∷ 0 ∷ []) (95000, 0) (0 ∷ 95000 ∷ 0 ∷ []))) (1520000, 0) (760000 ∷ 760000 ∷ 0 ∷ [])))
    -- as dear with the block as without: fewer blocks
    ∷ month money_first february_2021 (replicate 8 (need 20 0)) (with_block 9000 76000)
    (Some (month_award 0 (replicate 8 (rr_award 9500 20 (10 ∷ 10 ∷ 0 ∷ []) (190000, 0) (95000 ∷ 95000 ∷ 0 ∷ []))) (1520000, 0) (760000 ∷ 760000 ∷ 0 ∷ [])))
    -- one of two equal blocks: the smaller set number
    ∷ month money_first (5 ∷ []) (need 20 0 ∷ []) (one_range A Rapid plain 10 (10000 ∷ []) (Some 9500) ∷ one_range B Rapid plain 10 (10000 ∷ []) (Some 9500) ∷ rr C 10 9500 ∷ [])
    (Some (month_award 1 (rr_award 9500 10 (0 ∷ 0 ∷ 10 ∷ []) (95000, 0) (0 ∷ 0 ∷ 95000 ∷ []) ∷ []) (190000, 0) (95000 ∷ 0 ∷ 95000 ∷ [])))
    -- a month that no choice covers
    ∷ month money_first february_2021 (replicate 8 (need 31 0)) (with_block 9000 76000) None
    ∷ []

abbrev pub tenders : List Tender
tenders = told ++ (further ++ further_months)

unfoldable pub SmallTenders : Type 0
SmallTenders = AllByRecursion Worked tenders
