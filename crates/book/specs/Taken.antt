-- The book of taken blocks: what a choice of blocks leaves, and the proof that it keeps the limits. Assumes nothing.
use Rattle.std.specs.Prelude.{◌≡◌, ℕ, zero, suc, ◌+◌, ◌-◌, ◌/◌, ◌%◌, ◌^◌, ◌≤◌, Bool, true, false, cond, ◌&&◌, List, [], ◌∷◌, map, length, None, Option, ◌==◌, slice_index_or, refl}
use Rattle.std.proofs.Common.{ap, ◌∙◌, arith}
use Rattle.std.specs.List.{AllByRecursion}
use Rattle.std.specs.Str.{bytes_eq}
use Rattle.std.proofs.lemmas.List.{length-map}
use Rattle.sheet.specs.Offer.{Offer, total, width}
use Rattle.sheet.specs.Saved.{RowFits, Fits}
use Rattle.book.specs.Limits.{is, count, row, is_of, has_block, Limits}
use Rattle.book.specs.Within.{within, within_limits, limits_within}

-- a choice of blocks is a set number below this
abbrev pub choices : List Offer → ℕ
choices offers = 2 ^ count has_block offers

-- whether 2 ^ place is in a set number
abbrev pub holds : (choice place : ℕ) → Bool
holds choice place = choice / 2 ^ place % 2 == 1

-- a taken offer is offered in no period and has no block
abbrev pub withheld : Offer → Offer
withheld o = record {
  name = o.name;
  number = o.number;
  floor = o.floor;
  product = o.product;
  observed = o.observed;
  short = o.short;
  widths = o.widths;
  rows = map (λ _. None) o.rows;
  block = None;
}

-- whether each offer's block is taken: of those that have one, the first counts 2 ^ place, and each next one twice as much
abbrev pub takes_from : (place choice : ℕ) → List Offer → List Bool
takes_from place choice [] = []
takes_from place choice (o ∷ os) = (has_block o && holds choice place) ∷ takes_from (place + cond (has_block o) 1 0) choice os

abbrev pub takes : (choice : ℕ) → List Offer → List Bool
takes choice offers = takes_from 0 choice offers

-- each offer keeps its place
abbrev pub taken_from : (place choice : ℕ) → List Offer → List Offer
taken_from place choice [] = []
taken_from place choice (o ∷ os) = cond (has_block o && holds choice place) (withheld o) o ∷ taken_from (place + cond (has_block o) 1 0) choice os

-- the book that a choice of blocks leaves
abbrev pub taken : (choice : ℕ) → List Offer → List Offer
taken choice offers = taken_from 0 choice offers

-- ---- the limits stay

pub length_taken : (place choice : ℕ) (offers : List Offer) → length (taken_from place choice offers) ≡ length offers
length_taken place choice [] = refl
length_taken place choice (o ∷ os) = ap suc (length_taken (place + cond (has_block o) 1 0) choice os)

all_taken : (P : Offer → Type 0) → ((o : Offer) → P o → P (withheld o)) → (place choice : ℕ) (offers : List Offer) → AllByRecursion P offers → AllByRecursion P (taken_from place choice offers)
all_taken P less place choice [] h = tt
all_taken P less place choice (o ∷ os) h = (either (has_block o && holds choice place) h.0, all_taken P less (place + cond (has_block o) 1 0) choice os h.1)
  where
    either : (b : Bool) → P o → P (cond b (withheld o) o)
    either true p = less o p
    either false p = p

sum_taken : (g : Offer → ℕ) → ((o : Offer) → g (withheld o) ≤ g o) → (place choice : ℕ) (offers : List Offer) → total (map g (taken_from place choice offers)) ≤ total (map g offers)
sum_taken g less place choice [] = omega arith
sum_taken g less place choice (o ∷ os) = either (has_block o && holds choice place) (sum_taken g less (place + cond (has_block o) 1 0) choice os)
  where
    others : List Offer
    others = taken_from (place + cond (has_block o) 1 0) choice os

    either : (b : Bool) → total (map g others) ≤ total (map g os) → g (cond b (withheld o) o) + total (map g others) ≤ g o + total (map g os)
    either true h = let k = less o in omega arith
    either false h = omega arith

no_rows : (ranges : ℕ) (rows : List (Option (List ℕ))) → AllByRecursion (RowFits ranges) (map (λ _. None) rows)
no_rows ranges [] = tt
no_rows ranges (r ∷ rows) = (tt, no_rows ranges rows)

none_at : (rows : List (Option (List ℕ))) (i : ℕ) → ◌≡◌ {A = Option (List ℕ)} (slice_index_or (map (λ _. None) rows) i None) None
none_at [] i = refl
none_at (r ∷ rows) zero = refl
none_at (r ∷ rows) (suc i) = none_at rows i

pub no_row : (o : Offer) (t : ℕ) → row (withheld o) t ≡ []
no_row o t = rw (none_at o.rows (t - 1)) refl

pub withheld_fits : (T : ℕ) (o : Offer) → Fits T o → Fits T (withheld o)
withheld_fits T o f = record {
  name_length = f.name_length;
  name_bytes = f.name_bytes;
  number_most = f.number_most;
  floor_range = f.floor_range;
  one_mark = f.one_mark;
  range_count = f.range_count;
  range_widths = f.range_widths;
  first_width = f.first_width;
  whole_width = f.whole_width;
  whole_month = length-map o.rows (λ _. None) ∙ f.whole_month;
  row_prices = no_rows (length o.widths) o.rows;
  block_price = tt;
}

pub taken_limits : (days : List ℕ) (choice : ℕ) (offers : List Offer) → Limits days offers → Limits days (taken choice offers)
taken_limits days choice offers l = record {
  month = l.month;
  sheets = all_taken (Fits (length days)) (withheld_fits (length days)) 0 choice offers l.sheets;
  apart = λ name number. let s = sum_taken (λ o. cond (is name number o) 1 0) (λ o. omega arith) 0 choice offers in let k = l.apart name number in omega arith;
  places = let n = length_taken 0 choice offers in let k = l.places in omega arith;
  pairs = λ name t h. let s = sum_taken (λ o. cond (bytes_eq o.name name) (length (row o t)) 0) (fewer name t) 0 choice offers in let k = l.pairs name t h in omega arith;
  volumes = λ product. let s = sum_taken (λ o. cond (is_of product o.product) (width o) 0) (λ o. omega arith) 0 choice offers in let k = l.volumes product in omega arith;
  blocks = let s = sum_taken (λ o. cond (has_block o) 1 0) (λ o. omega arith) 0 choice offers in let k = l.blocks in omega arith;
}
  where
    fewer : (name : List ℕ) (t : ℕ) (o : Offer) → cond (bytes_eq o.name name) (length (row (withheld o) t)) 0 ≤ cond (bytes_eq o.name name) (length (row o t)) 0
    fewer name t o = go (bytes_eq o.name name) (ap length (no_row o t))
      where
        go : (b : Bool) → length (row (withheld o) t) ≡ 0 → cond b (length (row (withheld o) t)) 0 ≤ cond b (length (row o t)) 0
        go true h = omega arith
        go false h = omega arith

pub taken_within : (days : List ℕ) (choice : ℕ) (offers : List Offer) → within days offers ≡ true → within days (taken choice offers) ≡ true
taken_within days choice offers h = limits_within days (taken choice offers) (taken_limits days choice offers (within_limits days offers h))
