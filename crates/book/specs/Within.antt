-- The limits of a book as a test, for an invariant to hold, and the proof that it decides them. Assumes nothing.
use Rattle.std.specs.Prelude.{◌≡◌, ℕ, ◌+◌, ◌-◌, ◌<◌, ◌≤◌, Bool, true, false, cond, not, ◌&&◌, leb, ◌⊎◌, List, [], ◌∷◌, map, length, Some, None, Decides, Option, ◌==◌, nat_le, slice_index, slice_index_or, refl}
use Rattle.std.proofs.Common.{sym, subst, ◌∙◌, inl, inr, arith}
use Rattle.std.specs.List.{range_with_len, AllByRecursion}
use Rattle.std.specs.Str.{bytes_eq}
use Rattle.std.proofs.lemmas.List.FromFn.{length-range_with_len, get_or-range_with_len}
use Rattle.std.proofs.ByRecursion.{All-get_or, All-from_get_or, All-weaker, Decides-by_and}
use Rattle.std.proofs.lemmas.Slice.Eq.{bytes_eq-Decides}
use Rattle.std.proofs.lemmas.Bool.{leb-true, le-leb, not-true, not_from_false}
use Rattle.std.proofs.lemmas.Bool.Decides.{Decides-eqb, Decides-and}
use Rattle.text.specs.Form.{between, letter_or_digit}
use Rattle.sheet.specs.Limits.{longest_name, highest_number, lowest_floor, highest_floor, most_ranges, widest, highest_price, highest_block}
use Rattle.sheet.specs.Offer.{Offer, total, width}
use Rattle.sheet.specs.Saved.{RowFits, BlockFits, Fits}
use Rattle.sheet.specs.Sheet.{every, chain, priced}
use Rattle.sheet.specs.declared.product.Product.{Product}
use Rattle.sheet.specs.declared.product.Product.TheVariants.{Rapid, Complementary}
use Rattle.book.specs.Limits.{most_offers, most_pairs, most_volume, most_blocks, same, is, count, row, ranges, breadth, has_block, InMonth, Limits}

-- ---- the test

abbrev pub all_true : List Bool → Bool
all_true [] = true
all_true (test ∷ tests) = test && all_true tests

abbrev pub row_fitting : (ranges : ℕ) → Option (List ℕ) → Bool
row_fitting ranges None = true
row_fitting ranges (Some prices) = all_true ((length prices == ranges) ∷ every (λ p. leb p highest_price) prices ∷ chain leb prices ∷ [])

abbrev pub block_fitting : (T m : ℕ) → Option ℕ → Bool
block_fitting T m None = true
block_fitting T m (Some price) = all_true (nat_le price highest_block ∷ (m == T) ∷ [])

-- the limits of one offer in a month of T periods
unfoldable pub fitting : (T : ℕ) → Offer → Bool
fitting T o = all_true (
    between 1 longest_name (length o.name)
    ∷ every letter_or_digit o.name
    ∷ nat_le o.number highest_number
    ∷ between lowest_floor highest_floor o.floor
    ∷ not (o.observed && o.short)
    ∷ between 1 most_ranges (length o.widths)
    ∷ every (between 1 widest) o.widths
    ∷ (slice_index o.widths 0 == o.floor)
    ∷ nat_le (width o) widest
    ∷ (length o.rows == T)
    ∷ every (row_fitting (length o.widths)) o.rows
    ∷ block_fitting T (length (priced 1 o.rows)) o.block
    ∷ []
    )

-- the limits of a book: what is asked of every name, number and period is tested of those that occur
unfoldable pub within : (days : List ℕ) → List Offer → Bool
within days offers = all_true (
    nat_le (length days) 11
    ∷ nat_le (total days) 31
    ∷ every (fitting (length days)) offers
    ∷ every (λ o. leb (count (is o.name o.number) offers) 1) offers
    ∷ nat_le (length offers) most_offers
    ∷ every (λ o. every (λ t. leb (ranges o.name offers t) most_pairs) (range_with_len 1 (length days))) offers
    ∷ nat_le (breadth Rapid offers) most_volume
    ∷ nat_le (breadth Complementary offers) most_volume
    ∷ nat_le (count has_block offers) most_blocks
    ∷ []
    )

-- ---- what tests of parts decide

decides_leb : (a b : ℕ) → Decides (nat_le a b) (a ≤ b)
decides_leb a b = (leb-true a b, le-leb a b)

decides_between : (low high n : ℕ) → Decides (between low high n) ((low ≤ n) × (n ≤ high))
decides_between low high n = Decides-and (nat_le low n) (nat_le n high) (decides_leb low n) (decides_leb n high)

decides_every : {X : Type 0} (test : X → Bool) (P : X → Type 0) → ((x : X) → Decides (test x) (P x)) → (xs : List X) → Decides (every test xs) (AllByRecursion P xs)
decides_every test P each = Decides-by_and test P (every test) each refl (λ x xs. refl)

decides_itself : (b : Bool) → Decides b (b ≡ true)
decides_itself b = (λ h. h, λ h. h)

decides_not : (b : Bool) → Decides (not b) (b ≡ false)
decides_not b = (not-true b, not_from_false b)

decides_none : Decides true (Unit {0})
decides_none = (λ h. tt, λ h. refl)

-- ---- one offer

row_decides : (ranges : ℕ) (prices : Option (List ℕ)) → Decides (row_fitting ranges prices) (RowFits ranges prices)
row_decides ranges None = decides_none
row_decides ranges (Some prices) =
    let all = Decides-and _ _ (Decides-eqb (length prices) ranges)
    (Decides-and _ _ (decides_every (λ p. leb p highest_price) (λ p. p ≤ highest_price) (λ p. decides_leb p highest_price) prices)
    (Decides-and _ _ (decides_itself (chain leb prices)) decides_none)) in
    (λ h. let p = all.0 h in (p.0, p.1.0, p.1.1.0), λ f. all.1 (f.0, (f.1, (f.2, tt))))

block_decides : (T m : ℕ) (block : Option ℕ) → Decides (block_fitting T m block) (BlockFits T m block)
block_decides T m None = decides_none
block_decides T m (Some price) =
    let all = Decides-and _ _ (decides_leb price highest_block) (Decides-and _ _ (Decides-eqb m T) decides_none) in
    (λ h. let p = all.0 h in (p.0, p.1.0), λ f. all.1 (f.0, (f.1, tt)))

pub fitting_decides : (T : ℕ) (o : Offer) → Decides (fitting T o) (Fits T o)
unfolding fitting
fitting_decides T o =
    let marks = o.observed && o.short in
    let last = Decides-and _ _ (Decides-eqb (length o.rows) T)
    (Decides-and _ _ (decides_every (row_fitting (length o.widths)) (RowFits (length o.widths)) (row_decides (length o.widths)) o.rows)
    (Decides-and _ _ (block_decides T (length (priced 1 o.rows)) o.block) decides_none)) in
    let wide = Decides-and _ _ (decides_between 1 most_ranges (length o.widths))
    (Decides-and _ _ (decides_every (between 1 widest) (λ w. (1 ≤ w) × (w ≤ widest)) (decides_between 1 widest) o.widths)
    (Decides-and _ _ (Decides-eqb (slice_index o.widths 0) o.floor)
    (Decides-and _ _ (decides_leb (width o) widest) last))) in
    let all = Decides-and _ _ (decides_between 1 longest_name (length o.name))
    (Decides-and _ _ (decides_every letter_or_digit (λ b. letter_or_digit b ≡ true) (λ b. decides_itself (letter_or_digit b)) o.name)
    (Decides-and _ _ (decides_leb o.number highest_number)
    (Decides-and _ _ (decides_between lowest_floor highest_floor o.floor)
    (Decides-and _ _ (decides_not marks) wide)))) in (
      λ h.
          let p = all.0 h in
          let w = p.1.1.1.1.1 in
          let l = w.1.1.1.1 in
          record {
            name_length = p.0;
            name_bytes = p.1.0;
            number_most = p.1.1.0;
            floor_range = p.1.1.1.0;
            one_mark = p.1.1.1.1.0;
            range_count = w.0;
            range_widths = w.1.0;
            first_width = w.1.1.0;
            whole_width = w.1.1.1.0;
            whole_month = l.0;
            row_prices = l.1.0;
            block_price = l.1.1.0;
          },
      λ f.
          all.1 (f.name_length, (f.name_bytes, (f.number_most, (f.floor_range, (f.one_mark, (f.range_count, (f.range_widths, (f.first_width, (f.whole_width, (f.whole_month, (f.row_prices, (f.block_price, tt)))))))))))),
    )

-- ---- all offers

all_of : {X : Type 0} (P : X → Type 0) → ((x : X) → P x) → (xs : List X) → AllByRecursion P xs
all_of P each [] = tt
all_of P each (x ∷ xs) = (each x, all_of P each xs)

pub all_counted : (P : ℕ → Type 0) (a n : ℕ) → AllByRecursion P (range_with_len a n) → (t : ℕ) → a ≤ t → t < a + n → P t
all_counted P a n h t low high =
    let at : slice_index_or (range_with_len a n) (t - a) 0 ≡ t = get_or-range_with_len a n (t - a) 0 (omega arith) ∙ omega arith in
    subst P at (All-get_or P (range_with_len a n) (t - a) 0 (rw length-range_with_len (omega arith)) h)

all_counting : (P : ℕ → Type 0) (a n : ℕ) → ((t : ℕ) → a ≤ t → t < a + n → P t) → AllByRecursion P (range_with_len a n)
all_counting P a n each =
    All-from_get_or P (range_with_len a n) 0 (λ i h. let l : i < n = rw length-range_with_len at h in subst P (sym (get_or-range_with_len a n i 0 l)) (each (a + i) (omega arith) (omega arith)))

-- a sum over those that pass a test: none passes, or what follows of each that passes holds
none_or : {X : Type 0} (p : X → Bool) (w : X → ℕ) (B : Type 0) (xs : List X) → AllByRecursion (λ x. p x ≡ true → B) xs → (total (map (λ x. cond (p x) (w x) 0) xs) ≡ 0) ⊎ B
none_or p w B [] h = inl refl
none_or p w B (x ∷ xs) h = go (p x) h.0 (none_or p w B xs h.1)
  where
    go : (b : Bool) → (b ≡ true → B) → (total (map (λ x. cond (p x) (w x) 0) xs) ≡ 0) ⊎ B → (cond b (w x) 0 + total (map (λ x. cond (p x) (w x) 0) xs) ≡ 0) ⊎ B
    go true here more = inr (here refl)
    go false here more = elim more [ inl e ↦ inl (omega arith) | inr b ↦ inr b ]

sum_most : {X : Type 0} (p : X → Bool) (w : X → ℕ) (most : ℕ) (xs : List X) → AllByRecursion (λ x. p x ≡ true → total (map (λ x. cond (p x) (w x) 0) xs) ≤ most) xs → total (map (λ x. cond (p x) (w x) 0) xs) ≤ most
sum_most p w most xs h = elim (none_or p w (total (map (λ x. cond (p x) (w x) 0) xs) ≤ most) xs h) [ inl e ↦ omega arith | inr b ↦ b ]

-- by name and number
pub same_decides : (name : List ℕ) (number : ℕ) (n : List ℕ) (k : ℕ) → Decides (same name number n k) ((n ≡ name) × (k ≡ number))
same_decides name number n k = Decides-and (bytes_eq n name) (k == number) (bytes_eq-Decides n name) (Decides-eqb k number)

apart_decides : (offers : List Offer) → Decides (every (λ o. leb (count (is o.name o.number) offers) 1) offers) ((name : List ℕ) (number : ℕ) → count (is name number) offers ≤ 1)
apart_decides offers =
    let Once : List ℕ → ℕ → Type 0 = λ name number. count (is name number) offers ≤ 1 in
    let each = decides_every (λ o. leb (count (is o.name o.number) offers) 1) (λ o. Once o.name o.number) (λ o. decides_leb (count (is o.name o.number) offers) 1) offers in (
      λ h name number. sum_most (is name number) (λ o. 1) 1 offers (All-weaker (λ o. Once o.name o.number) _ (λ o once known. moved name number o once known) offers (each.0 h)),
      λ h. each.1 (all_of (λ o. Once o.name o.number) (λ o. h o.name o.number) offers),
    )
  where
    moved : (name : List ℕ) (number : ℕ) (o : Offer) → count (is o.name o.number) offers ≤ 1 → is name number o ≡ true → count (is name number) offers ≤ 1
    moved name number o once known =
        let e = (same_decides name number o.name o.number).0 known in
        subst (λ n. count (is n number) offers ≤ 1) e.0 (subst (λ k. count (is o.name k) offers ≤ 1) e.1 once)

pairs_decide : (days : List ℕ) (offers : List Offer) → Decides (every (λ o. every (λ t. leb (ranges o.name offers t) most_pairs) (range_with_len 1 (length days))) offers) ((name : List ℕ) (t : ℕ) → InMonth days t → ranges name offers t ≤ most_pairs)
pairs_decide days offers =
    let Few : List ℕ → ℕ → Type 0 = λ name t. ranges name offers t ≤ most_pairs in
    let each = decides_every (λ o. every (λ t. leb (ranges o.name offers t) most_pairs) (range_with_len 1 (length days))) (λ o. AllByRecursion (Few o.name) (range_with_len 1 (length days)))
    (λ o. decides_every (λ t. leb (ranges o.name offers t) most_pairs) (Few o.name) (λ t. decides_leb (ranges o.name offers t) most_pairs) (range_with_len 1 (length days))) offers in (
      λ h name t in_month.
          sum_most (λ o. bytes_eq o.name name) (λ o. length (row o t)) most_pairs offers
          (All-weaker (λ o. AllByRecursion (Few o.name) (range_with_len 1 (length days))) _
          (λ o few known. subst (λ n. ranges n offers t ≤ most_pairs) ((bytes_eq-Decides o.name name).0 known) (all_counted (Few o.name) 1 (length days) few t in_month.0 (omega arith))) offers (each.0 h)),
      λ h. each.1 (all_of (λ o. AllByRecursion (Few o.name) (range_with_len 1 (length days))) (λ o. all_counting (Few o.name) 1 (length days) (λ t low high. h o.name t (low, omega arith))) offers),
    )

pub within_decides : (days : List ℕ) (offers : List Offer) → Decides (within days offers) (Limits days offers)
unfolding within
within_decides days offers =
    let all = Decides-and _ _ (decides_leb (length days) 11)
    (Decides-and _ _ (decides_leb (total days) 31)
    (Decides-and _ _ (decides_every (fitting (length days)) (Fits (length days)) (fitting_decides (length days)) offers)
    (Decides-and _ _ (apart_decides offers)
    (Decides-and _ _ (decides_leb (length offers) most_offers)
    (Decides-and _ _ (pairs_decide days offers)
    (Decides-and _ _ (decides_leb (breadth Rapid offers) most_volume)
    (Decides-and _ _ (decides_leb (breadth Complementary offers) most_volume)
    (Decides-and _ _ (decides_leb (count has_block offers) most_blocks) decides_none)))))))) in (
      λ h.
          let p = all.0 h in
          let q = p.1.1.1.1 in
          record {
            month = (p.0, p.1.0);
            sheets = p.1.1.0;
            apart = p.1.1.1.0;
            places = q.0;
            pairs = q.1.0;
            volumes = λ product. of product q.1.1.0 q.1.1.1.0;
            blocks = q.1.1.1.1.0;
          },
      λ l. all.1 (l.month.0, (l.month.1, (l.sheets, (l.apart, (l.places, (l.pairs, (l.volumes Rapid, (l.volumes Complementary, (l.blocks, tt))))))))),
    )
  where
    of : (product : Product) → breadth Rapid offers ≤ most_volume → breadth Complementary offers ≤ most_volume → breadth product offers ≤ most_volume
    of Rapid r c = r
    of Complementary r c = c

pub within_limits : (days : List ℕ) (offers : List Offer) → within days offers ≡ true → Limits days offers
within_limits days offers = (within_decides days offers).0

pub limits_within : (days : List ℕ) (offers : List Offer) → Limits days offers → within days offers ≡ true
limits_within days offers = (within_decides days offers).1
