-- Each accepted call keeps the limits of a book.
use Rattle.std.proofs.Common.{◌≡◌, ℕ, ◌+◌, ◌≤◌, Bool, true, false, cond, not, ltb, leb, ◌⊎◌, List, [], ◌∷◌, ◌++◌, map, length, Some, Ok, filter, sym, refl, ap, subst, inl, inr, arith}
use Rattle.std.proofs.lemmas.Bool.{ltb-false, leb-true}
use Rattle.std.proofs.lemmas.List.{length-map, length_push}
use Rattle.std.proofs.ByRecursion.{All-push, All-map, all_kept_by, All-weaker}
use Rattle.std.specs.List.{range_with_len, AllByRecursion}
use Rattle.std.specs.Str.{bytes_eq}
use Rattle.text.specs.Judging.{must}
use Rattle.sheet.specs.Offer.{Offer, total, width}
use Rattle.sheet.specs.Saved.{Fits}
use Rattle.sheet.specs.Sheet.{read, read_alone}
use Rattle.sheet.specs.declared.product.Product.{Product}
use Rattle.sheet.specs.declared.product.Product.TheVariants.{Rapid, Complementary}
use Rattle.sheet.proofs.Kept.{read_keeps, alone_from}
use Rattle.book.specs.Limits.{most_offers, most_pairs, most_volume, most_blocks, is, count, row, ranges, is_of, breadth, has_block, InMonth, Limits}
use Rattle.book.specs.Roll.{Roll, new, stands, others, replaced, first_at, crowded, no_pairs, beside, with, entered, amended, withdrawn, needed}
use Rattle.book.specs.Step.{Call, enter, amend, withdraw, need, save, Answer, Step}
use Rattle.book.specs.Runs.{Runs, LimitsKept}
use Rattle.book.specs.Within.{all_counted}
use Rattle.book.specs.declared.fault.RegisterFault.TheVariants.{Volume, Blocks}
use Rattle.book.proofs.Known.{same_bytes, count_stands}
use Rattle.book.proofs.Law.{once_pushed, once_replaced}
use Rattle.book.proofs.Parts.{then_parts, must_parts, Admitted, with_parts, changed_parts, entered_parts, amended_parts, withdrawn_parts, needed_parts}
use Rattle.std.proofs.lemmas.List.Sums.{length-filter, count_by-le-length}
use Rattle.book.proofs.Sums.{sum_push, sum_kept, sum_swapped}

-- ---- what `beside` judges

none_first : (test : ℕ → Bool) (ts : List ℕ) → no_pairs (first_at test ts) ≡ Ok tt → AllByRecursion (λ t. test t ≡ false) ts
none_first test [] h = tt
none_first test (t ∷ ts) h = go (test t) refl (none_first test ts) h
  where
    go : (b : Bool) → test t ≡ b → (no_pairs (first_at test ts) ≡ Ok tt → AllByRecursion (λ u. test u ≡ false) ts) → no_pairs (cond b (Some t) (first_at test ts)) ≡ Ok tt → (test t ≡ false) × AllByRecursion (λ u. test u ≡ false) ts
    go true e more h = absurd (cc)
    go false e more h = (e, more h)

must_alone : {F : Type 0} (b : Bool) (f : F) → must b f ≡ Ok tt → b ≡ true
must_alone true f h = refl
must_alone false f h = absurd (cc)

record Beside (T : ℕ) (offers : List Offer) (o : Offer) : Type 0 where
  pairs : (t : ℕ) → 1 ≤ t → t ≤ T → ranges o.name (o ∷ offers) t ≤ most_pairs
  volume : breadth o.product (o ∷ offers) ≤ most_volume
  blocks : count has_block (o ∷ offers) ≤ most_blocks

beside_parts : (T : ℕ) (offers : List Offer) (o : Offer) → beside T offers o ≡ Ok tt → Beside T offers o
beside_parts T offers o h =
    let crowd : ℕ → Bool = λ t. ltb most_pairs (ranges o.name (o ∷ offers) t) in
    let p = then_parts (no_pairs (crowded T offers o)) _ tt h in
    let q = must_parts (leb (breadth o.product (o ∷ offers)) most_volume) Volume _ tt p.1 in
    let b = must_alone (leb (count has_block (o ∷ offers)) most_blocks) Blocks q.1 in
    let n = none_first crowd (range_with_len 1 T) p.0 in
    record {
      pairs = λ t low high. ltb-false most_pairs (ranges o.name (o ∷ offers) t) (all_counted (λ t. crowd t ≡ false) 1 T n t low (omega arith));
      volume = leb-true (breadth o.product (o ∷ offers)) most_volume q.0;
      blocks = leb-true (count has_block (o ∷ offers)) most_blocks b;
    }

same_product : (p q : Product) → (p ≡ q) ⊎ (is_of p q ≡ false)
same_product Rapid Rapid = inl refl
same_product Rapid Complementary = inr refl
same_product Complementary Rapid = inr refl
same_product Complementary Complementary = inl refl

-- ---- what is read fits

pub read_fits : (T before : ℕ) (text : List ℕ) (o : Offer) (rest : List ℕ) → read T before text ≡ Ok (o, rest) → Fits T o
read_fits T before text o rest h = (read_keeps T before text (o, rest) h).0

pub alone_fits : (T : ℕ) (text : List ℕ) (o : Offer) → read_alone T text ≡ Ok o → Fits T o
alone_fits T text o h = let a = alone_from T text o h in read_fits T 0 text o a.0 a.1

-- ---- offers joined by one

module _ (days : List ℕ) where
  joined_by : (base after : List Offer) (o : Offer) → Limits days base → ((g : Offer → ℕ) → total (map g after) ≡ g o + total (map g base)) → Beside (length days) base o →
      AllByRecursion (Fits (length days)) after → ((name : List ℕ) (number : ℕ) → count (is name number) after ≤ 1) → length after ≤ most_offers → Limits days after
  joined_by base after o l sum b fits apart few = record {
    month = l.month;
    sheets = fits;
    apart = apart;
    places = few;
    pairs = λ name t h. pairs name t h (bytes_eq o.name name) refl;
    volumes = volumes;
    blocks = let s = sum (λ x. cond (has_block x) 1 0) in let k = b.blocks in omega arith;
  }
    where
      pairs : (name : List ℕ) (t : ℕ) → InMonth days t → (s : Bool) → bytes_eq o.name name ≡ s → ranges name after t ≤ most_pairs
      pairs name t h true e =
          let s = sum (λ x. cond (bytes_eq x.name name) (length (row x t)) 0) in
          let k : ranges name (o ∷ base) t ≤ most_pairs = subst (λ n. ranges n (o ∷ base) t ≤ most_pairs) (same_bytes o.name name e) (b.pairs t h.0 h.1) in
          omega arith
      pairs name t h false e =
          let s = sum (λ x. cond (bytes_eq x.name name) (length (row x t)) 0) in
          let z : cond (bytes_eq o.name name) (length (row o t)) 0 ≡ 0 = ap (λ (b : Bool). cond b (length (row o t)) 0) e in
          let k = l.pairs name t h in
          omega arith

      volumes : (product : Product) → breadth product after ≤ most_volume
      volumes product =
          let s = sum (λ x. cond (is_of product x.product) (width x) 0) in
          elim (same_product product o.product) [
            | inl e ↦ let k : breadth product (o ∷ base) ≤ most_volume = subst (λ p. breadth p (o ∷ base) ≤ most_volume) (sym e) b.volume in omega arith
            | inr e ↦ let z : cond (is_of product o.product) (width o) 0 ≡ 0 = ap (λ (b : Bool). cond b (width o) 0) e in let k = l.volumes product in omega arith
          ]

  pub limits_less : (p : Offer → Bool) (offers : List Offer) → Limits days offers → Limits days (filter p offers)
  limits_less p offers l = record {
    month = l.month;
    sheets = all_kept_by p _ offers l.sheets;
    apart = λ name number. let c = sum_kept (λ x. cond (is name number x) 1 0) p offers in let k = l.apart name number in omega arith;
    places = let c : length (filter p offers) ≤ length offers = omega (arith, length-filter p offers, count_by-le-length p offers) in let k = l.places in omega arith;
    pairs = λ name t h. let c = sum_kept (λ x. cond (bytes_eq x.name name) (length (row x t)) 0) p offers in let k = l.pairs name t h in omega arith;
    volumes = λ product. let c = sum_kept (λ x. cond (is_of product x.product) (width x) 0) p offers in let k = l.volumes product in omega arith;
    blocks = let c = sum_kept (λ x. cond (has_block x) 1 0) p offers in let k = l.blocks in omega arith;
  }

  -- ---- what a call makes of the offers

  pub limits_none : length days ≤ 11 → total days ≤ 31 → Limits days []
  limits_none small short = record {
    month = (small, short);
    sheets = tt;
    apart = λ name number. omega arith;
    places = omega arith;
    pairs = λ name t h. omega arith;
    volumes = λ product. omega arith;
    blocks = omega arith;
  }

  pub limits_pushed : (offers : List Offer) (o : Offer) → Limits days offers → Fits (length days) o → Admitted (length days) offers o → Limits days (offers ++ (o ∷ []))
  limits_pushed offers o l fit a =
      joined_by offers (offers ++ (o ∷ [])) o l (λ g. sum_push g offers o) (beside_parts (length days) offers o a.within)
      (All-push (Fits (length days)) offers o l.sheets fit)
      (once_pushed offers o l.apart a.new_one)
      (let n = length_push offers o in let r = a.room in omega arith)

  pub limits_with : (offers after : List Offer) (o : Offer) → Limits days offers → Fits (length days) o → with (length days) offers o ≡ Ok after → Limits days after
  limits_with offers after o l fit h =
      let w = with_parts (length days) offers o after h in
      subst (Limits days) (sym w.1) (limits_pushed offers o l fit w.0)

  pub limits_replaced : (offers : List Offer) (o : Offer) → Limits days offers → Fits (length days) o → stands o.name o.number offers ≡ true →
      beside (length days) (others o.name o.number offers) o ≡ Ok tt → Limits days (replaced o offers)
  limits_replaced offers o l fit known h =
      let rest = others o.name o.number offers in
      let f : Offer → Offer = λ old. cond (is o.name o.number old) o old in
      let once : count (is o.name o.number) offers ≡ 1 = let a = l.apart o.name o.number in let c = count_stands o.name o.number offers known in omega arith in
      joined_by rest (replaced o offers) o (limits_less (λ x. not (is o.name o.number x)) offers l) (λ g. sum_swapped g o offers once) (beside_parts (length days) rest o h)
      (All-map (Fits (length days)) f offers (All-weaker (Fits (length days)) _ (λ x fx. either x (is o.name o.number x) fit fx) offers l.sheets))
      (once_replaced offers o l.apart)
      (let n = length-map offers f in let r = l.places in omega arith)
    where
      either : (x : Offer) (b : Bool) → Fits (length days) o → Fits (length days) x → Fits (length days) (cond b o x)
      either x true h g = h
      either x false h g = g

  pub limits_others : (offers : List Offer) (name : List ℕ) (number : ℕ) → Limits days offers → Limits days (others name number offers)
  limits_others offers name number l = limits_less (λ o. not (is name number o)) offers l

  -- ---- a step

  module _ (roll : Roll) (l : Limits days roll.offers) where
    same_roll : (after : Roll) → after ≡ roll → Limits days after.offers
    same_roll after e = subst (λ r. Limits days r.offers) (sym e) l

    pub limits_step : (c : Call) (a : Answer) (after : Roll) → Step (length days) roll c a after → Limits days after.offers
    limits_step (enter text) a after h = elim (changed_parts (entered (length days) roll text) roll a after h) [
      | inl s ↦
          let p = entered_parts (length days) roll text after s.0 in
          subst (λ r. Limits days r.offers) (sym p.made) (limits_pushed roll.offers p.offer l (alone_fits (length days) text p.offer p.sheet) p.enters)
      | inr s ↦ same_roll after s.2
    ]
    limits_step (amend text) a after h = elim (changed_parts (amended (length days) roll text) roll a after h) [
      | inl s ↦
          let p = amended_parts (length days) roll text after s.0 in
          subst (λ r. Limits days r.offers) (sym p.made) (limits_replaced roll.offers p.offer l (alone_fits (length days) text p.offer p.sheet) p.known p.within)
      | inr s ↦ same_roll after s.2
    ]
    limits_step (withdraw name number) a after h = elim (changed_parts (withdrawn (length days) roll name number) roll a after h) [
      | inl s ↦
          let p = withdrawn_parts (length days) roll name number after s.0 in
          subst (λ r. Limits days r.offers) (sym p.1) (limits_others roll.offers name number l)
      | inr s ↦ same_roll after s.2
    ]
    limits_step (need t rr rc) a after h = elim (changed_parts (needed (length days) roll t rr rc) roll a after h) [
      | inl s ↦ let p = needed_parts (length days) roll t rr rc after s.0 in subst (λ r. Limits days r.offers) (sym p.2) l
      | inr s ↦ same_roll after s.2
    ]
    limits_step (save name number room) a after h = same_roll after h.1

  -- ---- a run

  limits_run : (roll : Roll) → Limits days roll.offers → (calls : List Call) (answers : List Answer) (after : Roll) → Runs days roll calls answers after → Limits days after.offers
  limits_run roll l [] [] after h = subst (λ r. Limits days r.offers) (sym h) l
  limits_run roll l [] (a ∷ answers) after h = absurd h
  limits_run roll l (c ∷ calls) [] after h = absurd h
  limits_run roll l (c ∷ calls) (a ∷ answers) after h = limits_run h.0 (limits_step roll l c a h.0 h.1) calls answers after h.2

pub limits_kept : (days : List ℕ) → LimitsKept days
limits_kept days calls answers roll small short h = limits_run days (new (length days)) (limits_none days small short) calls answers roll h
