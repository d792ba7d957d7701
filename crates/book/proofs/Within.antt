-- What a register's calls make of its offers passes the test of the limits.
use Rattle.std.proofs.Common.{◌≡◌, ℕ, zero, suc, ◌+◌, true, ◌&&◌, leb, List, [], ◌∷◌, ◌++◌, length, Ok, sum, subst, arith}
use Rattle.std.proofs.lemmas.Bool.{and_parts, leb-true}
use Rattle.calendar.specs.Kept.{week_long, sound}
use Rattle.calendar.specs.Opening.{most_periods}
use Rattle.sheet.specs.Offer.{Offer}
use Rattle.sheet.specs.Saved.{Fits}
use Rattle.sheet.specs.Sheet.{read, read_alone, lines}
use Rattle.book.specs.Deposit.{entering, deposited}
use Rattle.book.specs.Fault.{of_sheet}
use Rattle.book.specs.Roll.{stands, others, replaced, beside, admitted, with}
use Rattle.book.specs.Within.{within, within_limits, limits_within}
use Rattle.book.specs.declared.fault.RegisterFault.{RegisterFault}
use Rattle.book.proofs.Adding.{sum_total}
use Rattle.book.proofs.Limited.{alone_fits, read_fits, limits_none, limits_pushed, limits_with, limits_replaced, limits_others}
use Rattle.book.proofs.Parts.{bind_parts, ok_same, of_sheet_parts, admitted_parts}

-- a new register, under the day counts of a calendar
pub within_none : (days : List ℕ) → sound days ≡ true → within days [] ≡ true
within_none days h =
    let a = and_parts (leb 1 (length days) && leb (length days) most_periods && leb (sum days) 31) (week_long days) h in
    let b = and_parts (leb 1 (length days) && leb (length days) most_periods) (leb (sum days) 31) a.0 in
    let c = and_parts (leb 1 (length days)) (leb (length days) most_periods) b.0 in
    let few = leb-true (length days) most_periods c.1 in
    let short = leb-true (sum days) 31 b.1 in
    let same = sum_total days in
    limits_within days [] (limits_none days few (omega arith))

module _ (days : List ℕ) (offers : List Offer) (h : within days offers ≡ true) where
  -- an entry and an amendment, of an offer that fits the month
  module _ (o : Offer) (fits : Fits (length days) o) where
    pub fit_admitted : admitted (length days) offers o ≡ Ok tt → within days (offers ++ (o ∷ [])) ≡ true
    fit_admitted enters = limits_within days (offers ++ (o ∷ [])) (limits_pushed days offers o (within_limits days offers h) fits (admitted_parts (length days) offers o enters))

    pub fit_with : (after : List Offer) → with (length days) offers o ≡ Ok after → within days after ≡ true
    fit_with after enters = limits_within days after (limits_with days offers after o (within_limits days offers h) fits enters)

    pub fit_replaced : stands o.name o.number offers ≡ true → beside (length days) (others o.name o.number offers) o ≡ Ok tt → within days (replaced o offers) ≡ true
    fit_replaced known alone = limits_within days (replaced o offers) (limits_replaced days offers o (within_limits days offers h) fits known alone)

  -- what is read alone: an entry, by the judgement and by the list that it makes, and an amendment
  module _ (text : List ℕ) (o : Offer) (sheet : read_alone (length days) text ≡ Ok o) where
    pub within_admitted : admitted (length days) offers o ≡ Ok tt → within days (offers ++ (o ∷ [])) ≡ true
    within_admitted = fit_admitted o (alone_fits (length days) text o sheet)

    pub within_with : (after : List Offer) → with (length days) offers o ≡ Ok after → within days after ≡ true
    within_with = fit_with o (alone_fits (length days) text o sheet)

    pub within_replaced : stands o.name o.number offers ≡ true → beside (length days) (others o.name o.number offers) o ≡ Ok tt → within days (replaced o offers) ≡ true
    within_replaced = fit_replaced o (alone_fits (length days) text o sheet)

  -- what is read at the front of a text: a sheet of a deposit
  pub within_read : (before : ℕ) (text rest : List ℕ) (o : Offer) → read (length days) before text ≡ Ok (o, rest) → (after : List Offer) → with (length days) offers o ≡ Ok after → within days after ≡ true
  within_read before text rest o sheet = fit_with o (read_fits (length days) before text o rest sheet)

  -- a withdrawal
  pub within_others : (name : List ℕ) (number : ℕ) → within days (others name number offers) ≡ true
  within_others name number = limits_within days (others name number offers) (limits_others days offers name number (within_limits days offers h))

-- the sheets of a deposit
within_entering : (days : List ℕ) (turns before : ℕ) (offers : List Offer) (text : List ℕ) (after : List Offer) → within days offers ≡ true → entering (length days) turns before offers text ≡ Ok after → within days after ≡ true
within_entering days turns before offers [] after h e = subst (λ os. within days os ≡ true) (ok_same {F = RegisterFault} offers after e) h
within_entering days zero before offers (b ∷ text) after h e = let z : ◌≡◌ {A = ℕ} 0 1 = cc in absurd (omega arith)
within_entering days (suc turns) before offers (b ∷ text) after h e =
    let p = bind_parts (of_sheet (read (length days) before (b ∷ text))) _ after e in
    let q = bind_parts (with (length days) offers p.0.0) _ after p.2 in
    within_entering days turns (before + lines p.0.0) q.0 p.0.1 after
    (within_read days offers h before (b ∷ text) p.0.1 p.0.0 (of_sheet_parts _ p.0 p.1) q.0 q.1) q.2

pub within_deposited : (days : List ℕ) (before : ℕ) (text : List ℕ) (offers : List Offer) → sound days ≡ true → deposited (length days) before text ≡ Ok offers → within days offers ≡ true
within_deposited days before text offers h e = within_entering days 33 before [] text offers (within_none days h) e
