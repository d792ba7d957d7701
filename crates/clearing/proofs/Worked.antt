-- The small tenders are as the table says: one test over all of them. Assumes nothing.
use Rattle.std.proofs.Common.{◌≡◌, ℕ, ◌+◌, Bool, true, false, cond, not, ◌&&◌, ◌||◌, T, ltb, List, [], ◌∷◌, ◌++◌, map, pos, Some, None, Option, Ordering, Less, Equal, Greater, sym, refl, subst, inl, inr, arith, ltb→lt, T_not}
use lib.Signed.{le_z}
use Rattle.std.specs.List.{AllByRecursion}
use Rattle.calendar.specs.Opening.{opened}
use Rattle.calendar.specs.Periods.{by_week}
use Rattle.sheet.specs.Offer.{Offer, total}
use Rattle.book.specs.Needs.{need_of}
use Rattle.book.specs.declared.need.Need.{Need}
use Rattle.cost.specs.LeftOut.{left_out_rule}
use Rattle.cost.specs.Money.{money_rule}
use Rattle.cost.specs.Rule.{Rule, Ranks}
use Rattle.cost.proofs.Order.{not_same, not_both}
use Rattle.clearing.specs.Words.{together, each}
use Rattle.clearing.specs.Criterion.{criterion}
use Rattle.clearing.specs.Period.{joining, Award, Cover, Named, NothingAdmitted}
use Rattle.book.specs.Taken.{choices}
use Rattle.clearing.specs.Month.{cover_of, blocks, Block, none, chosen, other, remaining, still, blocks_taken, MonthAward, prices_sum, NamedPeriods, BlockAdmitted, block_charges, block_paid, added_up, AdmittedMonth, BeforeMonth}
use Rattle.clearing.specs.Tenders.{Way, money_first, left_out_first, rule, Tender, period, month, Comes, ComesMonth, Worked, tenders, SmallTenders, FebruaryOpens}
use Rattle.clearing.proofs.Tests.{and_left, and_right, implied, every, every_all, all_member, lower, lower_told, same_list, same_list_is, partners, partners_is, partners_told}
use Rattle.clearing.proofs.Judging.{Compares, whole_compares, pair_compares, same_cost, same_cost_is, before, before_told, admitted, admitted_is}
use Rattle.clearing.proofs.Listing.{run, member_run, candidates, listed}
use Rattle.clearing.proofs.Unique.{one_named}

module _ (d t : ℕ) (offers : List Offer) (R : Rule) (K : Compares R) (cover : Cover) where
  -- it is admitted, and no admitted award goes before it
  abbrev pub is_named : Award R → Bool
  is_named a = admitted d t offers R K cover a && every (λ b. not (before R K b a)) (candidates d t offers R cover)

  pub named_by : (a : Award R) → T (is_named a) → Named d t offers R cover a
  named_by a s = record {
    admitted = admitted_is d t offers R K cover a (and_left (admitted d t offers R K cover a) (every (λ b. not (before R K b a)) (candidates d t offers R cover)) s);
    first = λ b h l. T_not (before R K b a)
        (all_member (λ c. T (not (before R K c a))) (listed d t offers R cover b h) (every_all (λ c. not (before R K c a)) (candidates d t offers R cover) (and_right (admitted d t offers R K cover a) (every (λ b. not (before R K b a)) (candidates d t offers R cover)) s)))
        (before_told R K b a l);
  }

  abbrev pub is_short : Bool
  is_short = every (λ b. false) (candidates d t offers R cover)

  pub short_by : T is_short → NothingAdmitted d t offers R cover
  short_by s b h = all_member (λ c. ⊥) (listed d t offers R cover b h) (every_all (λ c. false) (candidates d t offers R cover) s)

  abbrev pub comes : Option (Award R) → Bool
  comes None = is_short
  comes (Some a) = is_named a

  -- a passed test is the theorem
  pub comes_by : (o : Option (Award R)) → T (comes o) → Comes d t offers R cover o
  comes_by None s = short_by s
  comes_by (Some a) s = named_by a s

-- the first of these awards
abbrev pub first_of : (R : Rule) → Compares R → List (Award R) → Option (Award R)
first_of R K [] = None
first_of R K (a ∷ as') = elim (first_of R K as') [ None ↦ Some a | Some b ↦ cond (before R K b a) (Some b) (Some a) ]

-- ---- a month

abbrev pub block_ok : (R : Rule) (days : List ℕ) → List (Award R) → Offer → Block → Bool
block_ok R days awards o none = true
block_ok R days awards o (chosen p) = le_z (criterion o (total days) p) (pos (prices_sum awards o.product))
block_ok R days awards o (other p) = true

module _ (R : Rule) (K : Compares R) (days : List ℕ) (offers : List Offer) (needs : List Need) where
  -- the award found for a period is the one named for it, and what follows from it holds; or the period is short
  abbrev pub continued : (set t d : ℕ) → (Award R → Bool) → Option (Award R) → Bool
  continued set t d test None = is_short d t (remaining offers set) R K (still offers set (need_of needs t))
  continued set t d test (Some a) = is_named d t (remaining offers set) R K (still offers set (need_of needs t)) a && test a

  continued_is : (set t d : ℕ) (test : Award R → Bool) (o : Option (Award R)) → T (continued set t d test o) →
      (b : Award R) → Named d t (remaining offers set) R (still offers set (need_of needs t)) b → T (test b)
  continued_is set t d test None s b n = absurd (short_by d t (remaining offers set) R K (still offers set (need_of needs t)) s b n.admitted)
  continued_is set t d test (Some a) s b n =
      let yes' = and_left (is_named d t (remaining offers set) R K (still offers set (need_of needs t)) a) (test a) s in
      subst (λ v. T (test v)) (one_named d t (remaining offers set) R (still offers set (need_of needs t)) a b (named_by d t (remaining offers set) R K (still offers set (need_of needs t)) a yes') n)
      (and_right (is_named d t (remaining offers set) R K (still offers set (need_of needs t)) a) (test a) s)

  -- the test holds of the awards of the periods from t on
  abbrev pub with_periods : (set t : ℕ) → List ℕ → (List (Award R) → Bool) → Bool
  with_periods set t [] test = test []
  with_periods set t (d ∷ ds) test =
      continued set t d (λ a. with_periods set (t + 1) ds (λ rest. test (a ∷ rest))) (first_of R K (candidates d t (remaining offers set) R (still offers set (need_of needs t))))

  with_periods_is : (set t : ℕ) (ds : List ℕ) (test : List (Award R) → Bool) → T (with_periods set t ds test) →
      (awards : List (Award R)) → NamedPeriods R days offers needs set t ds awards → T (test awards)
  with_periods_is set t [] test s [] n = s
  with_periods_is set t [] test s (b ∷ bs) n = absurd n
  with_periods_is set t (d ∷ ds) test s [] n = absurd n
  with_periods_is set t (d ∷ ds) test s (b ∷ bs) n =
      with_periods_is set (t + 1) ds (λ rest. test (b ∷ rest))
      (continued_is set t d (λ a. with_periods set (t + 1) ds (λ rest. test (a ∷ rest))) (first_of R K (candidates d t (remaining offers set) R (still offers set (need_of needs t)))) s b n.0)
      bs n.1

  abbrev pub made_month : ℕ → List (Award R) → MonthAward R
  made_month set awards = record {
    choice = set;
    periods = awards;
    month_cost = joining R (map (λ p. p.cost) awards ++ together (each (block_charges R days awards) offers (blocks offers set)));
    month_pays = added_up (each (block_paid R days awards) offers (blocks offers set)) awards;
  }

  block_told : (awards : List (Award R)) (o : Offer) (b : Block) → BlockAdmitted R days awards o b → T (block_ok R days awards o b)
  block_told awards o none h = tt
  block_told awards o (chosen p) h = h.le
  block_told awards o (other p) h = tt

  block_is : (awards : List (Award R)) (o : Offer) (b : Block) → T (block_ok R days awards o b) → BlockAdmitted R days awards o b
  block_is awards o none s = tt
  block_is awards o (chosen p) s = record { le = s }
  block_is awards o (other p) s = tt

  -- every choice that is admitted passes the test
  abbrev pub all_choices : (MonthAward R → Bool) → Bool
  all_choices test =
      every (λ set. with_periods set 1 days (λ awards. not (partners (block_ok R days awards) offers (blocks offers set)) || test (made_month set awards))) (run 0 (choices offers))

  all_choices_is : (test : MonthAward R → Bool) → T (all_choices test) → (b : MonthAward R) → AdmittedMonth R days offers needs b → T (test b)
  all_choices_is test s b h =
      let at_set = all_member (λ set. T (with_periods set 1 days (λ awards. not (partners (block_ok R days awards) offers (blocks offers set)) || test (made_month set awards))))
      (member_run 0 (choices offers) b.choice (omega arith) (omega (arith, h.choice_of_these)))
      (every_all (λ set. with_periods set 1 days (λ awards. not (partners (block_ok R days awards) offers (blocks offers set)) || test (made_month set awards))) (run 0 (choices offers)) s) in
      let passed = with_periods_is b.choice 1 days (λ awards. not (partners (block_ok R days awards) offers (blocks offers b.choice)) || test (made_month b.choice awards)) at_set b.periods h.named in
      subst (λ v. T (test v)) (sym same)
      (implied (partners (block_ok R days b.periods) offers (blocks offers b.choice)) (test (made_month b.choice b.periods)) passed
      (partners_told (block_ok R days b.periods) (BlockAdmitted R days b.periods) (block_told b.periods) offers (blocks offers b.choice) h.blocks_admitted))
    where
      same : b ≡ made_month b.choice b.periods
      same i = record { choice = b.choice; periods = b.periods; month_cost = h.costed i; month_pays = h.settled i }

  abbrev pub are_named : (set t : ℕ) → List ℕ → List (Award R) → Bool
  are_named set t [] [] = true
  are_named set t [] (a ∷ as') = false
  are_named set t (d ∷ ds) [] = false
  are_named set t (d ∷ ds) (a ∷ as') = is_named d t (remaining offers set) R K (still offers set (need_of needs t)) a && are_named set (t + 1) ds as'

  are_named_is : (set t : ℕ) (ds : List ℕ) (as' : List (Award R)) → T (are_named set t ds as') → NamedPeriods R days offers needs set t ds as'
  are_named_is set t [] [] s = tt
  are_named_is set t [] (a ∷ as') s = s
  are_named_is set t (d ∷ ds) [] s = s
  are_named_is set t (d ∷ ds) (a ∷ as') s = (
    named_by d t (remaining offers set) R K (still offers set (need_of needs t)) a (and_left (is_named d t (remaining offers set) R K (still offers set (need_of needs t)) a) (are_named set (t + 1) ds as') s),
    are_named_is set (t + 1) ds as' (and_right (is_named d t (remaining offers set) R K (still offers set (need_of needs t)) a) (are_named set (t + 1) ds as') s),
  )

  abbrev pub admitted_month : MonthAward R → Bool
  admitted_month a =
      ltb a.choice (choices offers)
      && (are_named a.choice 1 days a.periods
      && (partners (block_ok R days a.periods) offers (blocks offers a.choice)
      && (same_cost R K a.month_cost (made_month a.choice a.periods).month_cost
      && same_list a.month_pays (made_month a.choice a.periods).month_pays)))

  admitted_month_is : (a : MonthAward R) → T (admitted_month a) → AdmittedMonth R days offers needs a
  admitted_month_is a s0 =
      let s1 = and_right (ltb a.choice (choices offers)) _ s0 in
      let s2 = and_right (are_named a.choice 1 days a.periods) _ s1 in
      let s3 = and_right (partners (block_ok R days a.periods) offers (blocks offers a.choice)) _ s2 in
      let s4 = and_right (same_cost R K a.month_cost (made_month a.choice a.periods).month_cost) _ s3 in
      record {
        choice_of_these = ltb→lt a.choice (choices offers) (and_left (ltb a.choice (choices offers)) _ s0);
        named = are_named_is a.choice 1 days a.periods (and_left (are_named a.choice 1 days a.periods) _ s1);
        blocks_admitted = partners_is (block_ok R days a.periods) (BlockAdmitted R days a.periods) (block_is a.periods) offers (blocks offers a.choice)
            (and_left (partners (block_ok R days a.periods) offers (blocks offers a.choice)) _ s2);
        costed = same_cost_is R K a.month_cost (made_month a.choice a.periods).month_cost (and_left (same_cost R K a.month_cost (made_month a.choice a.periods).month_cost) _ s3);
        settled = same_list_is a.month_pays (made_month a.choice a.periods).month_pays s4;
      }

  -- the number of blocks, then the set number, as a list
  abbrev month_key : MonthAward R → List ℕ
  month_key a = blocks_taken offers a.choice ∷ a.choice ∷ []

  abbrev by_order : MonthAward R → MonthAward R → Ordering → Bool
  by_order a b Less = true
  by_order a b Equal = lower (month_key a) (month_key b)
  by_order a b Greater = false

  abbrev pub before_month : MonthAward R → MonthAward R → Bool
  before_month a b = by_order a b (K.told a.month_cost b.month_cost)

  before_month_told : (a b : MonthAward R) → BeforeMonth offers a b → T (before_month a b)
  before_month_told a b h = by (K.told a.month_cost b.month_cost) (K.tells a.month_cost b.month_cost) h
    where
      by : (o : Ordering) → Ranks R a.month_cost b.month_cost o → BeforeMonth offers a b → T (by_order a b o)
      by Less r h = tt
      by Equal r (inl c) = absurd (not_same R a.month_cost b.month_cost r c)
      by Equal r (inr (e, inl l)) = lower_told (month_key a) (month_key b) (inl l)
      by Equal r (inr (e, inr (f, l))) = lower_told (month_key a) (month_key b) (inr (f, inl l))
      by Greater r (inl c) = absurd (not_both R a.month_cost b.month_cost r c)
      by Greater r (inr (e, l)) = absurd (not_same R b.month_cost a.month_cost (sym e) r)

  abbrev pub comes_month : Option (MonthAward R) → Bool
  comes_month None = all_choices (λ b. false)
  comes_month (Some a) = admitted_month a && all_choices (λ b. not (before_month b a))

  pub comes_month_by : (o : Option (MonthAward R)) → T (comes_month o) → ComesMonth R days offers needs o
  comes_month_by None s = all_choices_is (λ b. false) s
  comes_month_by (Some a) s = record {
    admitted = admitted_month_is a (and_left (admitted_month a) (all_choices (λ b. not (before_month b a))) s);
    first = λ b h l. T_not (before_month b a) (all_choices_is (λ c. not (before_month c a)) (and_right (admitted_month a) (all_choices (λ b. not (before_month b a))) s) b h) (before_month_told b a l);
  }

-- ---- the table

abbrev pub compares : (w : Way) → Compares (rule w)
compares money_first = pair_compares money_rule left_out_rule (whole_compares _) (whole_compares _)
compares left_out_first = pair_compares left_out_rule money_rule (whole_compares _) (whole_compares _)

abbrev pub as_told : Tender → Bool
as_told (period way n offers award) = comes 5 1 offers (rule way) (compares way) (cover_of n) award
as_told (month way days needs offers award) = comes_month (rule way) (compares way) days offers needs award

-- a passed test is the theorem of its entry
pub worked_by : (c : Tender) → T (as_told c) → Worked c
worked_by (period way n offers award) s = comes_by 5 1 offers (rule way) (compares way) (cover_of n) award s
worked_by (month way days needs offers award) s = comes_month_by (rule way) (compares way) days offers needs award s

all_worked : (cs : List Tender) → T (every as_told cs) → AllByRecursion Worked cs
all_worked [] s = tt
all_worked (c ∷ cs) s = (worked_by c (and_left (as_told c) (every as_told cs) s), all_worked cs (and_right (as_told c) (every as_told cs) s))

pub small_tenders : SmallTenders
unfolding SmallTenders
small_tenders = all_worked tenders tt

pub february_opens : FebruaryOpens
unfolding opened by_week
february_opens = refl
