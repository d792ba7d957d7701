-- At most one award is named, for every rule: of two, each is not before the other. Assumes nothing.
use Rattle.std.proofs.Common.{◌≡◌, ℕ, suc, ◌+◌, ◌<◌, List, [], ◌∷◌, ◌++◌, map, length, get_or, sym, refl, ap, ◌∙◌, subst, inl, inr, arith}
use Rattle.sheet.specs.Offer.{Offer}
use Rattle.book.specs.Needs.{need_of}
use Rattle.book.specs.declared.need.Need.{Need}
use Rattle.cost.specs.Rule.{Rule}
use Rattle.cost.proofs.Order.{same_from}
use Rattle.clearing.specs.Words.{together, each, Partners, Lower}
use Rattle.clearing.specs.Period.{joining, Award, of_product, price, Cover, LawfulPower, paid, prices_and_volumes, Before, Named}
use Rattle.clearing.specs.Month.{remaining, still, blocks, blocks_taken, MonthAward, NamedPeriods, block_charges, block_paid, added_up, AdmittedMonth, BeforeMonth, NamedMonth}

pub same_numbers : (x y : ℕ) → (x < y → ⊥) → (y < x → ⊥) → x ≡ y
same_numbers x y a b = omega arith

-- neither list is lower, and they are of one length
same_lists : (xs ys : List ℕ) → length xs ≡ length ys → (Lower xs ys → ⊥) → (Lower ys xs → ⊥) → xs ≡ ys
same_lists [] [] e a b = refl
same_lists [] (y ∷ ys) e a b = absurd (omega arith)
same_lists (x ∷ xs) [] e a b = absurd (omega arith)
same_lists (x ∷ xs) (y ∷ ys) e a b =
    let h = same_numbers x y (λ l. a (inl l)) (λ l. b (inl l)) in
    let k = same_lists xs ys (omega arith) (λ l. a (inr (h, l))) (λ l. b (inr (sym h, l))) in
    λ i. h i ∷ k i

pub partners_length : {X Y : Type 0} (P : X → Y → Type 0) (xs : List X) (ys : List Y) → Partners P xs ys → length xs ≡ length ys
partners_length P [] [] h = refl
partners_length P [] (y ∷ ys) h = absurd h
partners_length P (x ∷ xs) [] h = absurd h
partners_length P (x ∷ xs) (y ∷ ys) h = ap suc (partners_length P xs ys h.1)

module _ (d t : ℕ) (offers : List Offer) (R : Rule) (cover : Cover) (a b : Award R) (n : Named d t offers R cover a) (m : Named d t offers R cover b) where
  ab : Before a b → ⊥
  ab = m.first a n.admitted

  ba : Before b a → ⊥
  ba = n.first b m.admitted

  same_cost : a.cost ≡ b.cost
  same_cost = same_from R a.cost b.cost (λ c. ab (inl c)) (λ c. ba (inl c))

  same_rest : prices_and_volumes a ≡ prices_and_volumes b
  same_rest = same_lists (prices_and_volumes a) (prices_and_volumes b) refl (λ l. ab (inr (same_cost, inl l))) (λ l. ba (inr (sym same_cost, inl l)))

  same_powers : a.powers ≡ b.powers
  same_powers =
      same_lists a.powers b.powers
      (sym (partners_length (LawfulPower d t (price a)) offers a.powers n.admitted.whole.lawful) ∙ partners_length (LawfulPower d t (price b)) offers b.powers m.admitted.whole.lawful)
      (λ l. ba (inr (sym same_cost, inr (sym same_rest, l)))) (λ l. ab (inr (same_cost, inr (same_rest, l))))

  rr_same : a.rr_price ≡ b.rr_price
  rr_same = ap (λ xs. get_or xs 0 0) same_rest

  rc_same : a.rc_price ≡ b.rc_price
  rc_same = ap (λ xs. get_or xs 1 0) same_rest

  same_pays : a.pays ≡ b.pays
  same_pays = n.admitted.settled ∙ ((λ i. each (paid d t (of_product (rr_same i) (rc_same i))) offers (same_powers i)) ∙ sym m.admitted.settled)

  pub one_named : a ≡ b
  one_named i = record {
    rr_price = rr_same i;
    rc_price = rc_same i;
    rr_volume = ap (λ xs. get_or xs 2 0) same_rest i;
    rc_volume = ap (λ xs. get_or xs 3 0) same_rest i;
    powers = same_powers i;
    cost = same_cost i;
    pays = same_pays i;
  }

module _ (R : Rule) (days : List ℕ) (offers : List Offer) (needs : List Need) where
  -- one choice has one list of awards
  same_periods : (set t : ℕ) (ds : List ℕ) (as' bs : List (Award R)) → NamedPeriods R days offers needs set t ds as' → NamedPeriods R days offers needs set t ds bs → as' ≡ bs
  same_periods set t [] [] [] h k = refl
  same_periods set t [] [] (b ∷ bs) h k = absurd k
  same_periods set t [] (a ∷ as') bs h k = absurd h
  same_periods set t (d ∷ ds) [] bs h k = absurd h
  same_periods set t (d ∷ ds) (a ∷ as') [] h k = absurd k
  same_periods set t (d ∷ ds) (a ∷ as') (b ∷ bs) h k =
      let e = one_named d t (remaining offers set) R (still offers set (need_of needs t)) a b h.0 k.0 in
      let f = same_periods set (t + 1) ds as' bs h.1 k.1 in
      λ i. e i ∷ f i

  -- two admitted awards of one choice are one
  same_choice : (a b : MonthAward R) → AdmittedMonth R days offers needs a → AdmittedMonth R days offers needs b → a.choice ≡ b.choice → a ≡ b
  same_choice a b h k e = λ i. record { choice = e i; periods = p i; month_cost = c i; month_pays = q i }
    where
      p : a.periods ≡ b.periods
      p = same_periods b.choice 1 days a.periods b.periods (subst (λ v. NamedPeriods R days offers needs v 1 days a.periods) e h.named) k.named

      c : a.month_cost ≡ b.month_cost
      c = h.costed ∙ ((λ i. joining R (map (λ p. p.cost) (p i) ++ together (each (block_charges R days (p i)) offers (blocks offers (e i))))) ∙ sym k.costed)

      q : a.month_pays ≡ b.month_pays
      q = h.settled ∙ ((λ i. added_up (each (block_paid R days (p i)) offers (blocks offers (e i))) (p i)) ∙ sym k.settled)

  pub one_named_month : (a b : MonthAward R) → NamedMonth R days offers needs a → NamedMonth R days offers needs b → a ≡ b
  one_named_month a b n m = same_choice a b n.admitted m.admitted choice_same
    where
      ab : BeforeMonth offers a b → ⊥
      ab = m.first a n.admitted

      ba : BeforeMonth offers b a → ⊥
      ba = n.first b m.admitted

      cost_same : a.month_cost ≡ b.month_cost
      cost_same = same_from R a.month_cost b.month_cost (λ c. ab (inl c)) (λ c. ba (inl c))

      count_same : blocks_taken offers a.choice ≡ blocks_taken offers b.choice
      count_same = same_numbers (blocks_taken offers a.choice) (blocks_taken offers b.choice) (λ l. ab (inr (cost_same, inl l))) (λ l. ba (inr (sym cost_same, inl l)))

      choice_same : a.choice ≡ b.choice
      choice_same = same_numbers a.choice b.choice (λ l. ab (inr (cost_same, inr (count_same, l)))) (λ l. ba (inr (sym cost_same, inr (sym count_same, l))))
