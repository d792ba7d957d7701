-- The order of lists of powers: cheaper first, then ahead; for every rule. Assumes nothing.
use Rattle.std.proofs.Common.{◌≡◌, ℕ, ◌⊎◌, List, [], ◌∷◌, length, sym, ◌∙◌, subst, inl, inr, arith}
use Rattle.std.proofs.lemmas.Bool.{cases_order}
use Rattle.cost.specs.Rule.{Rule}
use Rattle.cost.proofs.Order.{not_same, not_both, same_from, strict_back}
use Rattle.clearing.specs.Words.{Lower}
use Rattle.clearing.specs.Halves.{Ahead, Leads}

-- of two lists of one length, one is ahead or it is lower
pub ahead_or_lower : (ps qs : List ℕ) → length ps ≡ length qs → Ahead ps qs ⊎ Lower ps qs
ahead_or_lower [] [] e = inl tt
ahead_or_lower [] (q ∷ qs) e = absurd (omega arith)
ahead_or_lower (p ∷ ps) [] e = absurd (omega arith)
ahead_or_lower (p ∷ ps) (q ∷ qs) e =
    elim (cases_order p q) [
      | inl f ↦ elim (ahead_or_lower ps qs (omega arith)) [ inl h ↦ inl (inr (f, h)) | inr h ↦ inr (inr (f, h)) ]
      | inr o ↦ elim o [ inl h ↦ inr (inl h) | inr h ↦ inl (inl h) ]
    ]

module _ (R : Rule) where
  -- joining the same cost keeps apart what differs
  pub cancel : (x y z : R.Meaning) → R.joined z x ≡ R.joined z y → x ≡ y
  cancel x y z e =
      same_from R x y (λ h. not_same R (R.joined z x) (R.joined z y) e (R.laws.strict x y z h)) (λ h. not_same R (R.joined z y) (R.joined z x) (sym e) (R.laws.strict y x z h))

  pub strict_left : (x y z : R.Meaning) → R.cheaper x y → R.cheaper (R.joined x z) (R.joined y z)
  strict_left x y z h =
      subst (λ a. R.cheaper a (R.joined y z)) (R.laws.commutes z x) (subst (λ b. R.cheaper (R.joined z x) b) (R.laws.commutes z y) (R.laws.strict x y z h))

  -- both halves lead: so does the whole
  pub leads_beside : (a b m n : R.Meaning) (us vs ms ns ps qs : List ℕ) → (Ahead us ms → Ahead vs ns → Ahead ps qs) → Leads R a us m ms → Leads R b vs n ns →
      Leads R (R.joined a b) ps (R.joined m n) qs
  leads_beside a b m n us vs ms ns ps qs both (inl h) (inl k) = inl (R.laws.transitive (R.joined a b) (R.joined m b) (R.joined m n) (strict_left a m b h) (R.laws.strict b n m k))
  leads_beside a b m n us vs ms ns ps qs both (inl h) (inr k) = inl (subst (λ c. R.cheaper (R.joined a b) (R.joined m c)) k.0 (strict_left a m b h))
  leads_beside a b m n us vs ms ns ps qs both (inr h) (inl k) = inl (subst (λ c. R.cheaper (R.joined a b) (R.joined c n)) h.0 (R.laws.strict b n a k))
  leads_beside a b m n us vs ms ns ps qs both (inr h) (inr k) = inr ((λ i. R.joined (h.0 i) (k.0 i)), both h.1 k.1)

  -- the whole leads another with the same second half: so does its first
  pub leads_first : (a m b : R.Meaning) (us ms ps qs : List ℕ) → (Ahead ps qs → Ahead us ms) → Leads R (R.joined a b) ps (R.joined m b) qs → Leads R a us m ms
  leads_first a m b us ms ps qs part (inl h) =
      inl (strict_back R a m b (subst (λ c. R.cheaper c (R.joined b m)) (R.laws.commutes a b) (subst (λ c. R.cheaper (R.joined a b) c) (R.laws.commutes m b) h)))
  leads_first a m b us ms ps qs part (inr h) = inr (cancel a m b (R.laws.commutes b a ∙ h.0 ∙ R.laws.commutes m b), part h.1)

  pub leads_second : (a b n : R.Meaning) (vs ns ps qs : List ℕ) → (Ahead ps qs → Ahead vs ns) → Leads R (R.joined a b) ps (R.joined a n) qs → Leads R b vs n ns
  leads_second a b n vs ns ps qs part (inl h) = inl (strict_back R b n a h)
  leads_second a b n vs ns ps qs part (inr h) = inr (cancel b n a h.0, part h.1)

  -- neither part is cheaper: nor is the whole
  pub none_below : (a b m n : R.Meaning) → (R.cheaper m a → ⊥) → (R.cheaper n b → ⊥) → R.cheaper (R.joined m n) (R.joined a b) → ⊥
  none_below a b m n h k less = by (R.laws.total a m) (R.laws.total b n)
    where
      by : ((R.cheaper a m ⊎ (a ≡ m)) ⊎ R.cheaper m a) → ((R.cheaper b n ⊎ (b ≡ n)) ⊎ R.cheaper n b) → ⊥
      by (inr l) r = h l
      by (inl l) (inr r) = k r
      by (inl (inl l)) (inl (inl r)) = not_both R (R.joined a b) (R.joined m n) less (R.laws.transitive (R.joined a b) (R.joined m b) (R.joined m n) (strict_left a m b l) (R.laws.strict b n m r))
      by (inl (inl l)) (inl (inr r)) = not_both R (R.joined a b) (R.joined m n) less (subst (λ c. R.cheaper (R.joined a b) (R.joined m c)) r (strict_left a m b l))
      by (inl (inr l)) (inl (inl r)) = not_both R (R.joined a b) (R.joined m n) less (subst (λ c. R.cheaper (R.joined a b) (R.joined c n)) l (R.laws.strict b n a r))
      by (inl (inr l)) (inl (inr r)) = not_same R (R.joined m n) (R.joined a b) (λ i. R.joined (sym l i) (sym r i)) less
