-- What the laws give of the order, for every rule. Assumes nothing.
use Rattle.std.proofs.Common.{◌≡◌, ap, subst, inl, inr}
use Rattle.cost.specs.Rule.{Rule}

module _ (R : Rule) where
  -- x is cheaper than y, and z is not: so x is cheaper than z
  pub under : (x y z : R.Meaning) → R.cheaper x y → (R.cheaper z y → ⊥) → R.cheaper x z
  under x y z less above =
      elim (R.laws.total y z) [ inl s ↦ elim s [ inl h ↦ R.laws.transitive x y z less h | inr e ↦ subst (λ v. R.cheaper x v) e less ] | inr h ↦ absurd (above h) ]

  pub not_same : (x y : R.Meaning) → x ≡ y → R.cheaper x y → ⊥
  not_same x y e h = R.laws.irreflexive y (subst (λ v. R.cheaper v y) e h)

  pub not_both : (x y : R.Meaning) → R.cheaper y x → R.cheaper x y → ⊥
  not_both x y h k = R.laws.irreflexive y (R.laws.transitive y x y h k)

  -- equal both ways, neither cheaper: the same
  pub same_from : (x y : R.Meaning) → (R.cheaper x y → ⊥) → (R.cheaper y x → ⊥) → x ≡ y
  same_from x y a b = elim (R.laws.total x y) [ inl s ↦ elim s [ inl h ↦ absurd (a h) | inr e ↦ e ] | inr h ↦ absurd (b h) ]

  -- what joining the same cost makes cheaper was cheaper
  pub strict_back : (x y z : R.Meaning) → R.cheaper (R.joined z x) (R.joined z y) → R.cheaper x y
  strict_back x y z h =
      elim (R.laws.total x y) [
        | inl s ↦ elim s [ inl k ↦ k | inr e ↦ absurd (not_same (R.joined z x) (R.joined z y) (ap (R.joined z) e) h) ]
        | inr k ↦ absurd (not_both (R.joined z x) (R.joined z y) (R.laws.strict y x z k) h)
      ]
