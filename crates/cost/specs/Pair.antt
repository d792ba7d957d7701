-- Two rules, the first before the second: they keep the laws if each does. Assumes nothing.
use Rattle.std.specs.Prelude.{◌≡◌, ◌⊎◌}
use Rattle.std.proofs.Common.{sym, ap, subst, ◌∙◌, inl, inr}
use Rattle.cost.specs.Rule.{Laws, Rule}

module _ {A B : Type 0} where
  -- part by part
  abbrev pub both : (A → A → A) → (B → B → B) → A × B → A × B → A × B
  both f g p q = (f p.0 q.0, g p.1 q.1)

  -- by the first parts; by the second ones where the first are the same
  abbrev pub first_then : (A → A → Type 0) → (B → B → Type 0) → A × B → A × B → Type 0
  first_then lt less p q = lt p.0 q.0 ⊎ ((p.0 ≡ q.0) × less p.1 q.1)

  module _ {n : A} {f : A → A → A} {lt : A → A → Type 0} {m : B} {g : B → B → B} {less : B → B → Type 0}
      (a : Laws n f lt) (b : Laws m g less) where
    pair_transitive : (x y z : A × B) → first_then lt less x y → first_then lt less y z → first_then lt less x z
    pair_transitive x y z (inl h) (inl k) = inl (a.transitive _ _ _ h k)
    pair_transitive x y z (inl h) (inr (e, k)) = inl (subst (λ v. lt x.0 v) e h)
    pair_transitive x y z (inr (e, h)) (inl k) = inl (subst (λ v. lt v z.0) (sym e) k)
    pair_transitive x y z (inr (e, h)) (inr (e', k)) = inr (e ∙ e', b.transitive _ _ _ h k)

    pair_second : (x y : A × B) → x.0 ≡ y.0 → (less x.1 y.1 ⊎ (x.1 ≡ y.1)) ⊎ less y.1 x.1 →
        (first_then lt less x y ⊎ (x ≡ y)) ⊎ first_then lt less y x
    pair_second x y e (inl (inl h)) = inl (inl (inr (e, h)))
    pair_second x y e (inl (inr e')) = inl (inr (λ i. (e i, e' i)))
    pair_second x y e (inr h) = inr (inr (sym e, h))

    pair_total : (x y : A × B) → (lt x.0 y.0 ⊎ (x.0 ≡ y.0)) ⊎ lt y.0 x.0 →
        (first_then lt less x y ⊎ (x ≡ y)) ⊎ first_then lt less y x
    pair_total x y (inl (inl h)) = inl (inl (inl h))
    pair_total x y (inl (inr e)) = pair_second x y e (b.total x.1 y.1)
    pair_total x y (inr h) = inr (inl h)

    pair_strict : (x y z : A × B) → first_then lt less x y → first_then lt less (both f g z x) (both f g z y)
    pair_strict x y z (inl h) = inl (a.strict _ _ z.0 h)
    pair_strict x y z (inr (e, h)) = inr (ap (f z.0) e, b.strict _ _ z.1 h)

    pub pair_laws : Laws (n, m) (both f g) (first_then lt less)
    pair_laws = record {
      irreflexive = λ x h. elim h [ inl k ↦ a.irreflexive x.0 k | inr k ↦ b.irreflexive x.1 k.1 ];
      transitive = pair_transitive;
      total = λ x y. pair_total x y (a.total x.0 y.0);
      unit = λ x i. (a.unit x.0 i, b.unit x.1 i);
      commutes = λ x y i. (a.commutes x.0 y.0 i, b.commutes x.1 y.1 i);
      assoc = λ x y z i. (a.assoc x.0 y.0 z.0 i, b.assoc x.1 y.1 z.1 i);
      strict = pair_strict;
    }

-- the first rule, then the second
abbrev pub pair_rule : Rule → Rule → Rule
pair_rule A B = record {
  Meaning = A.Meaning × B.Meaning;
  nothing = (A.nothing, B.nothing);
  joined = both A.joined B.joined;
  cheaper = first_then A.cheaper B.cheaper;
  charged = λ price accepted out. (A.charged price accepted out, B.charged price accepted out);
  laws = pair_laws A.laws B.laws;
}
