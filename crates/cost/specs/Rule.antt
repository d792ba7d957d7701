-- What a cost rule is: meanings with a charge, a joining and an order that keep the laws. Assumes nothing.
use Rattle.std.specs.Prelude.{◌≡◌, ℕ, ◌⊎◌}
use Rattle.std.specs.declared.cmp.Ordering.TheVariants.{Less, Equal, Greater}
use Rattle.std.specs.declared.cmp.Ordering.{Ordering}

-- joinings of so many charges are exact
abbrev pub most_charges : ℕ
most_charges = 1024

pub record Laws {M : Type 0} (nothing : M) (joined : M → M → M) (cheaper : M → M → Type 0) : Type 0 where
  -- the order: of two costs one is cheaper, or they are the same
  pub irreflexive : (x : M) → cheaper x x → ⊥
  pub transitive : (x y z : M) → cheaper x y → cheaper y z → cheaper x z
  pub total : (x y : M) → (cheaper x y ⊎ (x ≡ y)) ⊎ cheaper y x
  -- joining, in any order and any grouping
  pub unit : (x : M) → joined nothing x ≡ x
  pub commutes : (x y : M) → joined x y ≡ joined y x
  pub assoc : (x y z : M) → joined (joined x y) z ≡ joined x (joined y z)
  -- the cheaper of two stays so when the same cost is joined to both
  pub strict : (x y z : M) → cheaper x y → cheaper (joined z x) (joined z y)

pub record Rule : Type 1 where
  -- what a cost stands for
  pub Meaning : Type 0
  pub nothing : Meaning
  pub joined : Meaning → Meaning → Meaning
  pub cheaper : Meaning → Meaning → Type 0
  -- by the marginal price, the accepted MW and the left-out MW alone
  pub charged : (price accepted out : ℕ) → Meaning
  pub laws : Laws nothing joined cheaper

-- which of two meanings is cheaper, as an answer
abbrev pub Ranks : (R : Rule) → R.Meaning → R.Meaning → Ordering → Type 0
Ranks R x y Less = R.cheaper x y
Ranks R x y Equal = x ≡ y
Ranks R x y Greater = R.cheaper y x
