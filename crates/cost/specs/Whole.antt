-- Whole numbers under their sum and their order keep the laws. Assumes nothing.
use Rattle.std.proofs.Common.{inl, inr, arith}
use Rattle.std.proofs.Math.Logic.{by_cases}
use Rattle.std.specs.Prelude.{ℕ, ◌+◌, ◌<◌}
use Rattle.std.proofs.Math.Decide.{dec_lt}
use Rattle.cost.specs.Rule.{Laws, Rule}

pub whole_laws : Laws 0 ◌+◌ ◌<◌
whole_laws = record {
  irreflexive = λ x h. omega arith;
  transitive = λ x y z h k. omega arith;
  total = λ x y. by_cases (dec_lt x y) (λ h. inl (inl h)) (λ n. by_cases (dec_lt y x) inr (λ m. inl (inr (omega arith))));
  unit = λ x. omega arith;
  commutes = λ x y. omega arith;
  assoc = λ x y z. omega arith;
  strict = λ x y z h. omega arith;
}

-- charges that are whole numbers, joined by their sum: the smaller is cheaper
abbrev pub whole : ((price accepted out : ℕ) → ℕ) → Rule
whole charged = record { Meaning = ℕ; nothing = 0; joined = ◌+◌; cheaper = ◌<◌; charged = charged; laws = whole_laws }
