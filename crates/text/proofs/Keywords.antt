-- A keyword in two parts, one after the other.
use Rattle.std.proofs.Common.{◌≡◌, ℕ, Bool, true, false, cond, eqb, List, [], ◌∷◌, ◌++◌, Some, None, sym, refl, ap, arith}
use Rattle.text.specs.Form.{after}

pub chain : (first second text rest : List ℕ) → Some rest ≡ after first text → after (first ++ second) text ≡ after second rest
chain [] ls bs rest e = let s : rest ≡ bs = cc in ap (after ls) (sym s)
chain (k ∷ ks) ls [] rest e = let z : ◌≡◌ {A = ℕ} 0 1 = cc in absurd (omega arith)
chain (k ∷ ks) ls (b ∷ bs) rest e = go (eqb b k) e (chain ks ls bs rest)
  where
    go : (t : Bool) → Some rest ≡ cond t (after ks bs) None → (Some rest ≡ after ks bs → after (ks ++ ls) bs ≡ after ls rest) → cond t (after (ks ++ ls) bs) None ≡ after ls rest
    go true h again = again h
    go false h again = let z : ◌≡◌ {A = ℕ} 0 1 = cc in absurd (omega arith)

-- the same, where the first part is not there
pub chain_none : (first second text : List ℕ) → None ≡ after first text → None ≡ after (first ++ second) text
chain_none [] ls bs e = let z : ◌≡◌ {A = ℕ} 0 1 = cc in absurd (omega arith)
chain_none (k ∷ ks) ls [] e = refl
chain_none (k ∷ ks) ls (b ∷ bs) e = go (eqb b k) e (chain_none ks ls bs)
  where
    go : (t : Bool) → None ≡ cond t (after ks bs) None → (None ≡ after ks bs → None ≡ after (ks ++ ls) bs) → None ≡ cond t (after (ks ++ ls) bs) None
    go true h again = again h
    go false h again = refl
