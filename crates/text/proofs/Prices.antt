-- A price's own bytes.
use Rattle.std.proofs.Common.{IfSome, ◌≡◌, ℕ, ◌-◌, List, ◌∷◌, ◌++◌, length, take, Some, None, Option, refl, ap, ◌∙◌, arith, Bor}
use Rattle.std.proofs.lemmas.List.{length-append, take_at}
use Rattle.text.specs.Tokens.{Tail}

-- what stands before the rest, by the lengths
pub stands_before : (text front rest : List ℕ) → text ≡ front ++ rest → text ≡ take (length text - length rest) text ++ rest
stands_before text front rest e =
    let same : length text - length rest ≡ length front = omega (arith, ap length e, length-append front rest) in
    rw (same, e, take_at front rest (length front) refl) refl

-- what is a tail of the rest is one of the text with a byte in front
pub tail_after : (byte : ℕ) (text rest : List ℕ) → text ≡ byte ∷ rest → (o : Option (ℕ × Bor (List ℕ))) → IfSome o (λ p. Tail rest p.1.now) → IfSome o (λ p. Tail text p.1.now)
tail_after byte text rest e None tail = tt
tail_after byte text rest e (Some p) tail = (byte ∷ tail.0, e ∙ ap (λ l. byte ∷ l) tail.1)
