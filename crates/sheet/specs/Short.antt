-- No number of 32 bits has a long text. Assumes nothing.
use Rattle.std.specs.Prelude.{ℕ, ◌/◌, ◌%◌, ◌+◌, ◌^◌, ◌<◌, ◌≤◌, ◌∷◌, [], length, decimal, refl}
use Rattle.std.proofs.Common.{subst, sym}
use Rattle.std.proofs.Math.Nat.{le_trans, lt_of_le_of_lt, add-le-add, le_refl, div-le_self}
use Rattle.std.proofs.lemmas.Bool.{leb-true, ltb-true}
use Rattle.std.proofs.lemmas.Fmt.{length-decimal-le}
use Rattle.std.proofs.lemmas.List.{length-append}
use Rattle.text.specs.Written.{price_text}

-- ten digits
pub decimal_ten : (n : ℕ) → n < 2 ^ 32 → length (decimal n) ≤ 10
decimal_ten n small = length-decimal-le 10 n (ltb-true 0 10 refl) (le_trans small (leb-true (2 ^ 32) (10 ^ 10) refl)) (le_trans small (leb-true (2 ^ 32) (2 ^ 64) refl))

pub decimal_short : (n : ℕ) → n < 2 ^ 32 → length (decimal n) ≤ 13
decimal_short n small = le_trans (decimal_ten n small) (leb-true 10 13 refl)

-- a comma and two digits more
pub price_short : (cents : ℕ) → cents < 2 ^ 32 → length (price_text cents) ≤ 13
price_short cents small =
    let euros : cents / 100 < 2 ^ 32 = lt_of_le_of_lt (div-le_self cents 100) small in
    subst (λ k. k ≤ 13) (sym (length-append (decimal (cents / 100)) (44 ∷ (48 + cents / 10 % 10) ∷ (48 + cents % 10) ∷ []))) (add-le-add (decimal_ten (cents / 100) euros) (le_refl 3))
