-- One judgement after another: the first refusal is the answer. Assumes nothing.
use Rattle.std.specs.Prelude.{Bool, cond, Ok, Err, Result}

infixl 10 ◌>>=◌ ◌>>◌
abbrev pub ◌>>=◌ : {X Y F : Type 0} → Result X F → (X → Result Y F) → Result Y F
Ok x >>= next = next x
Err f >>= next = Err f

abbrev pub ◌>>◌ : {Y F : Type 0} → Result (Unit {0}) F → Result Y F → Result Y F
r >> next = r >>= (λ _. next)

abbrev pub must : {F : Type 0} → Bool → F → Result (Unit {0}) F
must holds f = cond holds (Ok tt) (Err f)
