-- Lines that are counted one after another, far below the last line.
use Rattle.std.proofs.Common.{◌≡◌, ℕ, ◌+◌, ◌<◌, ◌≤◌, true, leb, ◌∙◌, arith}
use Rattle.std.proofs.Math.Nat.{min-eq_left}
use Rattle.std.proofs.lemmas.Bool.{leb-true}
use Rattle.sheet.specs.Read.{last_line, next_line}

pub counted : {a b : ℕ} → a < last_line → b ≡ next_line a → b ≡ a + 1
counted below next = next ∙ min-eq_left (omega arith)

-- the line after the n-th from line l on
pub one_more : {l : ℕ} → l ≤ 65535 → (n : ℕ) → leb n 100 ≡ true → {a b : ℕ} → a ≡ l + n → b ≡ next_line a → b ≡ l + (n + 1)
one_more near n few here next =
    let most = leb-true n 100 few in
    let plain = counted (omega arith) next in
    omega arith
