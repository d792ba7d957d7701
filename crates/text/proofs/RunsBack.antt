-- Bytes of one kind at the front of a text.
use Rattle.std.proofs.Common.{◌≡◌, ℕ, ◌≤◌, Bool, true, List, [], ◌∷◌, ◌++◌, length, Some, refl, arith}
use Rattle.std.proofs.lemmas.Bool.{le-leb}
use Rattle.std.proofs.lemmas.List.{take_at, drop_at}
use Rattle.std.specs.List.{prefix_len, AllByRecursion}
use Rattle.text.specs.Form.{between, run}

pub within : (low high n : ℕ) → low ≤ n → n ≤ high → between low high n ≡ true
within low high n lo hi = rw (le-leb low n lo, le-leb n high hi) refl

pub leading_all : (kind : ℕ → Bool) (xs rest : List ℕ) → AllByRecursion (λ b. kind b ≡ true) xs → prefix_len kind rest ≡ 0 → prefix_len kind (xs ++ rest) ≡ length xs
leading_all kind [] rest all stop = stop
leading_all kind (x ∷ xs) rest all stop =
    let more = leading_all kind xs rest all.1 stop in
    rw (all.0, more) (omega arith)

pub run_reads : (kind : ℕ → Bool) (least most : ℕ) (xs rest : List ℕ) → AllByRecursion (λ b. kind b ≡ true) xs → prefix_len kind rest ≡ 0 → least ≤ length xs → length xs ≤ most → run kind least most (xs ++ rest) ≡ Some (xs, rest)
run_reads kind least most xs rest all stop lo hi =
    rw (leading_all kind xs rest all stop, within least most (length xs) lo hi, take_at xs rest (length xs) refl, drop_at xs rest (length xs) refl) refl
