-- A sheet is read the same with the rows of its month at once.
use Rattle.std.proofs.Common.{◌≡◌, ℕ, ◌+◌, List, map, Ok, Err, Result, refl}
use Rattle.std.specs.List.{range_with_len}
use Rattle.sheet.specs.Read.{by_month, read_by_month}
use Rattle.sheet.specs.Sheet.{◌>>=◌, head, shape_line, width_line, period_line, price_lines, block_line, row_of, read}

pub then_same : {X Y F : Type 0} (r : Result X F) (f g : X → Result Y F) → ((x : X) → r ≡ Ok x → f x ≡ g x) → (r >>= f) ≡ (r >>= g)
then_same (Err e) f g same = refl
then_same (Ok x) f g same = same x refl

-- rows that are found in what was read, and then what follows them
then_found : {X Y Z F : Type 0} (r : Result (X × List ℕ) F) (found : X → Y) (next : Y × List ℕ → Result Z F) → ((r >>= λ p. Ok (found p.0, p.1)) >>= next) ≡ (r >>= λ p. next (found p.0, p.1))
then_found (Err f) found next = refl
then_found (Ok p) found next = refl

pub same_read : (T before : ℕ) (text : List ℕ) → read_by_month T before text ≡ read T before text
same_read T before text =
    then_same (head before text) _ _ (λ p _.
    then_same (shape_line T (before + 7) p.1) _ _ (λ q _.
    then_same (width_line q.0.ranges p.0.floor (before + 8) q.1) _ _ (λ w _.
    then_same (period_line T q.0.periods (before + 9) w.1) _ _ (λ t _.
    then_found (price_lines q.0.ranges q.0.periods (before + 10) t.1) (λ rows. map (row_of t.0 rows) (range_with_len 1 T)) (λ m. block_line q.0.blocks (before + 10 + q.0.periods) m.1 >>= λ b. Ok (by_month p.0 w.0 m.0 b.0, b.1))))))
