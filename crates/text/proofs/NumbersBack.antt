-- A written number, price or name is read back.
use Rattle.std.proofs.Common.{◌≡◌, ℕ, ◌+◌, ◌-◌, ◌*◌, ◌/◌, ◌%◌, ◌^◌, ◌<◌, ◌≤◌, true, false, List, [], ◌∷◌, ◌++◌, length, get_or, Some, decimal, fold, refl, ap, ◌∙◌, ⊎_elim, append_assoc, arith, lit<, rules}
use native.Mathlib.Nat.{pow-le-pow_right}
use Rattle.std.proofs.lemmas.Bool.{eq-eqb, ne_eqb, cases_lt, cases_eq}
use Rattle.std.proofs.lemmas.Str.Parse.{IsNumeralModel, numerals_by_fold}
use Rattle.std.proofs.lemmas.Fmt.{decimal_digit, decimal_nonempty, first_decimal, length-decimal-le, digits_decimal, digits_value-decimal}
use Rattle.std.specs.List.{prefix_len, AllByRecursion}
use Rattle.text.specs.Form.{digit, letter_or_digit, value, needless_zero, number_up_to, decimals, price, name}
use Rattle.text.specs.Written.{price_text}
use Rattle.text.proofs.RunsBack.{run_reads, within}

abbrev pub Digits : List ℕ → Type 0
Digits = AllByRecursion (λ b. digit b ≡ true)

pub own : IsNumeralModel Digits value
own = numerals_by_fold _ (search rules) (λ n ds. fold (λ v b. v * 10 + (b - 48)) n ds) (search rules)

pub plain_if : (ds : List ℕ) → (get_or ds 0 0 ≡ 48 → length ds ≡ 1) → needless_zero ds ≡ false
plain_if [] h = refl
plain_if (b ∷ bs) h = ⊎_elim (λ e. rw (eq-eqb b 48 e, eq-eqb (length bs) 0 (omega (arith, h e))) refl) (λ n. rw (ne_eqb b 48 n) refl) (cases_eq b 48)

pub plain : (n : ℕ) → n < 2 ^ 64 → needless_zero (decimal n) ≡ false
plain n h = plain_if (decimal n) (λ z.
    ⊎_elim
    (λ s. ap length (decimal_digit n (omega arith)))
    (λ b. absurd (omega (arith, first_decimal n (omega arith) h)))
    (cases_lt n 1))

pub number_reads : (most n : ℕ) (rest : List ℕ) → 0 < most → most ≤ 19 → n < 10 ^ most → prefix_len digit rest ≡ 0 → number_up_to most (decimal n ++ rest) ≡ Some (n, rest)
number_reads most n rest some le small stop =
    let big : 10 ^ most ≤ 10 ^ 19 = pow-le-pow_right {n = 10} (lit< tt) le in
    let fits : n < 2 ^ 64 = omega arith in
    let one = decimal_nonempty n fits in
    rw (run_reads digit 1 most (decimal n) rest (digits_decimal own n fits) stop (omega arith) (length-decimal-le most n some small fits), plain n fits, digits_value-decimal own n fits) refl

pub name_reads : (who rest : List ℕ) → AllByRecursion (λ b. letter_or_digit b ≡ true) who → 1 ≤ length who → length who ≤ 16 → prefix_len letter_or_digit rest ≡ 0 → name (who ++ rest) ≡ Some (who, rest)
name_reads who rest all lo hi stop = run_reads letter_or_digit 1 16 who rest all stop lo hi

pub cents_read : (euros x y : ℕ) (rest : List ℕ) → x < 10 → y < 10 → prefix_len digit rest ≡ 0 → decimals euros (44 ∷ (48 + x) ∷ (48 + y) ∷ rest) ≡ Some (euros * 100 + (x * 10 + y), rest)
cents_read euros x y rest hx hy stop =
    rw (run_reads digit 1 2 ((48 + x) ∷ (48 + y) ∷ []) rest (within 48 57 (48 + x) (omega arith) (omega arith), (within 48 57 (48 + y) (omega arith) (omega arith), tt)) stop (omega arith) (omega arith))
    (ap (λ k. Some (k, rest)) both)
  where
    both : euros * 100 + ((0 * 10 + (48 + x - 48)) * 10 + (48 + y - 48)) * 1 ≡ euros * 100 + (x * 10 + y)
    both = omega arith

pub price_reads : (c : ℕ) (rest : List ℕ) → c < 10 ^ 9 → prefix_len digit rest ≡ 0 → price (price_text c ++ rest) ≡ Some (c, rest)
price_reads c rest small stop =
    let tail = 44 ∷ (48 + c / 10 % 10) ∷ (48 + c % 10) ∷ rest in
    rw (append_assoc (decimal (c / 100)) (44 ∷ (48 + c / 10 % 10) ∷ (48 + c % 10) ∷ []) rest, number_reads 7 (c / 100) tail (omega arith) (omega arith) (omega arith) refl)
    (cents_read (c / 100) (c / 10 % 10) (c % 10) rest (omega arith) (omega arith) stop ∙ ap (λ k. Some (k, rest)) back)
  where
    back : c / 100 * 100 + (c / 10 % 10 * 10 + c % 10) ≡ c
    back = omega arith
