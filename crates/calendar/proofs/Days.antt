-- Holidays that rise, day by day.
use Rattle.std.proofs.Common.{◌≡◌, ℕ, zero, suc, ◌+◌, ◌<◌, Bool, true, false, ◌&&◌, ltb, leb, List, [], ◌∷◌, length, get_or, refl, sym, ⊎_elim, add-one, arith}
use Rattle.std.specs.List.{list_all}
use Rattle.std.specs.Cmp.{both_ways}
use Rattle.std.proofs.lemmas.Bool.{cases_Bool, ltb-true, lt-ltb, leb-true, le-leb, and_parts}
use Rattle.calendar.specs.Opening.{rising}

abbrev pub in_month : (last day : ℕ) → Bool
in_month last day = leb 1 day && leb day last

abbrev pub Rises : List ℕ → Type 0
Rises days = (k d : ℕ) → k + 1 < length days → true ≡ ltb (get_or days k d) (get_or days (k + 1) d)

first_next : (day next : ℕ) (days : List ℕ) → Rises (day ∷ next ∷ days) → day < next
first_next day next days up = ltb-true day next (let h = up 0 0 (omega arith) in cc)

rest_rises : (day : ℕ) (days : List ℕ) → Rises (day ∷ days) → Rises days
rest_rises day days up k d h = rw (add-one) (let next = up (suc k) d (omega arith) in rw add-one at next)

-- ---- a list that passes the test

rising-in_month : (after last : ℕ) (days : List ℕ) → rising after last days ≡ true → list_all (in_month last) days ≡ true
rising-in_month after last [] up = refl
rising-in_month after last (day ∷ days) up =
    let (here, rest) = and_parts (ltb after day && leb day last) (rising day last days) up in
    let (low, high) = and_parts (ltb after day) (leb day last) here in
    let above = ltb-true after day low in
    rw (le-leb 1 day (omega arith), high) (rising-in_month day last days rest)

rising-rises : (after last : ℕ) (days : List ℕ) → rising after last days ≡ true → Rises days
rising-rises after last [] up k d h = absurd (omega arith)
rising-rises after last (day ∷ []) up k d h = absurd (omega arith)
rising-rises after last (day ∷ next ∷ days) up zero d h = let (here, rest) = and_parts (ltb after day && leb day last) (rising day last (next ∷ days)) up in let (first, others) = and_parts (ltb day next && leb next last) (rising next last days) rest in let up = (and_parts (ltb day next) (leb next last) first).0 in cc
rising-rises after last (day ∷ next ∷ days) up (suc k) d h = rw add-one (let (here, rest) = and_parts (ltb after day && leb day last) (rising day last (next ∷ days)) up in let more = rising-rises day last (next ∷ days) rest k d (omega arith) in rw add-one at more)

pub not_rising : (last : ℕ) (days : List ℕ) → ((k : ℕ) × (k + 1 < length days) × ((d : ℕ) → false ≡ ltb (get_or days k d) (get_or days (k + 1) d))) → false ≡ rising 0 last days
not_rising last days (k, within, falls) = ⊎_elim
    (λ up. let rises = rising-rises 0 last days up k 0 within in let falls_here = falls 0 in cc)
    (λ not_up. sym not_up)
    (cases_Bool (rising 0 last days))

-- ---- a list that rises and lies in the month

rising-from : (day last : ℕ) (days : List ℕ) → Rises (day ∷ days) → list_all (in_month last) days ≡ true → rising day last days ≡ true
rising-from day last [] up all = refl
rising-from day last (next ∷ days) up all =
    let (here, rest) = and_parts (in_month last next) (list_all (in_month last) days) all in
    let (low, high) = and_parts (leb 1 next) (leb next last) here in
    rw (lt-ltb day next (first_next day next days up), high) (rising-from next last days (rest_rises day (next ∷ days) up) rest)

rising-in_month_rises : (last : ℕ) (days : List ℕ) → Rises days → list_all (in_month last) days ≡ true → rising 0 last days ≡ true
rising-in_month_rises last [] up all = refl
rising-in_month_rises last (day ∷ days) up all =
    let (here, rest) = and_parts (in_month last day) (list_all (in_month last) days) all in
    let (low, high) = and_parts (leb 1 day) (leb day last) here in
    let above = leb-true 1 day low in
    rw (lt-ltb 0 day (omega arith), high) (rising-from day last days up rest)

pub rising-list_all : (last : ℕ) (days : List ℕ) → Rises days → list_all (in_month last) days ≡ rising 0 last days
rising-list_all last days up =
    both_ways (list_all (in_month last) days) (rising 0 last days) (rising-in_month_rises last days up) (rising-in_month 0 last days)
