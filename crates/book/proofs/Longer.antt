-- What is read at the front of a text is read at the front of a longer one.
use Rattle.std.proofs.Common.{◌≡◌, ℕ, zero, suc, ◌+◌, ◌*◌, ◌<◌, Bool, true, false, cond, eqb, List, [], ◌∷◌, ◌++◌, length, take, drop, Some, None, Option, refl, ap, ◌∙◌, arith, length-drop}
use lib.Seq.{take-append-le, drop-append-le}
use Rattle.std.specs.List.{prefix_len}
use Rattle.text.specs.Form.{◌>>=◌, Reads, between, after, run, digit, name, value, needless_zero, number_up_to, whole, decimals, price, ended, field, fields, line_of, keyed, named}
use Rattle.text.proofs.FormKeeps.{some_from, passed}

-- two pairs that were read are the same part by part
some_parts : {X Y : Type 0} (a c : X) (b d : Y) → ◌≡◌ {A = Option (X × Y)} (Some (a, b)) (Some (c, d)) → (a ≡ c) × (b ≡ d)
some_parts {X} {Y} a c b d e =
    let p : ◌≡◌ {A = X × Y} (a, b) (c, d) = cc in
    (ap (λ (q : X × Y). q.0) p, ap (λ (q : X × Y). q.1) p)

-- what is read with a byte left over
abbrev pub GoesOn : {X : Type 0} → Reads X → Type 0
GoesOn {X} reads = (text more : List ℕ) (x : X) (b : ℕ) (rest : List ℕ) → reads text ≡ Some (x, b ∷ rest) → reads (text ++ more) ≡ Some (x, b ∷ (rest ++ more))

-- what is read, whatever is left over
abbrev pub Complete : {X : Type 0} → Reads X → Type 0
Complete {X} reads = (text more : List ℕ) (x : X) (rest : List ℕ) → reads text ≡ Some (x, rest) → reads (text ++ more) ≡ Some (x, rest ++ more)

goes_on : {X : Type 0} (reads : Reads X) → Complete reads → GoesOn reads
goes_on reads h text more x b rest e = h text more x (b ∷ rest) e

-- ---- runs, numbers and prices

leading_longer : (kind : ℕ → Bool) (text more : List ℕ) → prefix_len kind text < length text → prefix_len kind (text ++ more) ≡ prefix_len kind text
leading_longer kind [] more h = absurd (omega arith)
leading_longer kind (x ∷ text) more h = go (kind x) (leading_longer kind text more) h
  where
    go : (t : Bool) → (prefix_len kind text < length text → prefix_len kind (text ++ more) ≡ prefix_len kind text) → cond t (1 + prefix_len kind text) 0 < length (x ∷ text) → cond t (1 + prefix_len kind (text ++ more)) 0 ≡ cond t (1 + prefix_len kind text) 0
    go true again h = ap (λ n. 1 + n) (again (omega arith))
    go false again h = refl

run_longer : (kind : ℕ → Bool) (least most : ℕ) → GoesOn (run kind least most)
run_longer kind least most text more x b rest e =
    let n = prefix_len kind text in
    let p = passed (between least most n) (take n text, drop n text) (x, b ∷ rest) e in
    let front : take n text ≡ x = ap (λ q. q.0) p.1 in
    let back : drop n text ≡ b ∷ rest = ap (λ q. q.1) p.1 in
    let long : n < length text = omega (arith, length-drop n text, ap length back) in
    let same = leading_longer kind text more long in
    let t : take n (text ++ more) ≡ x = take-append-le n text more (omega arith) ∙ front in
    let d : drop n (text ++ more) ≡ b ∷ (rest ++ more) = drop-append-le n text more (omega arith) ∙ ap (λ r. r ++ more) back in
    rw (same, p.0, t, d) refl

-- a test that stopped no value
let_through : {X : Type 0} (t : Bool) (x y : X) → cond t None (Some x) ≡ Some y → (t ≡ false) × (x ≡ y)
let_through true x y h = absurd (cc)
let_through false x y h = (refl, cc)

number_longer : (most : ℕ) → GoesOn (number_up_to most)
number_longer most text more x b rest e =
    let a = some_from (run digit 1 most text) _ (x, b ∷ rest) e in
    let ds = a.0.0 in
    let p = let_through {X = ℕ × List ℕ} (needless_zero ds) (value ds, a.0.1) (x, b ∷ rest) a.2 in
    let v : value ds ≡ x = ap (λ q. q.0) p.1 in
    let r : a.0.1 ≡ b ∷ rest = ap (λ q. q.1) p.1 in
    let again = run_longer digit 1 most text more ds b rest (a.1 ∙ ap (λ q. Some (ds, q)) r) in
    rw (again, p.0, v) refl

-- what a reader says, by its value
abbrev saying : {X Y : Type 0} → (X → Y) → Reads X → Reads Y
saying f reads text = reads text >>= (λ p. Some (f p.0, p.1))

saying_longer : {X Y : Type 0} (f : X → Y) (reads : Reads X) → GoesOn reads → GoesOn (saying f reads)
saying_longer f reads h text more y b rest e =
    let a = some_from (reads text) _ (y, b ∷ rest) e in
    let p = some_parts (f a.0.0) y a.0.1 (b ∷ rest) a.2 in
    let again = h text more a.0.0 b rest (a.1 ∙ ap (λ q. Some (a.0.0, q)) p.1) in
    rw (again, p.0) refl

decimals_longer : (euros : ℕ) → GoesOn (decimals euros)
decimals_longer euros [] more x b rest e =
    let p = some_parts (euros * 100) x [] (b ∷ rest) e in
    absurd (cc)
decimals_longer euros (c ∷ text) more x b rest e = go (eqb c 44) e
  where
    cents : List ℕ → ℕ
    cents digits = euros * 100 + value digits * cond (eqb (length digits) 1) 10 1

    go : (t : Bool) → cond t (saying cents (run digit 1 2) text) (Some (euros * 100, c ∷ text)) ≡ Some (x, b ∷ rest) →
        cond t (saying cents (run digit 1 2) (text ++ more)) (Some (euros * 100, c ∷ (text ++ more))) ≡ Some (x, b ∷ (rest ++ more))
    go true h = saying_longer cents (run digit 1 2) (run_longer digit 1 2) text more x b rest h
    go false h =
        let p = some_parts (euros * 100) x (c ∷ text) (b ∷ rest) h in
        let q = p.1 in
        let r : c ∷ (text ++ more) ≡ b ∷ (rest ++ more) = ap (λ s. s ++ more) q in
        let v = p.0 in
        cc

price_longer : GoesOn price
price_longer text more x b rest e =
    let a = some_from (number_up_to 7 text) _ (x, b ∷ rest) e in
    go a.0.0 a.0.1 a.1 a.2
  where
    go : (euros : ℕ) (r : List ℕ) → number_up_to 7 text ≡ Some (euros, r) → decimals euros r ≡ Some (x, b ∷ rest) → price (text ++ more) ≡ Some (x, b ∷ (rest ++ more))
    go euros [] h k =
        let p = some_parts (euros * 100) x [] (b ∷ rest) k in
        absurd (cc)
    go euros (c ∷ r) h k =
        let again = number_longer 7 text more euros c r h in
        rw again (decimals_longer euros (c ∷ r) more x b rest k)

-- ---- fields and lines

after_longer : (bs text more rest : List ℕ) → after bs text ≡ Some rest → after bs (text ++ more) ≡ Some (rest ++ more)
after_longer [] text more rest e = let same : text ≡ rest = cc in ap (λ r. Some (r ++ more)) same
after_longer (b ∷ bs) [] more rest e = absurd (cc)
after_longer (b ∷ bs) (x ∷ text) more rest e = go (eqb x b) (after_longer bs text more rest) e
  where
    go : (t : Bool) → (after bs text ≡ Some rest → after bs (text ++ more) ≡ Some (rest ++ more)) → cond t (after bs text) None ≡ Some rest → cond t (after bs (text ++ more)) None ≡ Some (rest ++ more)
    go true again h = again h
    go false again h = absurd (cc)

-- a byte that has to end it was there
ended_longer : {X : Type 0} (byte : ℕ) (reads : Reads X) → GoesOn reads → Complete (ended byte reads)
ended_longer {X} byte reads h text more x rest e =
    let a = some_from (reads text) _ (x, rest) e in
    let c = some_from (after (byte ∷ []) a.0.1) _ (x, rest) a.2 in
    let p = some_parts a.0.0 x c.0 rest c.2 in
    go a.0.1 (a.1 ∙ ap (λ y. Some (y, a.0.1)) p.0) (c.1 ∙ ap Some p.1)
  where
    go : (r : List ℕ) → reads text ≡ Some (x, r) → after (byte ∷ []) r ≡ Some rest → ended byte reads (text ++ more) ≡ Some (x, rest ++ more)
    go [] k l = absurd (cc)
    go (b ∷ r) k l =
        let again = h text more x b r k in
        let end = after_longer (byte ∷ []) (b ∷ r) more rest l in
        rw again (ap (λ o. o >>= (λ s. Some (x, s))) end)

fields_longer : {X : Type 0} (reads : Reads X) → GoesOn reads → (n : ℕ) → Complete (fields reads n)
fields_longer reads h zero text more xs rest e =
    let p = some_parts [] xs text rest e in
    let q = p.0 in
    let r = ap (λ s. s ++ more) p.1 in
    cc
fields_longer reads h (suc n) text more xs rest e =
    let a = some_from (field reads text) _ (xs, rest) e in
    let c = some_from (fields reads n a.0.1) _ (xs, rest) a.2 in
    let p = some_parts (a.0.0 ∷ c.0.0) xs c.0.1 rest c.2 in
    let first = ended_longer 59 reads h text more a.0.0 a.0.1 a.1 in
    let others = fields_longer reads h n a.0.1 more c.0.0 c.0.1 c.1 in
    rw (first, others, p.0, p.1) refl

pub line_of_longer : {X : Type 0} (reads : Reads X) → GoesOn reads → (n : ℕ) → Complete (line_of reads n)
line_of_longer reads h n = ended_longer 10 (fields reads n) (goes_on (fields reads n) (fields_longer reads h n))

pub numbers_longer : (n : ℕ) → Complete (line_of whole n)
numbers_longer n = line_of_longer whole (number_longer 10) n

pub prices_longer : (n : ℕ) → Complete (line_of price n)
prices_longer n = line_of_longer price price_longer n

one_longer : {X : Type 0} (reads : Reads X) → GoesOn reads → Complete (ended 10 (field reads))
one_longer reads h = ended_longer 10 (field reads) (goes_on (field reads) (ended_longer 59 reads h))

pub price_line_longer : Complete (ended 10 (field price))
price_line_longer = one_longer price price_longer

pub keyed_longer : (keyword : List ℕ) → Complete (keyed keyword)
keyed_longer keyword text more x rest e =
    let a = some_from (after keyword text) _ (x, rest) e in
    let first = after_longer keyword text more a.0 a.1 in
    rw first (one_longer whole (number_longer 10) a.0 more x rest a.2)

pub named_longer : Complete named
named_longer text more x rest e =
    let a = some_from (field name text) _ (x, rest) e in
    let c = some_from (ended 10 (field whole) a.0.1) _ (x, rest) a.2 in
    let p = some_parts (a.0.0, c.0.0) x c.0.1 rest c.2 in
    let first = ended_longer 59 name (run_longer _ 1 16) text more a.0.0 a.0.1 a.1 in
    let second = one_longer whole (number_longer 10) a.0.1 more c.0.0 c.0.1 c.1 in
    rw (first, second, p.0, p.1) refl
