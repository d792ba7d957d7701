-- Fields that are read one after another.
use Rattle.std.proofs.Common.{◌≡◌, ℕ, suc, ◌+◌, ◌-◌, ◌<◌, List, [], ◌∷◌, ◌++◌, length, Some, None, Option, sym, refl, ap, arith}
use Rattle.std.proofs.ByRecursion.{All-push}
use Rattle.std.proofs.lemmas.List.{append_assoc, length-append}
use Rattle.std.specs.List.{AllByRecursion}
use Rattle.text.specs.Form.{◌>>=◌, Reads, field, fields}

-- values that were read before the others
abbrev pub then_read : List ℕ → Option (List ℕ × List ℕ) → Option (List ℕ × List ℕ)
then_read xs None = None
then_read xs (Some (ys, rest)) = Some (xs ++ ys, rest)

then_twice : (xs : List ℕ) (v : ℕ) (o : Option (List ℕ × List ℕ)) → then_read xs (then_read (v ∷ []) o) ≡ then_read (xs ++ v ∷ []) o
then_twice xs v None = refl
then_twice xs v (Some (ys, rest)) = ap (λ l. Some (l, rest)) (sym (append_assoc xs (v ∷ []) ys))

one_more : (reads : Reads ℕ) (n v : ℕ) (text rest : List ℕ) → Some (v, rest) ≡ field reads text → fields reads (suc n) text ≡ then_read (v ∷ []) (fields reads n rest)
one_more reads n v text rest e = rw (← e) (made (fields reads n rest))
  where
    made : (o : Option (List ℕ × List ℕ)) → (o >>= λ p. Some (v ∷ p.0, p.1)) ≡ then_read (v ∷ []) o
    made None = refl
    made (Some p) = refl

-- of `count` fields of a text, the first `done` have the values xs, and the rest follows
pub record SoFar (reads : Reads ℕ) (below count done : ℕ) (text xs rest : List ℕ) : Type 0 where
  pub long : length xs ≡ done
  pub read : fields reads count text ≡ then_read xs (fields reads (count - done) rest)
  pub small : AllByRecursion (λ v. v < below) xs

pub read_more : {reads : Reads ℕ} {below count done v : ℕ} {text xs rest after : List ℕ} → SoFar reads below count done text xs rest → done < count → Some (v, after) ≡ field reads rest → v < below → SoFar reads below count (done + 1) text (xs ++ v ∷ []) after
read_more {reads} {below} {count} {done} {v} {text} {xs} {rest} {after} so_far in' e small =
    let left : count - done ≡ suc (count - (done + 1)) = omega arith in
    record {
      long = omega (arith, so_far.long, length-append xs (v ∷ []));
      read = rw (left, one_more reads (count - (done + 1)) v rest after e, then_twice xs v) at so_far.read;
      small = All-push (λ x. x < below) xs v so_far.small small;
    }
