use Rattle.std.proofs.Common.{lit<, arith}
use native.Mathlib.Nat.{pow-le-pow_right}
use Rattle.text.proofs.number.number_up_to.Goals as goal

pub returns-clause-token : goal.returns-clause-token
returns-clause-token c =
    let part = c.in_ok-digits.ensures.part in
    record {
      stands = part.stands;
      valued = c.value-value.ensures.is;
      small = omega (arith, pow-le-pow_right {n = 10} (lit< tt) part.high);
    }
