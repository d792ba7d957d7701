use Rattle.std.proofs.Common.{◌≡◌, take}
use Rattle.sheet.specs.Facts.{numbers_of}
use Rattle.sheet.proofs.offer.per_range.Given as goal

abbrev pub invariant-loop-value : goal.invariant-loop-value
invariant-loop-value l = numbers_of l.numbers ≡ take l.value-index l.values
