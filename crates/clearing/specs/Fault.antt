-- The refusals of a clearing: the number and the place of each. Assumes nothing.
use Rattle.std.specs.Prelude.{ℕ}
use Rattle.clearing.specs.declared.fault.ClearingFault.{ClearingFault}
use Rattle.clearing.specs.declared.fault.ClearingFault.TheVariants.{Period, Space, Shortage}

abbrev pub number_and_place : ClearingFault → ℕ × ℕ
number_and_place (Period t) = (12, t)
number_and_place Space = (13, 0)
number_and_place (Shortage t) = (14, t)
