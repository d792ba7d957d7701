-- The definitions at work.
use Rattle.std.proofs.Common.{◌≡◌, [], ◌∷◌, Ok, Err, refl}
use Rattle.calendar.specs.Opening.{opened}
use Rattle.calendar.specs.Periods.{by_week}
use Rattle.calendar.specs.declared.fault.CalendarFault.TheVariants.{Date}

may_2021 : opened 2021 5 (1 ∷ 8 ∷ 13 ∷ 24 ∷ []) ≡ Ok (2 ∷ 5 ∷ 2 ∷ 4 ∷ 3 ∷ 5 ∷ 2 ∷ 4 ∷ 3 ∷ 1 ∷ [])
unfolding opened by_week
may_2021 = refl

february_2021 : opened 2021 2 [] ≡ Ok (5 ∷ 2 ∷ 5 ∷ 2 ∷ 5 ∷ 2 ∷ 5 ∷ 2 ∷ [])
unfolding opened by_week
february_2021 = refl

february_2000 : opened 2000 2 [] ≡ Ok (4 ∷ 2 ∷ 5 ∷ 2 ∷ 5 ∷ 2 ∷ 5 ∷ 2 ∷ 2 ∷ [])
unfolding opened by_week
february_2000 = refl

august_2099 : opened 2099 8 [] ≡ Ok (2 ∷ 5 ∷ 2 ∷ 5 ∷ 2 ∷ 5 ∷ 2 ∷ 5 ∷ 2 ∷ 1 ∷ [])
unfolding opened by_week
august_2099 = refl

repeated : opened 2021 5 (8 ∷ 8 ∷ []) ≡ Err Date
unfolding opened by_week
repeated = refl

outside : opened 2021 2 (29 ∷ []) ≡ Err Date
unfolding opened by_week
outside = refl

day_zero : opened 2021 2 (0 ∷ []) ≡ Err Date
unfolding opened by_week
day_zero = refl

month_zero : opened 2021 0 [] ≡ Err Date
unfolding opened by_week
month_zero = refl

month_thirteen : opened 2021 13 [] ≡ Err Date
unfolding opened by_week
month_thirteen = refl

too_late : opened 2100 1 [] ≡ Err Date
unfolding opened by_week
too_late = refl
