-- When a calendar is opened.
use Rattle.std.proofs.Common.{◌≡◌, ℕ, ◌≤◌, true, false, List, length, Ok, Err, refl, arith}
use Rattle.std.proofs.lemmas.Bool.{le-leb, and_left, and_right, and_from}
use Rattle.calendar.specs.Date.{month_length}
use Rattle.calendar.specs.Opening.{announced, rising, month_periods, opened}
use Rattle.calendar.specs.declared.fault.CalendarFault.TheVariants.{Date, Weeks}

module _ (year month : ℕ) (holidays : List ℕ) where
  pub unannounced : announced year month (length holidays) ≡ false → opened year month holidays ≡ Err Date
  unfolding opened
  unannounced no_month = rw (and_left (announced year month (length holidays)) (rising 0 (month_length year month) holidays) no_month) refl

  pub unrisen : rising 0 (month_length year month) holidays ≡ false → opened year month holidays ≡ Err Date
  unfolding opened
  unrisen no_days = rw (and_right (announced year month (length holidays)) (rising 0 (month_length year month) holidays) no_days) refl

  pub dated_opens : announced year month (length holidays) ≡ true → rising 0 (month_length year month) holidays ≡ true → length (month_periods year month holidays) ≤ 11 → opened year month holidays ≡ Ok (month_periods year month holidays)
  unfolding opened
  dated_opens months days few =
      rw (
        and_from (announced year month (length holidays)) (rising 0 (month_length year month) holidays) months days,
        le-leb (length (month_periods year month holidays)) 11 few,
      ) refl

  pub date_not_weeks : opened year month holidays ≡ Err Date → opened year month holidays ≡ Err Weeks → ⊥
  date_not_weeks is other = let z : ◌≡◌ {A = ℕ} 0 1 = cc in omega arith

  pub ok_not_weeks : (counts : List ℕ) → opened year month holidays ≡ Ok counts → opened year month holidays ≡ Err Weeks → ⊥
  ok_not_weeks counts is other = let z : ◌≡◌ {A = ℕ} 0 1 = cc in omega arith
