-- What one MW of an offer counts and what it is paid. Prices are whole cents, power is whole MW. Assumes nothing.
use Rattle.std.specs.Prelude.{ℕ, ◌+◌, ◌-◌, ◌*◌, Bool, cond, List, map, ℤ, pos, ◌+ℤ◌, ◌-ℤ◌}
use Rattle.sheet.specs.Offer.{Offer}
use Rattle.book.specs.Limits.{row}
use Rattle.clearing.specs.Words.{repeated}

-- 5,00
abbrev pub mark_per_day : ℕ
mark_per_day = 500

-- what a mark is worth over d days
abbrev pub worth : (mark : Bool) (d : ℕ) → ℕ
worth mark d = cond mark (mark_per_day * d) 0

-- the criterion of a price over d days: the price, less for a short offer, more for an observed one; it can be negative
abbrev pub criterion : Offer → (d price : ℕ) → ℤ
criterion o d price = (pos price -ℤ pos (worth o.short d)) +ℤ pos (worth o.observed d)

-- what one MW accepted at a marginal price is paid over d days. An observed MW is only accepted at a price of its mark's worth or more, so nothing is cut off
abbrev pub pay : Offer → (d price : ℕ) → ℕ
pay o d price = (price + worth o.short d) - worth o.observed d

-- the price of each MW of an offer in period t, in the order in which they are accepted; none where it is not offered
abbrev pub mw_prices : (t : ℕ) → Offer → List ℕ
mw_prices t o = repeated o.widths (row o t)

-- the criterion of each MW of an offer in period t of d days
abbrev pub megawatts : (d t : ℕ) → Offer → List ℤ
megawatts d t o = map (criterion o d) (mw_prices t o)
