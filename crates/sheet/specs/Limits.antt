-- The numbers of a sheet. Power is whole MW, prices are whole cents per MW. Assumes nothing.
use Rattle.std.specs.Prelude.{ℕ}

abbrev pub longest_name : ℕ
longest_name = 16

abbrev pub highest_number : ℕ
highest_number = 65535

abbrev pub lowest_floor : ℕ
lowest_floor = 10

abbrev pub highest_floor : ℕ
highest_floor = 500

abbrev pub most_ranges : ℕ
most_ranges = 4

-- of one range, and of all ranges of an offer together
abbrev pub widest : ℕ
widest = 500

-- of a month
abbrev pub most_periods : ℕ
most_periods = 11

-- 100000,00 for a period
abbrev pub highest_price : ℕ
highest_price = 10000000

-- 1000000,00 for the month
abbrev pub highest_block : ℕ
highest_block = 100000000
