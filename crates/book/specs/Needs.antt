-- The needs of a month, by period. Assumes nothing.
use Rattle.std.specs.Prelude.{ℕ, ◌-◌, List, slice_index_or}
use Rattle.book.specs.declared.need.Need.{Need}

abbrev pub highest_need : ℕ
highest_need = 1000

abbrev pub no_need : Need
no_need = record { rapid = 0; complementary = 0 }

-- the need of period t, counted from 1
abbrev pub need_of : List Need → ℕ → Need
need_of needs t = slice_index_or needs (t - 1) no_need
