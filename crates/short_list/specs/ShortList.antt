-- A list of at most so many values, in place. Assumes nothing.
use Rattle.std.specs.Prelude.{ℕ, List, take}
use Rattle.short_list.specs.declared.list.ShortList.{ShortList as Kept}

-- the values, in order
abbrev pub items : {T : Type 0} {N : ℕ} → Kept T N → List T
items kept = take kept.len kept.slots
