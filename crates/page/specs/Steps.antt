-- What the contracts of inner functions say of the refusal table. None of it is the page's.
use Rattle.std.specs.Prelude.{ℕ, take}
use Rattle.page.specs.Sheet.{Sheet}
use Rattle.page.specs.Refusals.{to_check, to_walk, table, first}

-- the first that holds among the rows 1 to 4, which every call tries
unfoldable pub range_refusal : Sheet → ℕ
range_refusal S = first (take 4 (table (to_check S)))

-- and among the rows 1 to 6, which every call tries that takes a mode
unfoldable pub mode_refusal : Sheet → ℕ → ℕ
mode_refusal S mode = first (take 6 (table (to_walk S mode 0)))
