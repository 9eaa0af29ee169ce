-- The refusal table's rows for a well-formed text.
use mathlib.Core.Path.{◌≡◌, refl}
use Prim.Native.Nat.{◌<◌}
use borrow.Author.Tests.{lt-ltb}
use Rattle.page.specs.Refusals.{table, first, refusal}
use Rattle.page.specs.SheetText.{Said, sheet_in, to_read}
use Rattle.page.specs.Steps.{mode_refusal}

-- the rows 7, 8 and 9 have no input
pub read_rows : (w : Said) → refusal (to_read w) ≡ mode_refusal (sheet_in w) w.mode
unfolding table first mode_refusal
read_rows w = refl

-- row 1, whatever the others say
pub read_1 : (w : Said) → 8 < w.d → 1 ≡ refusal (to_read w)
unfolding table first
read_1 w h = rw (lt-ltb 8 w.d h)
