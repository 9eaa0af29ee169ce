-- The rows of writing's refusals, one after the other, and what holds where none does.
use mathlib.Core.Path.{◌≡◌, refl}
use mathlib.Core.Bool.{Bool, true, false, ◌||◌, cond}
use Prim.Native.Nat.{ℕ, ◌^◌, ◌≤◌, ◌<◌}
use lib.Dec.{ltb}
use borrow.Author.Tests.{ltb-false, lt-ltb, le-ltb}
use Rattle.page.specs.Refusals.{first}
use Rattle.page.proofs.Rows.{next_row, or_both}
use Rattle.pbm.specs.Writing.{text_length}
use Rattle.pbm.specs.Refusals.{write_table, write_refusal}

module _ (k r n : ℕ) where
  pub too_deep : 7 < k → 3 ≡ write_refusal k r n
  unfolding write_table first
  too_deep h = rw (lt-ltb 7 k h)

  pub short_raster : k ≤ 7 → r < 4 ^ k → 7 ≡ write_refusal k r n
  unfolding write_table first
  short_raster d h = rw (le-ltb 7 k d, lt-ltb r (4 ^ k) h)

  -- whatever the raster
  pub short_place : k ≤ 7 → n < text_length k → 7 ≡ write_refusal k r n
  unfolding write_table first
  short_place d h = rw (le-ltb 7 k d, lt-ltb n (text_length k) h) (either (ltb r (4 ^ k)))
    where
      either : (b : Bool) → ◌≡◌ {A = ℕ} 7 (cond (b || true) 7 0)
      either true = refl
      either false = refl

  pub passes : k ≤ 7 → 4 ^ k ≤ r → text_length k ≤ n → 0 ≡ write_refusal k r n
  unfolding write_table first
  passes d h i = rw (le-ltb 7 k d, le-ltb r (4 ^ k) h, le-ltb n (text_length k) i)

-- what is not refused: the depth is at most 7, the raster is whole, and the text has room
pub record Passed (k r n : ℕ) : Type 0 where
  pub depth : k ≤ 7
  pub whole : 4 ^ k ≤ r
  pub room : text_length k ≤ n

pub passed : (k r n : ℕ) → write_refusal k r n ≡ 0 → Passed k r n
unfolding write_table first
passed k r n e =
    let deep = next_row (ltb 7 k) 2 _ e in
    let short = next_row _ 6 _ deep.1 in
    let each = or_both (ltb r (4 ^ k)) (ltb n (text_length k)) short.0 in
    record { depth = ltb-false 7 k deep.0; whole = ltb-false r (4 ^ k) each.0; room = ltb-false n (text_length k) each.1 }
