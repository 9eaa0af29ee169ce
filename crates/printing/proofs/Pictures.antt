-- Head and rows, by the side that is 2^k, are the text, and together as long as 7 asks.
use mathlib.Core.Path.{◌≡◌, sym, ◌∙◌, ap}
use mathlib.Core.List.{List, ◌++◌}
use Prim.Native.Nat.{ℕ, ◌+◌, ◌*◌, ◌^◌}
use native.Mathlib.Omega.{arith}
use lib.ListN.{length, length-append}
use Rattle.page.specs.ListingText.{decimal}
use Rattle.pbm.specs.Writing.{head_text, rows_text, picture_text, text_length}
use Rattle.pbm.proofs.Lengths.{text_long}

-- both sizes, and 5 bytes about them
pub head_length : (side : ℕ) → length (head_text side) ≡ 5 + 2 * length (decimal side)
unfolding head_text
head_length side = simp length-append (omega arith)

module _ (k : ℕ) {side : ℕ} (e : side ≡ 2 ^ k) (raster : List ℕ) where
  pub picture_is : head_text side ++ rows_text side raster ≡ picture_text k raster
  unfolding picture_text
  picture_is = ap (λ s. head_text s ++ rows_text s raster) e

  pub picture_long : length (head_text side) + length (rows_text side raster) ≡ text_length k
  picture_long = sym (length-append (head_text side) (rows_text side raster)) ∙ ap length picture_is ∙ text_long k raster
