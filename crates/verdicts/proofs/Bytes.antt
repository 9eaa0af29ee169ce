-- Which byte of the raster is whose.
use mathlib.Core.Path.{◌≡◌, sym, ◌∙◌, ap}
use mathlib.Core.List.{map}
use Prim.Native.Nat.{ℕ, zero, suc, ◌+◌, ◌*◌, ◌-◌, ◌/◌, ◌^◌, ◌<◌, ◌%◌}
use native.Mathlib.Nat as Nat
use native.Mathlib.Omega.{arith}
use lib.Arith.{digits_lt}
use lib.ListN.{get_or}
use lib.Pow.{high, low, pow_pos}
use Rattle.algebra.specs.Sum.{run, span}
use Rattle.algebra.proofs.Power.{*_pow}
use Rattle.verdicts.specs.Walking.{Verdicts, colour, raster}
use Rattle.verdicts.specs.Facts.{RasterByte}

-- the byte at n is of a row of the grid
pub row_below : (k n : ℕ) → n < 4 ^ k → n / 2 ^ k < 2 ^ k
row_below k n h = (Nat.div-lt_iff_lt-mul (pow_pos k)).1 (rw (*_pow 2 2 k) at h)

-- and that of column p, row q is one of the raster's
pub byte_below : (k p q : ℕ) → p < 2 ^ k → q < 2 ^ k → q * 2 ^ k + p < 4 ^ k
byte_below k p q h i = rw (*_pow 2 2 k) (digits_lt i h)

-- the entry at i of a list that is made from the numbers a, a + 1, ..
pub get_or_map_run : {X : Type 0} (f : ℕ → X) (x : X) (a n i : ℕ) → i < n → get_or (map f (run a n)) i x ≡ f (a + i)
unfolding run
get_or_map_run f x a zero i h = absurd (omega arith)
get_or_map_run f x a (suc n) zero h = ap f (sym (Nat.add-zero a))
get_or_map_run f x a (suc n) (suc i) h = get_or_map_run f x (suc a) n i (omega arith) ∙ ap f (let e : suc a + i ≡ a + suc i = omega arith in e)

-- the byte at n is the colour of its finest cell
pub raster_at : (v : Verdicts) (k n : ℕ) → n < 4 ^ k → get_or (raster v k) n 0 ≡ colour v k (n % 2 ^ k) (n / 2 ^ k)
unfolding raster span
raster_at v k n h = get_or_map_run _ 0 0 (4 ^ k - 0) n (rw Nat.sub-zero h) ∙ rw (Nat.zero-add n)

pub raster_byte : RasterByte
raster_byte v k p q h i = raster_at v k (q * 2 ^ k + p) (byte_below k p q h i) ∙ rw (high q k h, low q k h)
