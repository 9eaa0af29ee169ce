-- How long the raster and the listing are.
use mathlib.Core.Path.{◌≡◌, ◌∙◌, ap}
use Prim.Native.Nat.{ℕ, ◌+◌, ◌*◌, ◌-◌, ◌^◌}
use native.Mathlib.Nat as Nat
use native.Mathlib.Omega.{arith}
use lib.ListN.{length, length-map}
use Rattle.algebra.specs.Sum.{span}
use Rattle.algebra.proofs.Run.{length_run}
use Rattle.verdicts.specs.Walking.{Verdicts, raster}
use Rattle.verdicts.specs.Facts.{RasterLong, ListingLong}
use Rattle.verdicts.specs.Operational.{visited_from, records_from}
use Rattle.verdicts.proofs.Cells.{walk_induction, visited_cleared, visited_last, visited_open, records_cleared, records_last, records_open}
use Rattle.verdicts.proofs.Parts.{four_cong, length_in_turn}
use Rattle.verdicts.proofs.Bounds.{records_bound}
use Rattle.verdicts.proofs.Tallies.{visited_is, visited_by_cuts}
use Rattle.verdicts.proofs.Listing.{records_are}

pub raster_long : RasterLong
unfolding raster span
raster_long v k = length-map (span 0 (4 ^ k)) _ ∙ length_run 0 (4 ^ k - 0) ∙ Nat.sub-zero (4 ^ k)

-- four times the records are three times the cells visited, and one
records_visited : (v : Verdicts) (level n p q : ℕ) → 4 * length (records_from v level n p q) ≡ 3 * visited_from v level n p q + 1
records_visited v = walk_induction v (λ level n p q. 4 * length (records_from v level n p q) ≡ 3 * visited_from v level n p q + 1)
    (λ level n p q c s. omega (arith, ap length (records_cleared v level p q s n), visited_cleared v level p q s n))
    (λ level p q s. omega (arith, ap length (records_last v level p q s), visited_last v level p q))
    (λ level n p q s h. omega (
      arith,
      ap length (records_open v level p q s n),
      length_in_turn (records_from v (level + 1) n) p q,
      visited_open v level p q s n,
      four_cong (λ a b. 4 * length (records_from v (level + 1) n a b)) (λ a b. 3 * visited_from v (level + 1) n a b + 1) p q h,
    ))

pub listing_long : ListingLong
listing_long v k = rw (← records_are v k) (
  omega (arith, records_visited v 0 k 0 0, visited_is v k, visited_by_cuts v k),
  omega (arith, records_visited v 0 k 0 0),
  records_bound v 0 k 0 0,
)
