-- The definitions at small walks, computed.
use mathlib.Core.Path.{◌≡◌, refl}
use mathlib.Core.Bool.{cond}
use mathlib.Core.List.{[], ◌∷◌, flat_map}
use Prim.Native.Nat.{◌+◌, ◌*◌, ◌-◌}
use lib.Dec.{eqb, ltb}
use lib.IntN.{pos, negsuc}
use lib.ListN.{get_or}
use Rattle.algebra.specs.Sum.{sumℕ, run, span, ◌⋯◌}
use Rattle.algebra.specs.MinMax.{largest}
use Rattle.verdicts.specs.declared.Verdict.TheVariants.{Above, Below, Open}
use Rattle.verdicts.specs.Walking.{Verdicts, colour, raster, visited, coloured, largest_bend, cells_cut, cell, walking_order, those, records}
use Rattle.verdicts.specs.Facts.{unfolded}

-- above right of the diagonal from level 1 on, below left of it, open on it; at level 2 with the bends 0, 3, 4 and 3, smaller than those of all other verdicts
abbrev diagonal : Verdicts
diagonal j p q = cond (ltb q p) (Above (pos 1) (pos 2) 9) (cond (ltb p q) (Below (negsuc 1) (negsuc 0) 8) (Open (pos 0) (pos 0) (10 * (2 - j) + p * (4 - p))))

-- the first cell is above though its parts are open, as on P1 and P2
abbrev whole : Verdicts
whole j p q = cond (eqb j 0) (Above (pos 1) (pos 2) 3) (Open (pos 0) (pos 0) 1)

-- ---- the colour, and the raster's bytes
rasters : (raster diagonal 2 ≡ 1 ∷ 2 ∷ 2 ∷ 2 ∷ 3 ∷ 1 ∷ 2 ∷ 2 ∷ 3 ∷ 3 ∷ 1 ∷ 2 ∷ 3 ∷ 3 ∷ 3 ∷ 1 ∷ []) × (raster whole 1 ≡ 2 ∷ 2 ∷ 2 ∷ 2 ∷ [])
    × (colour whole 2 3 1 ≡ 2) × (colour diagonal 2 3 1 ≡ 2) × (get_or (raster diagonal 2) 7 0 ≡ 2)
unfolding run span ◌⋯◌ colour raster
rasters = (refl, refl, refl, refl, refl)

-- ---- the tally
tallies : (visited diagonal 2 ≡ 13) × (coloured diagonal 2 ≡ 4) × (cells_cut diagonal 2 ≡ 3)
    × (visited whole 2 ≡ 1) × (coloured whole 2 ≡ 0) × (cells_cut whole 2 ≡ 0) × (visited diagonal 0 ≡ 1) × (coloured diagonal 0 ≡ 1)
unfolding sumℕ run span ◌⋯◌ colour visited coloured cells_cut
tallies = (refl, refl, refl, refl, refl, refl, refl, refl)

-- of the coloured cells alone: where none is coloured it is 0
bends : (largest_bend diagonal 2 ≡ 4) × (largest_bend diagonal 1 ≡ 13) × (largest_bend diagonal 0 ≡ 20) × (largest_bend whole 1 ≡ 0)
unfolding sumℕ largest run span ◌⋯◌ colour largest_bend
bends = (refl, refl, refl, refl)

-- ---- the listing
order : walking_order 1 0 0 0 ≡ cell 0 0 0 ∷ cell 1 0 0 ∷ cell 1 1 0 ∷ cell 1 0 1 ∷ cell 1 1 1 ∷ []
unfolding walking_order
order = refl

listings : (records diagonal 1 ≡ 65_537 ∷ 65_542 ∷ 66_051 ∷ 66_053 ∷ []) × (records whole 1 ≡ 2 ∷ [])
    × (records diagonal 2 ≡ 131_073 ∷ 131_078 ∷ 131_587 ∷ 131_589 ∷ 65_542 ∷ 66_051 ∷ 132_105 ∷ 132_110 ∷ 132_619 ∷ 132_621 ∷ [])
unfolding run span walking_order those records
listings = (refl, refl, refl)

-- the records tell what the raster tells
stories : (unfolded 2 (records diagonal 2) ≡ raster diagonal 2) × (unfolded 1 (records whole 1) ≡ raster whole 1)
unfolding run span ◌⋯◌ colour raster walking_order those records unfolded flat_map
stories = (refl, refl)
