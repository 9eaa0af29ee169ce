-- What the page says of the walk, as statements for any verdicts. That they hold is proofs/.
use Rattle.std.specs.Prelude.{◌≡◌, Bool, true, ◌&&◌, ◌↔◌, ℕ, ◌+◌, ◌*◌, ◌-◌, ◌/◌, ◌%◌, ◌^◌, ◌≤◌, ◌<◌, eqb, ℤ, length, get_or}
use mathlib.Core.List.{List, [], ◌∷◌, map, flat_map}
use Rattle.algebra.specs.Sum.{span}
use Rattle.verdicts.specs.declared.Verdict.{Verdict}
use Rattle.verdicts.specs.declared.Verdict.TheVariants.{Above, Below}
use Rattle.verdicts.specs.Judging.{carried_bend}
use Rattle.verdicts.specs.Walking.{Verdicts, enclosing, is_open, is_visited, colour, raster, visited, coloured, largest_bend, cells_cut, those, records}

-- visited is 1 plus 4 times the number of cells cut, and lies between 1 and (4^(k+1) − 1)/3
abbrev pub VisitedByCuts : Type 0
VisitedByCuts = (v : Verdicts) (k : ℕ) → visited v k ≡ 1 + 4 * cells_cut v k

abbrev pub VisitedBetween : Type 0
VisitedBetween = (v : Verdicts) (k : ℕ) → (1 ≤ visited v k) × (visited v k ≤ (4 ^ (k + 1) - 1) / 3)

-- ---- the records tell what the raster tells
-- the colour, level, column and row that a record r holds
abbrev pub colour_in : ℕ → ℕ
colour_in r = r % 4

abbrev pub level_in : ℕ → ℕ
level_in r = r / 65_536

abbrev pub column_in : ℕ → ℕ
column_in r = r / 4 % 128

abbrev pub row_in : ℕ → ℕ
row_in r = r / 512 % 128

-- its cell covers the finest cell at column p, row q
abbrev pub covers : ℕ → ℕ → ℕ → ℕ → Bool
covers k p q r = eqb (p / 2 ^ (k - level_in r)) (column_in r) && eqb (q / 2 ^ (k - level_in r)) (row_in r)

-- the colours of the records that cover it
abbrev pub unfolded_at : ℕ → List ℕ → ℕ → ℕ → List ℕ
unfolded_at k rs p q = map colour_in (those (covers k p q) rs)

-- each finest cell is covered by one record, and that has its colour
abbrev pub OneRecordEach : Type 0
OneRecordEach = (v : Verdicts) (k p q : ℕ) → k ≤ 7 → p < 2 ^ k → q < 2 ^ k → unfolded_at k (records v k) p q ≡ colour v k p q ∷ []

-- unfolding the records gives the raster
unfoldable pub unfolded : ℕ → List ℕ → List ℕ
unfolded k rs = flat_map (λ n. unfolded_at k rs (n % 2 ^ k) (n / 2 ^ k)) (span 0 (4 ^ k))

abbrev pub SameStory : Type 0
SameStory = (v : Verdicts) (k : ℕ) → k ≤ 7 → unfolded k (records v k) ≡ raster v k

-- the raster's byte at q·2^k + p is the colour of the finest cell at column p, row q
abbrev pub RasterByte : Type 0
RasterByte = (v : Verdicts) (k p q : ℕ) → p < 2 ^ k → q < 2 ^ k → get_or (raster v k) (q * 2 ^ k + p) 0 ≡ colour v k p q

-- the raster has 4^k bytes, the listing at least one record and at most 4^k: visited less the cells cut
abbrev pub RasterLong : Type 0
RasterLong = (v : Verdicts) (k : ℕ) → length (raster v k) ≡ 4 ^ k

abbrev pub ListingLong : Type 0
ListingLong = (v : Verdicts) (k : ℕ) → (length (records v k) + cells_cut v k ≡ visited v k) × (1 ≤ length (records v k)) × (length (records v k) ≤ 4 ^ k)

-- coloured is the number of the raster's bytes that are 1, and of the listing's records whose colour is 1
abbrev pub ColouredCounted : Type 0
ColouredCounted = (v : Verdicts) (k : ℕ) → (coloured v k ≡ length (those (λ b. eqb b 1) (raster v k))) × (coloured v k ≡ length (those (λ r. eqb (colour_in r) 1) (records v k)))

-- ---- what determines a largest number
-- a finest cell with the property, and with the number b
pub record Having (k : ℕ) (has : ℕ → ℕ → Type 0) (number : ℕ → ℕ → ℕ) (b : ℕ) : Type 0 where
  pub column : ℕ
  pub row : ℕ
  pub across : column < 2 ^ k
  pub along : row < 2 ^ k
  pub holds : has column row
  pub exact : number column row ≡ b

-- b is the largest number of the finest cells with the property: no such cell has a larger one; where there is such a cell, one of them has just b; and where there is none, b is 0
pub record IsLargest (k : ℕ) (has : ℕ → ℕ → Type 0) (number : ℕ → ℕ → ℕ) (b : ℕ) : Type 0 where
  pub at_most : (p q : ℕ) → p < 2 ^ k → q < 2 ^ k → has p q → number p q ≤ b
  pub reached : (p q : ℕ) → p < 2 ^ k → q < 2 ^ k → has p q → Having k has number b
  pub none : ((p q : ℕ) → p < 2 ^ k → q < 2 ^ k → has p q → ⊥) → b ≡ 0

-- the largest bend is that of the coloured finest cells
abbrev pub BendLargest : Type 0
BendLargest = (v : Verdicts) (k : ℕ) → IsLargest k (λ p q. colour v k p q ≡ 1) (λ p q. carried_bend (v k p q)) (largest_bend v k)

-- ---- why a finest cell has its colour
-- a cell covers the finest cell at column p, row q, that is encloses it or is that cell itself; it is visited, and its verdict is of this kind
pub record Covered (v : Verdicts) (k p q : ℕ) (verdict : ℤ → ℤ → ℕ → Verdict) : Type 0 where
  pub level : ℕ
  pub within : level ≤ k
  pub reached : is_visited v level (p / 2 ^ (k - level)) (q / 2 ^ (k - level)) ≡ true
  pub lower : ℤ
  pub upper : ℤ
  pub bend : ℕ
  pub judged : enclosing v k p q level ≡ verdict lower upper bend

-- the byte is 1 for a coloured finest cell, all whose enclosing cells are open and itself too; 2 where the cleared cell that covers it is above, 3 where it is below
abbrev pub ColourMeans : Type 0
ColourMeans = (v : Verdicts) (k p q : ℕ) →
    ((colour v k p q ≡ 1) ↔ ((l : ℕ) → l ≤ k → is_open (enclosing v k p q l) ≡ true))
    × ((colour v k p q ≡ 2) ↔ Covered v k p q Above)
    × ((colour v k p q ≡ 3) ↔ Covered v k p q Below)
