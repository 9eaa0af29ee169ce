-- Walking the sheet: colours, raster, listing and tally, for any verdicts on the cells. Nothing here cuts a cell: only the order of the records is that of a walk.
use Rattle.std.specs.Prelude.{Bool, true, false, not, ◌&&◌, ◌||◌, cond, List, [], ◌∷◌, ◌++◌, map, ℕ, zero, suc, ◌+◌, ◌*◌, ◌-◌, ◌/◌, ◌%◌, ◌^◌, eqb}
use Rattle.algebra.specs.Sum.{sumℕ, span, ◌⋯◌}
use Rattle.algebra.specs.MinMax.{largest}
use Rattle.verdicts.specs.declared.Verdict.{Verdict}
use Rattle.verdicts.specs.declared.Verdict.TheVariants.{Above, Below, Open}
use Rattle.verdicts.specs.Judging.{carried_bend}

-- a verdict for each level, column and row
abbrev pub Verdicts : Type 0
Verdicts = ℕ → ℕ → ℕ → Verdict

-- the verdict on the cell at level l that encloses the cell at level j, column p, row q
abbrev pub enclosing : Verdicts → ℕ → ℕ → ℕ → ℕ → Verdict
enclosing v j p q l = v l (p / 2 ^ (j - l)) (q / 2 ^ (j - l))

abbrev pub is_open : Verdict → Bool
is_open (Above l u b) = false
is_open (Below l u b) = false
is_open (Open l u b) = true

-- ---- the colour: 1 for coloured, 2 for above, 3 for below
-- by the first verdict that is not open; 1 where all are
abbrev pub colour_of : List Verdict → ℕ
colour_of [] = 1
colour_of (Above l u b ∷ vs) = 2
colour_of (Below l u b ∷ vs) = 3
colour_of (Open l u b ∷ vs) = colour_of vs

-- of a finest cell: by the cells that enclose it from level 0 on, itself the last
unfoldable pub colour : Verdicts → ℕ → ℕ → ℕ → ℕ
colour v k p q = colour_of (map (enclosing v k p q) (0 ⋯ k))

-- the raster: the byte at q·2^k + p is 1 for a coloured finest cell, 2 where the cleared cell that covers it is above, 3 where it is below. Row 0 is the bottom row
unfoldable pub raster : Verdicts → ℕ → List ℕ
raster v k = map (λ n. colour v k (n % 2 ^ k) (n / 2 ^ k)) (span 0 (4 ^ k))

-- ---- the tally
-- how many cells of level j have the property
abbrev pub how_many : ℕ → (ℕ → ℕ → Bool) → ℕ
how_many j has = sumℕ (span 0 (2 ^ j)) (λ q. sumℕ (span 0 (2 ^ j)) (λ p. cond (has p q) 1 0))

abbrev pub all_open : List Verdict → Bool
all_open [] = true
all_open (v ∷ vs) = is_open v && all_open vs

-- all larger enclosing cells of the cell are open
abbrev pub is_visited : Verdicts → ℕ → ℕ → ℕ → Bool
is_visited v j p q = all_open (map (enclosing v j p q) (span 0 j))

-- visited is the number of cells all of whose larger enclosing cells are open
unfoldable pub visited : Verdicts → ℕ → ℕ
visited v k = sumℕ (0 ⋯ k) (λ j. how_many j (is_visited v j))

-- coloured is the number of coloured cells
unfoldable pub coloured : Verdicts → ℕ → ℕ
coloured v k = how_many k (λ p q. eqb (colour v k p q) 1)

-- the largest number that a cell of level j with the property has, 0 where no cell has the property
abbrev pub largest_among : ℕ → (ℕ → ℕ → Bool) → (ℕ → ℕ → ℕ) → ℕ
largest_among j has number = largest (span 0 (2 ^ j)) (λ q. largest (span 0 (2 ^ j)) (λ p. cond (has p q) (number p q) 0))

-- the largest bend among coloured cells (0 if none) (#101)
unfoldable pub largest_bend : Verdicts → ℕ → ℕ
largest_bend v k = largest_among k (λ p q. eqb (colour v k p q) 1) (λ p q. carried_bend (v k p q))

-- the cells cut: visited, open, and of a level below k
unfoldable pub cells_cut : Verdicts → ℕ → ℕ
cells_cut v k = sumℕ (span 0 k) (λ j. how_many j (λ p q. is_visited v j p q && is_open (v j p q)))

-- ---- the listing
pub record Cell : Type 0 where
  pub level : ℕ
  pub column : ℕ
  pub row : ℕ

abbrev pub cell : ℕ → ℕ → ℕ → Cell
cell j p q = record { level = j; column = p; row = q }

-- the four parts of a cell in the order lower left, lower right, upper left, upper right
abbrev pub in_turn : {X : Type 0} → (ℕ → ℕ → List X) → ℕ → ℕ → List X
in_turn g p q = g (2 * p) (2 * q) ++ (g (2 * p + 1) (2 * q) ++ (g (2 * p) (2 * q + 1) ++ g (2 * p + 1) (2 * q + 1)))

-- walking order: all cells of n further levels from the cell on, each before its parts
unfoldable pub walking_order : ℕ → ℕ → ℕ → ℕ → List Cell
walking_order zero j p q = cell j p q ∷ []
walking_order (suc n) j p q = cell j p q ∷ in_turn (walking_order n (j + 1)) p q

-- the members of a list that have the property, in its order
unfoldable pub those : {X : Type 0} → (X → Bool) → List X → List X
those has [] = []
those has (x ∷ xs) = cond (has x) (x ∷ those has xs) (those has xs)

-- a cleared or coloured cell: it is visited, and it is not open or has the level k
abbrev pub is_listed : Verdicts → ℕ → Cell → Bool
is_listed v k c = is_visited v c.level c.column c.row && (not (is_open (v c.level c.column c.row)) || eqb c.level k)

-- a record: colour + 4·p + 512·q + 65,536·level
abbrev pub record_of : ℕ → ℕ → ℕ → ℕ → ℕ
record_of colour level p q = colour + 4 * p + 512 * q + 65_536 * level

-- the record of a cell, its colour by its own verdict
abbrev pub record_at : Verdicts → Cell → ℕ
record_at v c = record_of (colour_of (v c.level c.column c.row ∷ [])) c.level c.column c.row

-- the listing: one record per cleared or coloured cell in walking order
unfoldable pub records : Verdicts → ℕ → List ℕ
records v k = map (record_at v) (those (is_listed v k) (walking_order k 0 0 0))
