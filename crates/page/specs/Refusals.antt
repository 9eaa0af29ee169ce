-- Calls and refusals: the table's rows 1 to 9 as one list, of which the first condition that holds gives the number. Rows 11 and 14 to 20, tried before them, are those of reading a text.
use Rattle.std.specs.Prelude.{Bool, false, not, ◌||◌, cond, List, [], ◌∷◌, ℕ, zero, suc, ◌+◌, ◌^◌, leb, ltb, eqb, ℤ, pos, neg_ℤ, ◌+ℤ◌, ◌*ℤ◌, length}
use Rattle.std.specs.Int.Signed.{lt_z}
use Rattle.page.specs.Sheet.{Sheet, count, mode_of}
use Rattle.page.specs.Bounds.{verdict}
use Rattle.page.specs.Weight.{weight}
use Rattle.verdicts.specs.Walking.{visited}

-- ---- what a call is given: a sheet; a mode, unless it takes none; the entries of a raster or listing place; a cell or a point
pub data Given : Type 0 where
  not_given : Given
  given : ℕ → Given

pub data Question : Type 0 where
  nothing : Question
  cell : ℕ → ℕ → ℕ → Question
  point : ℤ → ℤ → Question

pub record Input : Type 0 where
  pub sheet : Sheet
  pub mode : Given
  pub entries : Given
  pub question : Question

-- check a sheet; value F at a point; bounds and bend of a cell; raster or listing, of which the place has n entries
abbrev pub to_check : Sheet → Input
to_check S = record { sheet = S; mode = not_given; entries = not_given; question = nothing }

abbrev pub at_point : Sheet → ℤ → ℤ → Input
at_point S u v = record { sheet = S; mode = not_given; entries = not_given; question = point u v }

abbrev pub in_cell : Sheet → ℕ → ℕ → ℕ → ℕ → Input
in_cell S mode j p q = record { sheet = S; mode = given mode; entries = not_given; question = cell j p q }

abbrev pub to_walk : Sheet → ℕ → ℕ → Input
to_walk S mode n = record { sheet = S; mode = given mode; entries = given n; question = nothing }

-- a call skips what it has no input for
abbrev pub if_given : Given → (ℕ → Bool) → Bool
if_given not_given holds = false
if_given (given n) holds = holds n

-- ---- the conditions
-- X or Y outside its range, -1,048,576 to 1,048,576
abbrev pub outside_range : ℤ → Bool
outside_range z = lt_z z (neg_ℤ (pos 1_048_576)) || lt_z (pos 1_048_576) z

-- U outside 2^(k+1)·X to 2^(k+1)·(X + 2^s), and so of V and Y
abbrev pub outside_side : ℕ → ℕ → ℤ → ℤ → Bool
outside_side s k z u = lt_z u (pos (2 ^ (k + 1)) *ℤ z) || lt_z (pos (2 ^ (k + 1)) *ℤ (z +ℤ pos (2 ^ s))) u

-- j > k, p or q not below 2^j; or the point is outside the closed square
abbrev pub misplaced : Sheet → Question → Bool
misplaced S nothing = false
misplaced S (cell j p q) = ltb S.k j || leb (2 ^ j) p || leb (2 ^ j) q
misplaced S (point u v) = outside_side S.s S.k S.X u || outside_side S.s S.k S.Y v

-- ---- the table
pub record Row : Type 0 where
  pub number : ℕ
  pub holds : Bool

infix 3 ◌when◌
abbrev pub ◌when◌ : ℕ → Bool → Row
n when b = record { number = n; holds = b }

unfoldable pub table : Input → List Row
table c =
    let S = c.sheet in
    -- d > 8
    (1 when ltb 8 S.d)
    -- coefficient count is not n
    ∷ (2 when not (eqb (length S.coefficients) (count S.d)))
    -- k > 7
    ∷ (3 when ltb 7 S.k)
    -- X or Y outside its range, or s > 10
    ∷ (4 when outside_range S.X || outside_range S.Y || ltb 10 S.s)
    -- mode is neither 0 nor 1 (check and point calls take none)
    ∷ (5 when if_given c.mode (λ m. ltb 1 m))
    -- weight is 2^62 or more
    ∷ (6 when leb (2 ^ 62) (weight S))
    -- raster or listing place has fewer than 4^k entries
    ∷ (7 when if_given c.entries (λ n. ltb n (4 ^ S.k)))
    -- j > k, p or q not below 2^j; or the point is outside the closed square
    ∷ (8 when misplaced S c.question)
    -- visited above 65,535: asked of the calls that walk, which are those that are lent a place
    ∷ (9 when if_given c.entries (λ _. if_given c.mode (λ m. ltb 65_535 (visited (verdict S (mode_of m)) S.k))))
    ∷ []

-- the number of the first row whose condition holds, 0 where none does
unfoldable pub first : List Row → ℕ
first [] = 0
first (r ∷ rs) = cond r.holds r.number (first rs)

abbrev pub refusal : Input → ℕ
refusal c = first (table c)

-- ---- an answer, by the refusal's number n: the values where it is 0, and else what n refuses
abbrev pub unless : {X : Type 0} → ℕ → (ℕ → X) → X → X
unless zero refused values = values
unless (suc n) refused values = refused (suc n)
