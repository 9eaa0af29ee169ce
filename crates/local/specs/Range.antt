-- The range of a form: the two bounds and the bend, for any table g(a,b), a + b ≤ d, and the verdict by a range.
use Rattle.std.specs.Prelude.{◌≡◌, cond, ◌&&◌, List, [], ◌∷◌, ℕ, zero, suc, ◌+◌, ◌-◌, ◌%◌, ◌^◌, ◌≤◌, ◌<◌, leb, eqb, ℤ, pos, negsuc, nat_abs}
use Rattle.algebra.specs.Sum.{sum, sumℕ, span, ◌⋯◌}
use Rattle.algebra.specs.Triangle.{triangle}
use Rattle.forms.specs.Bounds.{Mode, low, high, bent}
use Rattle.tables.specs.Table.{at, row_of, held}
use Rattle.local.specs.declared.Range.{Range}
use Rattle.local.specs.declared.Spare.{Spare}
use Rattle.verdicts.specs.declared.Verdict.{Verdict}
use Rattle.verdicts.specs.Judging.{judged}

-- ---- the sums over the table of what g(a,b) adds to each bound and to the bend
abbrev pub lower_of : ℕ → Mode → (ℕ → ℕ → ℤ) → ℤ
lower_of d mode g = sum (0 ⋯ d) (λ a. sum (0 ⋯ (d - a)) (λ b. low mode (a ∷ b ∷ []) (g a b)))

abbrev pub upper_of : ℕ → Mode → (ℕ → ℕ → ℤ) → ℤ
upper_of d mode g = sum (0 ⋯ d) (λ a. sum (0 ⋯ (d - a)) (λ b. high mode (a ∷ b ∷ []) (g a b)))

abbrev pub bend_of : ℕ → (ℕ → ℕ → ℤ) → ℕ
bend_of d g = triangle d (λ a b. bent (a ∷ b ∷ []) (g a b))

-- `range_on`
abbrev pub ranged : ℤ → ℤ → ℕ → Range
ranged lower upper bend = record { lower = lower; upper = upper; bend = bend }

abbrev pub range_of : ℕ → Mode → (ℕ → ℕ → ℤ) → Range
range_of d mode g = ranged (lower_of d mode g) (upper_of d mode g) (bend_of d g)

-- `judge`
abbrev pub judged_by : Range → Verdict
judged_by r = judged r.lower r.upper r.bend

-- the sizes of the places of a table together leave room for it
pub record Light (d : ℕ) (places : List ℤ) : Type 0 where
  pub small : d ≤ 8
  pub light : triangle d (λ a b. nat_abs (held places d a b)) < 2 ^ 62

-- ---- `sizes`
abbrev pub sizes_of : List ℤ → ℕ → ℕ
sizes_of places count = sumℕ (span 1 count) (λ n. nat_abs (at places n))

pub record Sizable (places : List ℤ) (count : ℕ) : Type 0 where
  pub inside : count ≤ 45
  pub light : sizes_of places count < 2 ^ 62

-- ---- `above` and `below`
abbrev pub above_zero : ℤ → ℕ
above_zero (pos n) = n
above_zero (negsuc n) = 0

abbrev pub below_zero : ℤ → ℕ
below_zero (pos n) = 0
below_zero (negsuc n) = suc n

-- ---- `spared_row` and `spared`: what the even rule spares of the fall and of the rise, b even from `from` on, and a and b even but (0,0)
abbrev pub even_from : ℕ → ℕ → ℕ → ℕ
even_from from b n = cond (leb from b && eqb (b % 2) 0) n 0

abbrev pub row_spare_of : List ℤ → ℕ → ℕ → ℕ → Spare
row_spare_of places first from n = record {
  fall = sumℕ (0 ⋯ n) (λ b. even_from from b (above_zero (row_of places first b)));
  rise = sumℕ (0 ⋯ n) (λ b. even_from from b (below_zero (row_of places first b)));
}

pub record RowSparable (places : List ℤ) (first from n : ℕ) : Type 0 where
  pub even : from % 2 ≡ 0
  pub short : n ≤ 8
  pub inside : first + n < 45
  pub light : sumℕ (0 ⋯ n) (λ b. nat_abs (row_of places first b)) < 2 ^ 62

abbrev pub spares : ℕ → ℕ → ℕ → ℕ
spares a b n = cond (leb 1 (a + b) && (eqb (a % 2) 0 && eqb (b % 2) 0)) n 0

abbrev pub spare_of : List ℤ → ℕ → Spare
spare_of places d = record {
  fall = triangle d (λ a b. spares a b (above_zero (held places d a b)));
  rise = triangle d (λ a b. spares a b (below_zero (held places d a b)));
}

-- in a mode
abbrev pub spare_in : ℕ → List ℤ → ℕ → Spare
spare_in zero places d = spare_of places d
spare_in (suc m) places d = record { fall = 0; rise = 0 }
