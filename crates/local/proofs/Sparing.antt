-- What the even rule spares: how far a number is above and below 0, the even places of a row, and the rows of a table.
use mathlib.Core.Path.{◌≡◌, refl, sym, ◌∙◌, ap}
use mathlib.Core.List.{List}
use mathlib.Core.Bool.{Bool, true, false, cond, ◌&&◌}
use Prim.Native.Nat.{ℕ, suc, ◌+◌, ◌-◌, ◌*◌, ◌%◌, ◌≤◌, ◌<◌}
use native.Mathlib.Nat as Nat
use native.Mathlib.Omega.{arith}
use native.Mathlib.Decide.{dec_le}
use borrow.Author.Tests.{leb-true, le-leb, lt-leb, eq-eqb, ne_eqb}
use lib.Dec.{leb, eqb}
use lib.IntN.{ℤ, pos, negsuc, nat_abs}
use Rattle.algebra.specs.Sum.{sumℕ, ◌⋯◌}
use Rattle.algebra.specs.Triangle.{triangle, row_start}
use Rattle.algebra.proofs.Sum.{sumℕ_mono, sumℕ_cong, sumℕ_zero, sumℕ_member}
use Rattle.algebra.proofs.Run.{member_⋯}
use Rattle.algebra.proofs.Places.{row_start_next, place_all, places_45}
use Rattle.algebra.proofs.Choice.{same_test}
use Rattle.tables.specs.Table.{row_of, held}
use Rattle.local.specs.declared.Spare.{Spare}
use Rattle.local.specs.Range.{above_zero, below_zero, even_from, row_spare_of, RowSparable, spares, Light}
use Rattle.local.proofs.Sums.{EvenOnly}

-- ---- above and below 0, no more than the size
pub above_le : (g : ℤ) → above_zero g ≤ nat_abs g
above_le (pos n) = Nat.le_refl n
above_le (negsuc n) = omega arith

pub below_le : (g : ℤ) → below_zero g ≤ nat_abs g
below_le (pos n) = omega arith
below_le (negsuc n) = Nat.le_refl (suc n)

-- ---- where a test fails nothing is taken, and never more than there is
none : (c : Bool) (n : ℕ) → cond (c && false) n 0 ≡ 0
none true n = refl
none false n = refl

at_most : (c : Bool) {n w : ℕ} → n ≤ w → cond c n 0 ≤ w
at_most true l = l
at_most false l = omega arith

-- ---- the even places of a row, for h a number's part above or below 0
abbrev pub evens : (ℤ → ℕ) → (ℕ → ℤ) → ℕ → ℕ → ℕ
evens h row from b = even_from from b (h (row b))

module _ (h : ℤ → ℕ) (row : ℕ → ℤ) (from : ℕ) where
  pub evens_before : (b : ℕ) → b < from → evens h row from b ≡ 0
  evens_before b l = rw (lt-leb from b l)

  pub evens_at : (b : ℕ) → from ≤ b → b % 2 ≡ 0 → h (row b) ≡ evens h row from b
  evens_at b l e = rw (le-leb from b l, eq-eqb (b % 2) 0 e)

  pub evens_only : EvenOnly (evens h row from)
  evens_only b o = rw (ne_eqb (b % 2) 0 (omega arith)) (none (leb from b) (h (row b)))

  -- together they are no more than the sizes of the row
  pub evens_le : ((g : ℤ) → h g ≤ nat_abs g) → (n : ℕ) → sumℕ (0 ⋯ n) (evens h row from) ≤ sumℕ (0 ⋯ n) (λ b. nat_abs (row b))
  evens_le l n = sumℕ_mono (0 ⋯ n) (λ b m. at_most (leb from b && eqb (b % 2) 0) (l (row b)))

-- ---- the rows of a table
abbrev pub rows : (ℤ → ℕ) → List ℤ → ℕ → ℕ → ℕ
rows h places d a = sumℕ (0 ⋯ (d - a)) (λ b. spares a b (h (held places d a b)))

-- in an even row every even place is spared, but in the row 0 those from 2 on
module _ (a b n : ℕ) {from : ℕ} (f : from ≡ 2 - a) (v : a % 2 ≡ 0) where
  from_is : b % 2 ≡ 0 → leb from b ≡ leb 1 (a + b)
  from_is e = same_test (leb from b) (leb 1 (a + b)) (λ t. le-leb 1 (a + b) (let l = leb-true from b t in omega arith)) (λ t. le-leb from b (let l = leb-true 1 (a + b) t in omega arith))

  spares_is : even_from from b n ≡ spares a b n
  spares_is = rw (eq-eqb (a % 2) 0 v) (elim (dec_le (b % 2) 0) [
    | yes l ↦ let e : b % 2 ≡ 0 = omega arith in rw (from_is e)
    | no l ↦ rw (ne_eqb (b % 2) 0 (omega arith)) (none (leb from b) n ∙ sym (none (leb 1 (a + b)) n))
  ])

module _ (h : ℤ → ℕ) (places : List ℤ) (d : ℕ) where
  rows_at : (a : ℕ) {first from n : ℕ} → first ≡ row_start d a → from ≡ 2 - a → n ≡ d - a → a % 2 ≡ 0 → sumℕ (0 ⋯ n) (evens h (row_of places first) from) ≡ rows h places d a
  rows_at a e f g v = rw (e, g) (sumℕ_cong (0 ⋯ (d - a)) (λ b m. spares_is a b (h (held places d a b)) f v))

  -- an odd row spares nothing
  pub rows_only : EvenOnly (rows h places d)
  rows_only a o = sumℕ_zero (0 ⋯ (d - a))
      (λ b m. ap (λ t. cond (leb 1 (a + b) && (t && eqb (b % 2) 0)) (h (held places d a b)) 0) (ne_eqb (a % 2) 0 (omega arith)) ∙ none (leb 1 (a + b)) (h (held places d a b)))

  -- together they spare no more than the sizes of the table
  pub rows_le : ((g : ℤ) → h g ≤ nat_abs g) → sumℕ (0 ⋯ d) (rows h places d) ≤ triangle d (λ a b. nat_abs (held places d a b))
  rows_le l = sumℕ_mono (0 ⋯ d) (λ a m. sumℕ_mono (0 ⋯ (d - a)) (λ b k. at_most (leb 1 (a + b) && (eqb (a % 2) 0 && eqb (b % 2) 0)) (l (held places d a b))))

-- what a row's two sums are, by the table
pub row_spared : (places : List ℤ) (d a : ℕ) {first from n : ℕ} {r : Spare} → r ≡ row_spare_of places first from n → first ≡ row_start d a → from ≡ 2 - a → n ≡ d - a → a % 2 ≡ 0 →
    (r.fall ≡ rows above_zero places d a) × (r.rise ≡ rows below_zero places d a)
row_spared places d a p e f g v = (ap (λ (r : Spare). r.fall) p ∙ rows_at above_zero places d a e f g v, ap (λ (r : Spare). r.rise) p ∙ rows_at below_zero places d a e f g v)

-- a row of a light table may be added up
pub light_row : {d : ℕ} {places : List ℤ} → Light d places → (a : ℕ) {first from n : ℕ} → first ≡ row_start d a → n ≡ d - a → a ≤ d → from % 2 ≡ 0 → RowSparable places first from n
light_row {d} {places} l a e g h v =
    let s = l.small in
    rw (e, g) (record {
      even = v;
      short = omega arith;
      inside = let k = place_all d a (d - a) (omega arith) in let p = places_45 d s in omega arith;
      light = Nat.lt_of_le_of_lt (sumℕ_member (λ a. sumℕ (0 ⋯ (d - a)) (λ b. nat_abs (held places d a b))) (member_⋯ 0 d a (omega arith) h)) l.light;
    })

-- where the row after the next one begins
pub row_start_two : (d a : ℕ) → a + 2 ≤ d → row_start d (a + 2) ≡ row_start d a + (2 * (d - a) + 1)
row_start_two d a h =
    let p = row_start_next d a in let q = row_start_next d (a + 1) in let e : row_start d (a + 2) ≡ row_start d (a + 1 + 1) = ap (row_start d) (omega arith) in omega arith
