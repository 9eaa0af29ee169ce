-- The four parts of a cell: their columns and rows, sums over them, and lists joined from theirs.
use mathlib.Core.Path.{◌≡◌, ◌∙◌, ap}
use mathlib.Core.Bool.{Bool, true, false, ◌||◌}
use mathlib.Core.List.{List, map, map-append, Memᴰ}
use Prim.Native.Nat.{ℕ, suc, ◌+◌, ◌*◌, ◌/◌, ◌^◌, ◌≤◌, ◌<◌}
use native.Mathlib.Nat as Nat
use native.Mathlib.Numerals.{add-one}
use native.Mathlib.Decide.{ℕ_discrete, dec_le}
use native.Mathlib.Omega.{arith}
use lib.Dec.{eqb}
use lib.ListN.{length, length-append}
use lib.Pow.{shr-shr, pow_pos}
use borrow.Author.Tests.{eq-eqb, ne_eqb}
use Rattle.verdicts.specs.Walking.{in_turn, those}
use Rattle.verdicts.specs.Operational.{four, largest_four}
use Rattle.verdicts.proofs.Lists.{++_member, those-++}

-- a property of each of the four
record Parts (P : ℕ → ℕ → Type 0) (p q : ℕ) : Type 0 where
  lower_left : P (2 * p) (2 * q)
  lower_right : P (2 * p + 1) (2 * q)
  upper_left : P (2 * p) (2 * q + 1)
  upper_right : P (2 * p + 1) (2 * q + 1)

-- of each part the cell is the half, in column and row
parts : (P : ℕ → ℕ → Type 0) (p q : ℕ) → ((a b : ℕ) → a / 2 ≡ p → b / 2 ≡ q → P a b) → Parts P p q
parts P p q h = record {
  lower_left = h (2 * p) (2 * q) (omega arith) (omega arith);
  lower_right = h (2 * p + 1) (2 * q) (omega arith) (omega arith);
  upper_left = h (2 * p) (2 * q + 1) (omega arith) (omega arith);
  upper_right = h (2 * p + 1) (2 * q + 1) (omega arith) (omega arith);
}

-- ---- columns and rows
-- the cell that encloses a part is one more level up
pub half_of : (z n : ℕ) → z / 2 ^ n / 2 ≡ z / 2 ^ suc n
half_of z n = shr-shr z n 1 ∙ ap (λ m. z / 2 ^ m) (add-one n)

-- a column or a row under the cell of level 0 is one of the grid's
pub below_side : (x l : ℕ) → x / 2 ^ l ≡ 0 → x < 2 ^ l
below_side x l e = let s : x / 2 ^ l < 1 = omega arith in omega (arith, (Nat.div-lt_iff_lt-mul {k = 2 ^ l} {x = x} {y = 1} (pow_pos l)).0 s)

-- a number is 2a, or 2a + 1, or neither; its half is a in the first two cases
pub data Halves (u a : ℕ) : Type 0 where
  even : eqb u (2 * a) ≡ true → eqb u (2 * a + 1) ≡ false → eqb (u / 2) a ≡ true → Halves u a
  odd : eqb u (2 * a) ≡ false → eqb u (2 * a + 1) ≡ true → eqb (u / 2) a ≡ true → Halves u a
  neither : eqb u (2 * a) ≡ false → eqb u (2 * a + 1) ≡ false → eqb (u / 2) a ≡ false → Halves u a

pub halves : (u a : ℕ) → Halves u a
halves u a = elim (ℕ_discrete u (2 * a)) [
  | yes e ↦ even (eq-eqb u (2 * a) e) (ne_eqb u (2 * a + 1) (λ f. omega arith)) (eq-eqb (u / 2) a (omega arith))
  | no n ↦ elim (ℕ_discrete u (2 * a + 1)) [
    | yes e ↦ odd (ne_eqb u (2 * a) n) (eq-eqb u (2 * a + 1) e) (eq-eqb (u / 2) a (omega arith))
    | no m ↦ neither (ne_eqb u (2 * a) n) (ne_eqb u (2 * a + 1) m) (ne_eqb (u / 2) a (λ e. omega arith))
  ]
]

-- so one of two parts lies over a column exactly where the cell does
half_test : (u p : ℕ) → (eqb u (2 * p) || eqb u (2 * p + 1)) ≡ eqb (u / 2) p
half_test u p = elim (halves u p) [
  | even x y z ↦ simp (x, y, z)
  | odd x y z ↦ simp (x, y, z)
  | neither x y z ↦ simp (x, y, z)
]

pub quarter_test : (x n p : ℕ) → (eqb (x / 2 ^ n) (2 * p) || eqb (x / 2 ^ n) (2 * p + 1)) ≡ eqb (x / 2 ^ suc n) p
quarter_test x n p = half_test (x / 2 ^ n) p ∙ ap (λ m. eqb m p) (half_of x n)

-- ---- the sum over the four
pub four_cong : (f g : ℕ → ℕ → ℕ) (p q : ℕ) → ((a b : ℕ) → a / 2 ≡ p → b / 2 ≡ q → f a b ≡ g a b) → four f p q ≡ four g p q
four_cong f g p q h = let e = parts (λ a b. f a b ≡ g a b) p q h in omega arith

pub four_bound : (g : ℕ → ℕ → ℕ) (p q m : ℕ) → ((a b : ℕ) → a / 2 ≡ p → b / 2 ≡ q → g a b ≤ m) → four g p q ≤ 4 * m
four_bound g p q m h = let e = parts (λ a b. g a b ≤ m) p q h in omega arith

-- ---- the largest of the four: each is at most it, and it is at most what each is at most
pub part_at_most : (g : ℕ → ℕ → ℕ) (p q a b : ℕ) → a / 2 ≡ p → b / 2 ≡ q → g a b ≤ largest_four g p q
part_at_most g p q a b e f = elim (dec_le a (2 * p)) [
  | yes i ↦ let x : a ≡ 2 * p = omega arith in rw x (rows (2 * p) (omega arith) (omega arith))
  | no i ↦ let x : a ≡ 2 * p + 1 = omega arith in rw x (rows (2 * p + 1) (omega arith) (omega arith))
]
  where
    rows : (x : ℕ) → g x (2 * q) ≤ largest_four g p q → g x (2 * q + 1) ≤ largest_four g p q → g x b ≤ largest_four g p q
    rows x l m = elim (dec_le b (2 * q)) [
      | yes j ↦ let y : b ≡ 2 * q = omega arith in rw y l
      | no j ↦ let y : b ≡ 2 * q + 1 = omega arith in rw y m
    ]

pub parts_at_most : (g : ℕ → ℕ → ℕ) (p q m : ℕ) → ((a b : ℕ) → a / 2 ≡ p → b / 2 ≡ q → g a b ≤ m) → largest_four g p q ≤ m
parts_at_most g p q m h = let e = parts (λ a b. g a b ≤ m) p q h in omega arith

-- ---- the lists of the four, joined
pub length_in_turn : {X : Type 0} (g : ℕ → ℕ → List X) (p q : ℕ) → length (in_turn g p q) ≡ four (λ a b. length (g a b)) p q
length_in_turn g p q = simp length-append (omega arith)

pub in_turn_cong : {X : Type 0} (f g : ℕ → ℕ → List X) (p q : ℕ) → ((a b : ℕ) → a / 2 ≡ p → b / 2 ≡ q → f a b ≡ g a b)
    → in_turn f p q ≡ in_turn g p q
in_turn_cong f g p q h = let e = parts (λ a b. f a b ≡ g a b) p q h in cc

module _ {X : Type 0} (g : ℕ → ℕ → List X) (p q : ℕ) where
  -- what every member of the four lists has, every member of the joined list has
  pub in_turn_member : (P : X → Type 0) → ((a b : ℕ) → a / 2 ≡ p → b / 2 ≡ q → (x : X) → Memᴰ x (g a b) → P x)
      → (x : X) → Memᴰ x (in_turn g p q) → P x
  in_turn_member P h =
      let of : (x : X) (a b : ℕ) → Memᴰ x (g a b) → a / 2 ≡ p → b / 2 ≡ q → P x = λ x a b m e f. h a b e f x m in
      ++_member P _ _ (λ x m. of x _ _ m (omega arith) (omega arith))
      (++_member P _ _ (λ x m. of x _ _ m (omega arith) (omega arith))
      (++_member P _ _ (λ x m. of x _ _ m (omega arith) (omega arith)) (λ x m. of x _ _ m (omega arith) (omega arith))))

  pub those_in_turn : (has : X → Bool) → those has (in_turn g p q) ≡ in_turn (λ a b. those has (g a b)) p q
  those_in_turn has = simp those-++

  pub map_in_turn : {Y : Type 0} (f : X → Y) → map f (in_turn g p q) ≡ in_turn (λ a b. map f (g a b)) p q
  map_in_turn f = simp map-append
