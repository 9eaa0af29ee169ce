-- The digits of a text: the bits that they write, and those of the rows of a picture, of which the last digit stands before the last LF.
use mathlib.Core.Path.{◌≡◌, refl, sym, ◌∙◌, ap}
use mathlib.Core.Bool.{Bool, true, false, ◌||◌, cond}
use mathlib.Core.List.{List, [], ◌∷◌, ◌++◌, map, flat_map, map-append, append_assoc, Memᴰ}
use Prim.Native.Nat.{ℕ, suc, ◌+◌, ◌*◌, ◌-◌, ◌^◌}
use native.Mathlib.Omega.{arith}
use lib.Dec.{eqb}
use lib.ListN.{get_or}
use lib.Pow.{pow_pos}
use Rattle.algebra.specs.Sum.{span}
use Rattle.algebra.proofs.Choice.{and_left, and_right, and_both}
use Rattle.verdicts.specs.Walking.{those}
use Rattle.verdicts.proofs.Lists.{those-++, flat_map_cong, flat_map_one}
use Rattle.pbm.specs.Writing.{bit, digit, ends_line, digit_text, row_text, rows_text}
use Rattle.pbm.specs.Reading.{each, is_white, is_bit, bits_of}
use Rattle.pbm.proofs.Lengths.{below_next, row_parts}
use Rattle.pbm.proofs.Masks.{table}

-- ---- what every byte of joined lists has
module _ {X : Type 0} (has : X → Bool) where
  pub each-++ : (xs ys : List X) → each has xs ≡ true → each has ys ≡ true → each has (xs ++ ys) ≡ true
  unfolding each
  each-++ [] ys h i = i
  each-++ (x ∷ xs) ys h i = and_both (has x) _ (and_left (has x) _ h) (each-++ xs ys (and_right (has x) _ h) i)

  pub each_left : (xs ys : List X) → each has (xs ++ ys) ≡ true → each has xs ≡ true
  unfolding each
  each_left [] ys h = refl
  each_left (x ∷ xs) ys h = and_both (has x) _ (and_left (has x) _ h) (each_left xs ys (and_right (has x) _ h))

  pub each_flat_map : {Y : Type 0} (f : Y → List X) (ys : List Y) → ((y : Y) → Memᴰ y ys → each has (f y) ≡ true) → each has (flat_map f ys) ≡ true
  unfolding each flat_map
  each_flat_map f [] h = refl
  each_flat_map f (y ∷ ys) h = each-++ (f y) (flat_map f ys) (h y (Memᴰ.head refl)) (each_flat_map f ys (λ z m. h z (Memᴰ.tail m)))

-- ---- the bits that bytes write
pub bits_++ : (xs ys : List ℕ) → bits_of (xs ++ ys) ≡ bits_of xs ++ bits_of ys
bits_++ xs ys = ap (map (λ b. b - 48)) (those-++ is_bit xs ys) ∙ map-append (λ b. b - 48) (those is_bit xs) (those is_bit ys)

pub bits_flat_map : {X : Type 0} (f : X → List ℕ) (xs : List X) → bits_of (flat_map f xs) ≡ flat_map (λ x. bits_of (f x)) xs
unfolding flat_map those
bits_flat_map f [] = refl
bits_flat_map f (x ∷ xs) = bits_++ (f x) (flat_map f xs) ∙ ap (λ l. bits_of (f x) ++ l) (bits_flat_map f xs)

-- an LF at the end writes none
pub bits_LF : (xs : List ℕ) (b : ℕ) → bits_of (xs ++ (b ∷ 10 ∷ [])) ≡ bits_of (xs ++ (b ∷ []))
unfolding those
bits_LF xs b = bits_++ xs (b ∷ 10 ∷ []) ∙ sym (bits_++ xs (b ∷ []))

-- ---- a column is a digit and an LF or none: one bit, and nothing but digits and white space
column_bits : (coloured ended : Bool) → bits_of ((48 + cond coloured 1 0) ∷ cond ended (10 ∷ []) []) ≡ cond coloured 1 0 ∷ []
unfolding those
column_bits true true = refl
column_bits true false = refl
column_bits false true = refl
column_bits false false = refl

column_alone : (coloured ended : Bool) → each (λ b. is_white b || is_bit b) ((48 + cond coloured 1 0) ∷ cond ended (10 ∷ []) []) ≡ true
unfolding each
column_alone true true = refl
column_alone true false = refl
column_alone false true = refl
column_alone false false = refl

module _ (k : ℕ) (raster : List ℕ) where
  -- ---- a row, and the rows
  row_bits : (q : ℕ) → bits_of (row_text (2 ^ k) raster q) ≡ map (λ p. bit (get_or raster (q * 2 ^ k + p) 0)) (span 0 (2 ^ k))
  unfolding row_text
  row_bits q = bits_flat_map (digit_text (2 ^ k) raster q) (span 0 (2 ^ k)) ∙ flat_map_one (span 0 (2 ^ k)) (λ p m. column_bits (eqb (get_or raster (q * 2 ^ k + p) 0) 1) (ends_line (2 ^ k) p))

  pub rows_bits : bits_of (rows_text (2 ^ k) raster) ≡ table (2 ^ k) (2 ^ k) (λ n p. bit (get_or raster ((2 ^ k - 1 - n) * 2 ^ k + p) 0))
  unfolding rows_text table
  rows_bits = bits_flat_map _ (span 0 (2 ^ k)) ∙ flat_map_cong (span 0 (2 ^ k)) (λ n m. row_bits _)

  row_alone : (q : ℕ) → each (λ b. is_white b || is_bit b) (row_text (2 ^ k) raster q) ≡ true
  unfolding row_text
  row_alone q = each_flat_map (λ b. is_white b || is_bit b) (digit_text (2 ^ k) raster q) (span 0 (2 ^ k)) (λ p m. column_alone (eqb (get_or raster (q * 2 ^ k + p) 0) 1) (ends_line (2 ^ k) p))

  pub rows_alone : each (λ b. is_white b || is_bit b) (rows_text (2 ^ k) raster) ≡ true
  unfolding rows_text
  rows_alone = each_flat_map (λ b. is_white b || is_bit b) _ (span 0 (2 ^ k)) (λ n m. row_alone _)

-- ---- the last digit is that of the last column in the bottom row; what stands before it is the rows above, and the columns before
pub before_last : ℕ → List ℕ → List ℕ
before_last k raster = flat_map (λ n. row_text (2 ^ k) raster (2 ^ k - 1 - n)) (span 0 (2 ^ k - 1)) ++ flat_map (digit_text (2 ^ k) raster 0) (span 0 (2 ^ k - 1))

pub rows_end : (k : ℕ) (raster : List ℕ) → rows_text (2 ^ k) raster ≡ before_last k raster ++ (digit (2 ^ k) raster 0 (2 ^ k - 1) ∷ 10 ∷ [])
unfolding rows_text before_last
rows_end k raster =
    let some = pow_pos k in
    let e : 2 ^ k ≡ suc (2 ^ k - 1) = omega arith in
    let bottom : 2 ^ k - 1 - (2 ^ k - 1) ≡ 0 = omega arith in
    let above = flat_map (λ n. row_text (2 ^ k) raster (2 ^ k - 1 - n)) (span 0 (2 ^ k - 1)) in
    ap (λ m. flat_map (λ n. row_text (2 ^ k) raster (2 ^ k - 1 - n)) (span 0 m)) e ∙ below_next (λ n. row_text (2 ^ k) raster (2 ^ k - 1 - n)) (2 ^ k - 1)
    ∙ ap (λ l. above ++ l) (ap (row_text (2 ^ k) raster) bottom ∙ row_parts k raster 0)
    ∙ sym (append_assoc above (flat_map (digit_text (2 ^ k) raster 0) (span 0 (2 ^ k - 1))) _)

-- it is a digit
pub digit_bit : (k : ℕ) (raster : List ℕ) (q p : ℕ) → is_bit (digit (2 ^ k) raster q p) ≡ true
digit_bit k raster q p = by (eqb (get_or raster (q * 2 ^ k + p) 0) 1)
  where
    by : (coloured : Bool) → is_bit (48 + cond coloured 1 0) ≡ true
    by true = refl
    by false = refl
