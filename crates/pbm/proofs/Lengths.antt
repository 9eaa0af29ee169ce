-- How long the text of a picture is: as long as 7 asks.
use mathlib.Core.Path.{◌≡◌, refl, sym, ◌∙◌, ap, ap₂}
use mathlib.Core.Bool.{true, false, ◌||◌, or-true}
use mathlib.Core.List.{List, [], ◌∷◌, ◌++◌, flat_map, Memᴰ, append-nil}
use Prim.Native.Nat.{ℕ, zero, suc, ◌+◌, ◌*◌, ◌-◌, ◌/◌, ◌%◌, ◌^◌, ◌<◌}
use native.Mathlib.Nat as Nat
use native.Mathlib.Numerals.{add-one}
use native.Mathlib.Decide.{ℕ_discrete}
use native.Mathlib.Omega.{arith}
use lib.Dec.{eqb}
use lib.ListN.{length, length-append}
use lib.Pow.{pow_pos}
use borrow.Author.Tests.{eq-eqb, ne_eqb}
use Rattle.algebra.specs.Sum.{span}
use Rattle.algebra.proofs.Run.{length_span, span_none, span_next}
use Rattle.verdicts.proofs.Lists.{flat_map-++}
use Rattle.page.specs.ListingText.{decimal}
use Rattle.pbm.specs.Writing.{head_text, digit, ends_line, digit_text, row_text, rows_text, picture_text, text_length}
use Rattle.pbm.specs.Facts.{TextLong}

-- ---- lists of one length, one for each member, one after the other
module _ {X Y : Type 0} where
  pub flat_map_long : (f : X → List Y) (n : ℕ) (xs : List X) → ((x : X) → Memᴰ x xs → length (f x) ≡ n) → length (flat_map f xs) ≡ length xs * n
  unfolding flat_map
  flat_map_long f n [] h = sym (Nat.zero-mul n)
  flat_map_long f n (x ∷ xs) h =
      length-append (f x) (flat_map f xs) ∙ ap₂ ◌+◌ (h x (Memᴰ.head refl)) (flat_map_long f n xs (λ y m. h y (Memᴰ.tail m)))
      ∙ Nat.add_comm n (length xs * n) ∙ sym (Nat.suc-mul (length xs) n)

-- ---- a list for each number below n: none at 0, and one more at each step
module _ {Y : Type 0} (f : ℕ → List Y) where
  pub below_none : flat_map f (span 0 0) ≡ []
  unfolding flat_map
  below_none = ap (flat_map f) (span_none 0 0 (Nat.le_refl 0))

  pub below_next : (n : ℕ) → flat_map f (span 0 (suc n)) ≡ flat_map f (span 0 n) ++ f n
  unfolding flat_map
  below_next n =
      ap (λ m. flat_map f (span 0 m)) (sym (add-one n)) ∙ ap (flat_map f) (span_next 0 n (omega arith)) ∙ flat_map-++ f (span 0 n) (n ∷ [])
      ∙ ap (λ l. flat_map f (span 0 n) ++ l) (append-nil (f n))

-- ---- where a line of a row ends: after 70, 140, .. digits, and after the last
pub ends_full : (k p : ℕ) → (p + 1) % 70 ≡ 0 → ends_line (2 ^ k) p ≡ true
ends_full k p h = ap (λ b. b || eqb (p + 1) (2 ^ k)) (eq-eqb ((p + 1) % 70) 0 h)

pub ends_last : (k p : ℕ) → p + 1 ≡ 2 ^ k → ends_line (2 ^ k) p ≡ true
ends_last k p h = simp (eq-eqb (p + 1) (2 ^ k) h, or-true)

pub ends_not : (k p : ℕ) → ((p + 1) % 70 ≡ 0 → ⊥) → (p + 1 ≡ 2 ^ k → ⊥) → ends_line (2 ^ k) p ≡ false
ends_not k p h i = ap₂ ◌||◌ (ne_eqb ((p + 1) % 70) 0 h) (ne_eqb (p + 1) (2 ^ k) i)

-- ---- a row: digits, and an LF for each of its lines
module _ (k : ℕ) (raster : List ℕ) (q : ℕ) where
  -- a column with an LF after it, and one with none
  pub column_ended : (p : ℕ) → ends_line (2 ^ k) p ≡ true → digit_text (2 ^ k) raster q p ≡ digit (2 ^ k) raster q p ∷ 10 ∷ []
  column_ended p e = rw e

  pub column_plain : (p : ℕ) → ends_line (2 ^ k) p ≡ false → digit_text (2 ^ k) raster q p ≡ digit (2 ^ k) raster q p ∷ []
  column_plain p e = rw e

  -- before the last column an LF follows every 70 digits
  column_long : (p : ℕ) → p + 1 < 2 ^ k → length (digit_text (2 ^ k) raster q p) + p / 70 ≡ 1 + (p + 1) / 70
  column_long p h = elim (ℕ_discrete ((p + 1) % 70) 0) [
    | yes e ↦ omega (arith, ap length (column_ended p (ends_full k p e)))
    | no n ↦ omega (arith, ap length (column_plain p (ends_not k p n (λ e. omega arith))))
  ]

  below_long : (m : ℕ) → m < 2 ^ k → length (flat_map (digit_text (2 ^ k) raster q) (span 0 m)) ≡ m + m / 70
  below_long zero h = ap length (below_none (digit_text (2 ^ k) raster q))
  below_long (suc m) h =
      let one = column_long m (omega arith) in
      let others = below_long m (omega arith) in
      ap length (below_next (digit_text (2 ^ k) raster q) m) ∙ length-append (flat_map (digit_text (2 ^ k) raster q) (span 0 m)) (digit_text (2 ^ k) raster q m) ∙ omega arith

  -- the last column has one too
  pub row_parts : row_text (2 ^ k) raster q ≡ flat_map (digit_text (2 ^ k) raster q) (span 0 (2 ^ k - 1)) ++ (digit (2 ^ k) raster q (2 ^ k - 1) ∷ 10 ∷ [])
  unfolding row_text
  row_parts =
      let some = pow_pos k in
      let e : 2 ^ k ≡ suc (2 ^ k - 1) = omega arith in
      ap (λ n. flat_map (digit_text (2 ^ k) raster q) (span 0 n)) e ∙ below_next (digit_text (2 ^ k) raster q) (2 ^ k - 1)
      ∙ ap (λ l. flat_map (digit_text (2 ^ k) raster q) (span 0 (2 ^ k - 1)) ++ l) (column_ended (2 ^ k - 1) (ends_last k (2 ^ k - 1) (omega arith)))

  pub row_long : length (row_text (2 ^ k) raster q) ≡ 2 ^ k + (2 ^ k + 69) / 70
  row_long =
      let some = pow_pos k in
      let before = below_long (2 ^ k - 1) (omega arith) in
      ap length row_parts ∙ length-append (flat_map (digit_text (2 ^ k) raster q) (span 0 (2 ^ k - 1))) _ ∙ omega arith

-- ---- all rows, the head, and the text
pub rows_long : (k : ℕ) (raster : List ℕ) → length (rows_text (2 ^ k) raster) ≡ 2 ^ k * (2 ^ k + (2 ^ k + 69) / 70)
unfolding rows_text
rows_long k raster =
    flat_map_long _ (2 ^ k + (2 ^ k + 69) / 70) (span 0 (2 ^ k)) (λ n m. row_long k raster _)
    ∙ ap (λ n. n * (2 ^ k + (2 ^ k + 69) / 70)) (length_span (2 ^ k))

pub head_long : (k : ℕ) → length (head_text (2 ^ k)) ≡ 5 + 2 * length (decimal (2 ^ k))
unfolding head_text
head_long k = simp length-append (omega arith)

pub text_long : TextLong
unfolding picture_text text_length
text_long k raster = length-append (head_text (2 ^ k)) (rows_text (2 ^ k) raster) ∙ ap₂ ◌+◌ (head_long k) (rows_long k raster)
