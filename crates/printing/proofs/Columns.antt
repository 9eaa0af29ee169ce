-- What is written of a column, its digit and an LF where a line ends after it; and that rows are equally long.
use mathlib.Core.Path.{◌≡◌, refl, sym, ◌∙◌, ap, ap₂, subst}
use mathlib.Core.Bool.{true, false, ◌||◌}
use mathlib.Core.List.{List, [], ◌∷◌, flat_map}
use Prim.Native.Nat.{ℕ, ◌+◌, ◌%◌, ◌≤◌}
use lib.Dec.{eqb}
use lib.ListN.{length, length-append}
use borrow.Author.Tests.{eq-eqb, ne_eqb}
use Rattle.algebra.specs.Sum.{span}
use Rattle.pbm.specs.Writing.{bit, ends_line, row_text}
use Rattle.writing.specs.Steps.{Put}
use Rattle.writing.proofs.Puts.{put_two}
use Rattle.printing.specs.Steps.{digit_bytes}

-- ---- where a line ends: after 70, 140, .. digits, and else where the row does
module _ (side p : ℕ) where
  pub ends_full : (p + 1) % 70 ≡ 0 → ends_line side p ≡ true
  ends_full h = ap (λ b. b || eqb (p + 1) side) (eq-eqb ((p + 1) % 70) 0 h)

  pub ends_else : ((p + 1) % 70 ≡ 0 → ⊥) → ends_line side p ≡ eqb (p + 1) side
  ends_else h = ap (λ b. b || eqb (p + 1) side) (ne_eqb ((p + 1) % 70) 0 h)

-- ---- a column
module _ (side byte p : ℕ) where
  ended : ends_line side p ≡ true → digit_bytes side byte p ≡ (48 + bit byte) ∷ 10 ∷ []
  ended h = rw h

  plain : ends_line side p ≡ false → digit_bytes side byte p ≡ (48 + bit byte) ∷ []
  plain h = rw h

  pub ended_length : ends_line side p ≡ true → length (digit_bytes side byte p) ≡ 2
  ended_length h = ap length (ended h)

  -- d is the digit
  module _ {d : ℕ} (e : d ≡ 48 + bit byte) {at end : ℕ} {old place : List ℕ} (q : Put at (d ∷ []) old place end) where
    digit_put : Put at ((48 + bit byte) ∷ []) old place end
    digit_put = subst (λ b. Put at (b ∷ []) old place end) e q

    pub put_ended : {now : List ℕ} {r : ℕ} → ends_line side p ≡ true → Put end (10 ∷ []) place now r → Put at (digit_bytes side byte p) old now r
    put_ended {now} {r} h lf = subst (λ l. Put at l old now r) (sym (ended h)) (put_two digit_put lf)

    pub put_plain : ends_line side p ≡ false → Put at (digit_bytes side byte p) old place end
    put_plain h = subst (λ l. Put at l old place end) (sym (plain h)) digit_put

-- ---- lists of the same lengths come to the same length
same_lengths : (f g : ℕ → List ℕ) (xs : List ℕ) → ((x : ℕ) → length (f x) ≡ length (g x)) → length (flat_map f xs) ≡ length (flat_map g xs)
unfolding flat_map
same_lengths f g [] h = refl
same_lengths f g (x ∷ xs) h = length-append (f x) (flat_map f xs) ∙ ap₂ ◌+◌ (h x) (same_lengths f g xs h) ∙ sym (length-append (g x) (flat_map g xs))

-- so room for a row is room for any other
pub row_room : (side : ℕ) (raster : List ℕ) (q other end : ℕ) {room : ℕ} → end + length (row_text side raster other) ≤ room → end + length (row_text side raster q) ≤ room
unfolding row_text
row_room side raster q other end h =
    let same : length (row_text side raster q) ≡ length (row_text side raster other) = same_lengths _ _ (span 0 side) (λ p. refl) in
    rw same h
