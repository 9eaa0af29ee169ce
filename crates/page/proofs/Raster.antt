-- Demand 3 carried to the raster: enclosing cells, the sign of white cells, coloured cells on the curve. And no call is refused by row 9.
use mathlib.Core.Path.{◌≡◌, refl, ◌∙◌, ap}
use mathlib.Core.Bool.{Bool, true, false, false≢true, cond}
use mathlib.Core.List.{List, [], ◌∷◌}
use Prim.Native.Nat.{ℕ, ◌+◌, ◌*◌, ◌-◌, ◌/◌, ◌^◌, ◌≤◌, ◌<◌}
use native.Mathlib.Nat as Nat
use native.Mathlib.Numerals.{add-one}
use native.Mathlib.Omega.{arith}
use borrow.Author.Tests.{ltb-false}
use lib.IntN.{ℤ, pos, neg_ℤ, ◌+ℤ◌, ◌-ℤ◌, ◌*ℤ◌, nat_abs}
use lib.Pow.{pow-add, pow_pos}
use lib.Signed.{◌≤ℤ◌}
use Rattle.algebra.proofs.Absolute.{nat_abs_bound, ≤ℤ-nat_abs, -nat_abs-≤ℤ}
use Rattle.algebra.proofs.Order.{≤ℤ_by, ≤ℤ_trans, +ℤ_mono, neg_ℤ_mono, pos_mono}
use Rattle.algebra.proofs.Ring.{ring, ◌⊕◌, ◌⊖◌, ◌⊗◌, ⊝◌, #◌, ◌≐◌}
use Rattle.forms.specs.Bounds.{Mode}
use Rattle.verdicts.specs.declared.Verdict.{Verdict}
use Rattle.verdicts.specs.declared.Verdict.TheVariants.{Above, Below, Open}
use Rattle.verdicts.specs.Judging.{carried_bend}
use Rattle.verdicts.specs.Walking.{is_open, colour}
use Rattle.verdicts.proofs.Judging.{judged_bend}
use Rattle.verdicts.proofs.Reasons.{colour_above, colour_below, coloured_all_open}
use Rattle.verdicts.proofs.Bytes.{raster_byte}
use Rattle.page.specs.Sheet.{Sheet}
use Rattle.page.specs.Scaled.{half_side, InCell}
use Rattle.page.specs.Bounds.{lower, upper, bend, verdict}
use Rattle.page.specs.Refusals.{Given, not_given, given, if_given, Row, table, first}
use Rattle.page.specs.Raster.{Encloses, WhiteSigned, ColouredMeets, RasterSigned, RasterMeets, NeverTooMany, NeverNine}
use Rattle.page.proofs.Rows.{no_row_9}
use Rattle.page.proofs.Demand3.{one_sign, open_meets}

-- ---- along one axis: an interval of half-length H about z + (2p+1) H, and the one m times as long that encloses it, the a-th with m a ≤ p < m (a + 1)
module _ (z M : ℤ) (Q H m p a : ℕ) (low : m * a ≤ p) (high : p + 1 ≤ m * (a + 1)) where
  abbrev offset : ℤ
  offset = M -ℤ pos Q *ℤ (z +ℤ pos ((2 * p + 1) * H))

  abbrev offset_around : ℤ
  offset_around = M -ℤ pos Q *ℤ (z +ℤ pos ((2 * a + 1) * (m * H)))

  -- neither end passes the other's
  left : Q * (2 * (m * a) * H) ≤ Q * (2 * p * H)
  left = Nat.mul-le-mul_left Q (Nat.mul-le-mul_right H (Nat.mul-le-mul_left 2 low))

  right : Q * (2 * (p + 1) * H) ≤ Q * (2 * (m * (a + 1)) * H)
  right = Nat.mul-le-mul_left Q (Nat.mul-le-mul_right H (Nat.mul-le-mul_left 2 high))

  around_low : neg_ℤ (pos (Q * H)) ≤ℤ offset → neg_ℤ (pos (Q * (m * H))) ≤ℤ offset_around
  around_low h = ≤ℤ_by (+ℤ_mono h (pos_mono left)) (ring (M ∷ z ∷ pos Q ∷ pos H ∷ pos m ∷ pos p ∷ pos a ∷ []) (λ M z Q H m p a.
      M ⊖ Q ⊗ (z ⊕ (# 2 ⊗ a ⊕ # 1) ⊗ (m ⊗ H)) ⊖ ⊝ (Q ⊗ (m ⊗ H)) ≐ M ⊖ Q ⊗ (z ⊕ (# 2 ⊗ p ⊕ # 1) ⊗ H) ⊕ Q ⊗ (# 2 ⊗ p ⊗ H) ⊖ (⊝ (Q ⊗ H) ⊕ Q ⊗ (# 2 ⊗ (m ⊗ a) ⊗ H))) tt)

  around_high : offset ≤ℤ pos (Q * H) → offset_around ≤ℤ pos (Q * (m * H))
  around_high h = ≤ℤ_by (+ℤ_mono h (pos_mono right)) (ring (M ∷ z ∷ pos Q ∷ pos H ∷ pos m ∷ pos p ∷ pos a ∷ []) (λ M z Q H m p a.
      Q ⊗ (m ⊗ H) ⊖ (M ⊖ Q ⊗ (z ⊕ (# 2 ⊗ a ⊕ # 1) ⊗ (m ⊗ H)))
      ≐ Q ⊗ H ⊕ Q ⊗ (# 2 ⊗ (m ⊗ (a ⊕ # 1)) ⊗ H) ⊖ (M ⊖ Q ⊗ (z ⊕ (# 2 ⊗ p ⊕ # 1) ⊗ H) ⊕ Q ⊗ (# 2 ⊗ (p ⊕ # 1) ⊗ H))) tt)

  around : nat_abs offset ≤ Q * H → nat_abs offset_around ≤ Q * (m * H)
  around h = nat_abs_bound (around_low (≤ℤ_trans (neg_ℤ_mono (pos_mono h)) (-nat_abs-≤ℤ offset))) (around_high (≤ℤ_trans (≤ℤ-nat_abs offset) (pos_mono h)))

-- ---- a point of a cell lies in each cell that encloses it
pub encloses : Encloses
encloses S l j p q h i M N Q c = record { across = rw longer (axis S.X M p c.across); along = rw longer (axis S.Y N q c.along) }
  where
    longer : half_side S l ≡ 2 ^ (j - l) * half_side S j
    longer = let e : S.s + S.k - l ≡ (j - l) + (S.s + S.k - j) = omega arith in ap (λ n. 2 ^ n) e ∙ pow-add 2 (j - l) (S.s + S.k - j)

    axis : (z M : ℤ) (p : ℕ) → nat_abs (M -ℤ pos Q *ℤ (pos (2 ^ (S.k + 1)) *ℤ z +ℤ pos ((2 * p + 1) * half_side S j))) ≤ Q * half_side S j
        → nat_abs (M -ℤ pos Q *ℤ (pos (2 ^ (S.k + 1)) *ℤ z +ℤ pos ((2 * (p / 2 ^ (j - l)) + 1) * (2 ^ (j - l) * half_side S j)))) ≤ Q * (2 ^ (j - l) * half_side S j)
    axis z M p = around (pos (2 ^ (S.k + 1)) *ℤ z) M Q (half_side S j) (2 ^ (j - l)) p (p / 2 ^ (j - l))
        (Nat.mul-div-le p (2 ^ (j - l))) (rw (add-one p) (Nat.lt-mul-div-succ p (pow_pos (j - l))))

-- ---- by the colour
-- the verdict that clears a white cell is that of a cell which encloses it
pub white_signed : WhiteSigned
white_signed S mode p q M N Q o i =
    let inside : (l : ℕ) → l ≤ S.k → InCell S l (p / 2 ^ (S.k - l)) (q / 2 ^ (S.k - l)) M N Q = λ l h. encloses S l S.k p q h (Nat.le_refl S.k) M N Q i in (
      λ e. let w = colour_above (verdict S mode) S.k p q e in (one_sign S mode w.level _ _ M N Q o (inside w.level w.within) w.lower w.upper w.bend).0 w.judged,
      λ e. let w = colour_below (verdict S mode) S.k p q e in (one_sign S mode w.level _ _ M N Q o (inside w.level w.within) w.lower w.upper w.bend).1 w.judged,
    )

open_is : (w : Verdict) → is_open w ≡ true → (l : ℤ) × (u : ℤ) × (w ≡ Open l u (carried_bend w))
open_is (Above l u b) e = absurd (false≢true e)
open_is (Below l u b) e = absurd (false≢true e)
open_is (Open l u b) e = (l, u, refl)

-- a coloured cell is open itself
pub coloured_open : (S : Sheet) (mode : Mode) (p q : ℕ) → colour (verdict S mode) S.k p q ≡ 1 → (l : ℤ) × (u : ℤ) × (verdict S mode S.k p q ≡ Open l u (bend S S.k p q))
coloured_open S mode p q e =
    let n : S.k - S.k ≡ 0 = omega arith in
    let w = open_is (verdict S mode S.k p q) (rw (n, Nat.div-one p, Nat.div-one q) at (coloured_all_open (verdict S mode) S.k p q e S.k (Nat.le_refl S.k))) in
    (w.0, w.1, w.2 ∙ ap (Open w.0 w.1) (judged_bend (lower S mode S.k p q) (upper S mode S.k p q) (bend S S.k p q)))

pub coloured_meets : ColouredMeets
coloured_meets S mode p q e z = let w = coloured_open S mode p q e in open_meets S mode S.k p q w.0 w.1 (w.2 ∙ ap (Open w.0 w.1) z)

-- ---- by the raster's byte, which is the colour
pub raster_signed : RasterSigned
raster_signed S mode p q h i = rw (raster_byte (verdict S mode) S.k p q h i) (white_signed S mode p q)

pub raster_meets : RasterMeets
raster_meets S mode p q h i = rw (raster_byte (verdict S mode) S.k p q h i) (coloured_meets S mode p q)

-- ---- row 9
pub never_too_many : NeverTooMany
never_too_many S mode h = ltb-false 65_535 _ (no_row_9 S mode h)

-- an earlier row gives its own number, or it does not hold and the later rows decide
earlier : (b : Bool) (n m : ℕ) → cond b n m ≡ 9 → n < 9 → (b ≡ false) × (m ≡ 9)
earlier true n m e h = absurd (omega arith)
earlier false n m e h = (refl, e)

earlier_row : (r : Row) (rs : List Row) → first (r ∷ rs) ≡ 9 → r.number < 9 → (r.holds ≡ false) × (first rs ≡ 9)
unfolding first
earlier_row r rs = earlier r.holds r.number (first rs)

-- the last row gives none where it does not hold
last_row : (r : Row) → first (r ∷ []) ≡ 9 → r.holds ≡ false → ⊥
unfolding first
last_row r e h = let z = rw h at e in omega arith

-- what is asked of a second thing, where a first is given too, does not hold if it holds of nothing
both_given : (g h : Given) (f : ℕ → Bool) → ((n : ℕ) → f n ≡ false) → if_given g (λ _. if_given h f) ≡ false
both_given not_given h f z = refl
both_given (given m) not_given f z = refl
both_given (given m) (given n) f z = z n

pub never_nine : NeverNine
unfolding table
never_nine c e =
    let r1 = earlier_row _ _ e (omega arith) in let r2 = earlier_row _ _ r1.1 (omega arith) in
    let r3 = earlier_row _ _ r2.1 (omega arith) in let r4 = earlier_row _ _ r3.1 (omega arith) in
    let r5 = earlier_row _ _ r4.1 (omega arith) in let r6 = earlier_row _ _ r5.1 (omega arith) in
    let r7 = earlier_row _ _ r6.1 (omega arith) in let r8 = earlier_row _ _ r7.1 (omega arith) in
    last_row _ r8.1 (both_given c.entries c.mode _ (λ m. no_row_9 c.sheet m (ltb-false 7 c.sheet.k r3.0)))
