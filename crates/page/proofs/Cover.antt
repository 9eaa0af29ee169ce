-- The coloured cells hold every point of the curve with fractional coordinates: cells are cut into four, each level covers the square, and a cell on the curve is not cleared.
use mathlib.Core.Path.{◌≡◌, refl, sym, ◌∙◌, ap, subst}
use mathlib.Core.List.{[], ◌∷◌}
use Prim.Native.Nat.{ℕ, zero, suc, ◌+◌, ◌*◌, ◌-◌, ◌^◌, ◌≤◌, ◌<◌}
use native.Mathlib.Numerals.{add-one}
use native.Mathlib.Omega.{arith}
use lib.IntN.{ℤ, pos, negsuc, ◌+ℤ◌, ◌-ℤ◌, ◌*ℤ◌, nat_abs}
use lib.Pow.{pow-add}
use lib.Signed.{<ℤ_irrefl}
use Rattle.algebra.proofs.Ring.{ring, ◌⊕◌, ◌⊖◌, ◌⊗◌, ⊝◌, #◌, ◌≐◌}
use Rattle.forms.specs.Straight.{against}
use Rattle.forms.proofs.Signs.{against_near}
use Rattle.verdicts.specs.Walking.{colour}
use Rattle.verdicts.proofs.Colours.{colour_one_of}
use Rattle.page.specs.Sheet.{Sheet}
use Rattle.page.specs.Scaled.{half_side}
use Rattle.page.specs.Bounds.{verdict}
use Rattle.page.specs.Cover.{CutInFour, Holder, LevelsCover, CurveColoured, CurveCovered}
use Rattle.page.proofs.Raster.{white_signed}

-- ---- a level further down the half-side is half as large
half_twice : (S : Sheet) (j : ℕ) → j < S.k → half_side S j ≡ 2 * half_side S (j + 1)
half_twice S j h = let e : S.s + S.k - j ≡ 1 + (S.s + S.k - (j + 1)) = omega arith in ap (λ n. 2 ^ n) e ∙ pow-add 2 1 (S.s + S.k - (j + 1))

pub cut_in_four : CutInFour
cut_in_four S j p q h = (half_twice S j h, left S.X p, right S.X p, left S.Y q, right S.Y q)
  where
    K : ℤ
    K = pos (2 ^ (S.k + 1))

    H : ℕ
    H = half_side S (j + 1)

    left : (z : ℤ) (p : ℕ) → K *ℤ z +ℤ pos ((2 * (2 * p) + 1) * H) ≡ K *ℤ z +ℤ pos ((2 * p + 1) * half_side S j) -ℤ pos H
    left z p = rw (half_twice S j h) (ring (K ∷ z ∷ pos p ∷ pos H ∷ []) (λ k z p h. k ⊗ z ⊕ (# 2 ⊗ (# 2 ⊗ p) ⊕ # 1) ⊗ h ≐ k ⊗ z ⊕ (# 2 ⊗ p ⊕ # 1) ⊗ (# 2 ⊗ h) ⊖ h) tt)

    right : (z : ℤ) (p : ℕ) → K *ℤ z +ℤ pos ((2 * (2 * p + 1) + 1) * H) ≡ K *ℤ z +ℤ pos ((2 * p + 1) * half_side S j) +ℤ pos H
    right z p = rw (half_twice S j h) (ring (K ∷ z ∷ pos p ∷ pos H ∷ []) (λ k z p h. k ⊗ z ⊕ (# 2 ⊗ (# 2 ⊗ p ⊕ # 1) ⊕ # 1) ⊗ h ≐ k ⊗ z ⊕ (# 2 ⊗ p ⊕ # 1) ⊗ (# 2 ⊗ h) ⊕ h) tt)

-- ---- along one axis: the p-th interval of half-length 2 H from z on is made of the 2p-th and the next one of half-length H
module _ (z M : ℤ) (Q H p : ℕ) where
  -- how far M is from the middle of the a-th interval of half-length h
  abbrev offset : ℕ → ℕ → ℤ
  offset h a = M -ℤ pos Q *ℤ (z +ℤ pos ((2 * a + 1) * h))

  pub record Half : Type 0 where
    pub number : ℕ
    pub low : 2 * p ≤ number
    pub high : number ≤ 2 * p + 1
    pub near : nat_abs (offset H number) ≤ Q * H

  pub half : nat_abs (offset (2 * H) p) ≤ Q * (2 * H) → Half
  unfolding against
  half h = go (offset (2 * H) p) refl
    where
      near : (o : ℤ) → offset (2 * H) p ≡ o → nat_abs (offset (2 * H) p +ℤ pos (Q * H) *ℤ against o) ≤ Q * H
      near o e = subst (λ t. nat_abs (t +ℤ pos (Q * H) *ℤ against o) ≤ Q * H) (sym e) (against_near o (Q * H) (let l = rw e at h in omega arith))

      go : (o : ℤ) → offset (2 * H) p ≡ o → Half
      go (pos n) e = record {
        number = 2 * p + 1;
        low = omega arith;
        high = omega arith;
        near = subst (λ t. nat_abs t ≤ Q * H) (ring (M ∷ z ∷ pos Q ∷ pos H ∷ pos p ∷ [])
            (λ M z Q H p. M ⊖ Q ⊗ (z ⊕ (# 2 ⊗ p ⊕ # 1) ⊗ (# 2 ⊗ H)) ⊕ Q ⊗ H ⊗ ⊝ # 1 ≐ M ⊖ Q ⊗ (z ⊕ (# 2 ⊗ (# 2 ⊗ p ⊕ # 1) ⊕ # 1) ⊗ H)) tt) (near (pos n) e);
      }
      go (negsuc n) e = record {
        number = 2 * p;
        low = omega arith;
        high = omega arith;
        near = subst (λ t. nat_abs t ≤ Q * H) (ring (M ∷ z ∷ pos Q ∷ pos H ∷ pos p ∷ [])
            (λ M z Q H p. M ⊖ Q ⊗ (z ⊕ (# 2 ⊗ p ⊕ # 1) ⊗ (# 2 ⊗ H)) ⊕ Q ⊗ H ⊗ # 1 ≐ M ⊖ Q ⊗ (z ⊕ (# 2 ⊗ (# 2 ⊗ p) ⊕ # 1) ⊗ H)) tt) (near (negsuc n) e);
      }

-- ---- so the cells of each level cover the square
next_level : (S : Sheet) (j : ℕ) → j < S.k → {M N : ℤ} {Q : ℕ} → Holder S j M N Q → Holder S (j + 1) M N Q
next_level S j h {M} {N} {Q} c =
    let x = axis S.X M c.column c.inside.across in let y = axis S.Y N c.row c.inside.along in
    let i = c.is_cell in let one : j + 1 ≡ 1 + j = omega arith in let two : 2 ^ (j + 1) ≡ 2 * 2 ^ j = ap (λ n. 2 ^ n) one ∙ pow-add 2 1 j in
    let l = x.high in let m = y.high in let p = i.column in let q = i.row in
    record {
      column = x.number;
      row = y.number;
      is_cell = record { level = omega arith; column = omega arith; row = omega arith };
      inside = record { across = x.near; along = y.near };
    }
  where
    axis : (z M : ℤ) (p : ℕ) → nat_abs (M -ℤ pos Q *ℤ (pos (2 ^ (S.k + 1)) *ℤ z +ℤ pos ((2 * p + 1) * half_side S j))) ≤ Q * half_side S j → Half (pos (2 ^ (S.k + 1)) *ℤ z) M Q (half_side S (j + 1)) p
    axis z M p b = half (pos (2 ^ (S.k + 1)) *ℤ z) M Q (half_side S (j + 1)) p (rw (half_twice S j h) at b)

pub levels_cover : LevelsCover
levels_cover S zero h M N Q c = record { column = 0; row = 0; is_cell = record { level = h; column = omega arith; row = omega arith }; inside = c }
levels_cover S (suc j) h M N Q c = subst (λ n. Holder S n M N Q) (add-one j) (next_level S j (omega arith) (levels_cover S j (omega arith) M N Q c))

-- ---- a white cell has one strict sign, so that a cell on the curve is not white
pub curve_coloured : CurveColoured
curve_coloured S mode p q M N Q o i z =
    let w = white_signed S mode p q M N Q o i in let c = colour (verdict S mode) S.k p q in
    let above : c ≡ 2 → ⊥ = λ e. <ℤ_irrefl (rw z at (w.0 e)) in let below : c ≡ 3 → ⊥ = λ e. <ℤ_irrefl (rw z at (w.1 e)) in
    let s = colour_one_of (verdict S mode) S.k p q in omega (arith, above, below, s.0, s.1)

pub curve_covered : CurveCovered
curve_covered S mode M N Q o i z = let h = levels_cover S S.k (omega arith) M N Q i in (h, curve_coloured S mode h.column h.row M N Q o h.inside z)
