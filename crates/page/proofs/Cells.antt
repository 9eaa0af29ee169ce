-- The cells lie in the square, and the square within the limits Rx and Ry.
use mathlib.Core.Path.{◌≡◌, sym, ◌∙◌, ap, subst}
use mathlib.Core.Bool.{false, not}
use mathlib.Core.List.{[], ◌∷◌}
use Prim.Native.Nat.{ℕ, ◌+◌, ◌*◌, ◌-◌, ◌^◌, ◌≤◌, ◌<◌}
use native.Mathlib.Nat as Nat
use native.Mathlib.Omega.{arith}
use lib.IntN.{ℤ, pos, ◌+ℤ◌, ◌-ℤ◌, ◌*ℤ◌, nat_abs}
use lib.Dec.{T}
use lib.Pow.{pow-add, pow_mono}
use lib.Signed.{◌≤ℤ◌, lt_z, lt_z_no}
use Rattle.algebra.proofs.Absolute.{nat_abs-*ℤ, nat_abs_bound, nat_abs_ends, ≤ℤ-nat_abs, -nat_abs-≤ℤ}
use Rattle.algebra.proofs.Order.{≤ℤ_by, ≤ℤ_trans, neg_ℤ_mono, pos_mono, nonneg}
use Rattle.algebra.proofs.Ring.{ring, ◌⊕◌, ◌⊖◌, ◌⊗◌, #◌, ◌≐◌}
use Rattle.page.specs.Sheet.{Sheet, InRange}
use Rattle.page.specs.Scaled.{IsCell, half_side, U0, V0}
use Rattle.page.specs.Weight.{Rx, Ry}
use Rattle.page.specs.Refusals.{outside_side, misplaced, point}
use Rattle.page.proofs.Rows.{or_both}

-- what lies between a and b is no larger than the larger of them
nat_abs_between : (a b z : ℤ) (n : ℕ) → a ≤ℤ z → z ≤ℤ b → nat_abs a ≤ n → nat_abs b ≤ n → nat_abs z ≤ n
nat_abs_between a b z n h k p q = nat_abs_bound (≤ℤ_trans (neg_ℤ_mono (pos_mono p)) (≤ℤ_trans (-nat_abs-≤ℤ a) h)) (≤ℤ_trans k (≤ℤ_trans (≤ℤ-nat_abs b) (pos_mono q)))

-- ---- along one axis: the corner z, the side 2^s, lengths in units of 1/K
module _ (z : ℤ) (s K r : ℕ) (near : nat_abs z ≤ r) (far : nat_abs (z +ℤ pos (2 ^ s)) ≤ r) where
  -- a coordinate from K z to K (z + 2^s) is at most K r
  pub coordinate_limit : (u : ℤ) → (pos K *ℤ z) ≤ℤ u → u ≤ℤ (pos K *ℤ (z +ℤ pos (2 ^ s))) → nat_abs u ≤ K * r
  coordinate_limit u h k = nat_abs_between (pos K *ℤ z) (pos K *ℤ (z +ℤ pos (2 ^ s))) u (K * r) h k
      (rw nat_abs-*ℤ (Nat.mul-le-mul_left K near)) (rw nat_abs-*ℤ (Nat.mul-le-mul_left K far))

  -- and so are the ends of an interval of centre K z + c and half-length h, h ≤ c and c + h ≤ K 2^s
  pub interval_limit : (c h : ℕ) → h ≤ c → c + h ≤ K * 2 ^ s → nat_abs (pos K *ℤ z +ℤ pos c) + h ≤ K * r
  interval_limit c h l m =
      let x = pos K *ℤ z in let y = pos K *ℤ (z +ℤ pos (2 ^ s)) in let total = pos (K * 2 ^ s) in
      let o : c - h ≤ K * 2 ^ s = omega arith in
      let less : x +ℤ pos c -ℤ pos h ≡ x +ℤ pos (c - h) = let e : pos c ≡ pos (c - h) +ℤ pos h = ap pos (omega arith) in rw e (ring (x ∷ pos (c - h) ∷ pos h ∷ []) (λ x d h. x ⊕ (d ⊕ h) ⊖ h ≐ x ⊕ d) tt) in
      nat_abs_ends (x +ℤ pos c) h (K * r)
      (rw less (coordinate_limit (x +ℤ pos (c - h)) (above (c - h)) (below (c - h) o)))
      (rw (ring (x ∷ pos c ∷ pos h ∷ []) (λ x c h. x ⊕ c ⊕ h ≐ x ⊕ (c ⊕ h)) tt) (coordinate_limit (x +ℤ pos (c + h)) (above (c + h)) (below (c + h) m)))
    where
      above : (t : ℕ) → (pos K *ℤ z) ≤ℤ (pos K *ℤ z +ℤ pos t)
      above t = ≤ℤ_by (nonneg t) (ring ((pos K *ℤ z) ∷ pos t ∷ []) (λ x t. x ⊕ t ⊖ x ≐ t ⊖ # 0) tt)

      below : (t : ℕ) → t ≤ K * 2 ^ s → (pos K *ℤ z +ℤ pos t) ≤ℤ (pos K *ℤ (z +ℤ pos (2 ^ s)))
      below t h = ≤ℤ_by (pos_mono h) (ring (pos K ∷ z ∷ pos (2 ^ s) ∷ pos t ∷ []) (λ k z n t. k ⊗ (z ⊕ n) ⊖ (k ⊗ z ⊕ t) ≐ k ⊗ n ⊖ t) tt)

-- ---- a cell's half-side and centre lie in the square
module _ (S : Sheet) (j p : ℕ) (level : j ≤ S.k) (column : p < 2 ^ j) where
  abbrev H : ℕ
  H = half_side S j

  -- 2^j cells of side 2 H make the square's side
  pub cells_make : 2 ^ j * (2 * H) ≡ 2 ^ (S.k + 1) * 2 ^ S.s
  cells_make =
      let e : j + (S.s + S.k - j) ≡ S.k + S.s = omega arith in let f : S.k + 1 + S.s ≡ 1 + (S.k + S.s) = omega arith in
      Nat.mul_left_comm (2 ^ j) 2 H ∙ ap (λ n. 2 * n) (sym (pow-add 2 j (S.s + S.k - j)) ∙ ap (λ n. 2 ^ n) e) ∙ sym (pow-add 2 1 (S.k + S.s)) ∙ ap (λ n. 2 ^ n) (sym f) ∙ pow-add 2 (S.k + 1) S.s

  inside_low : H ≤ (2 * p + 1) * H
  inside_low = Nat.le_trans (Nat.le_of_eq (sym (Nat.one-mul H))) (Nat.mul-le-mul_right H (omega arith))

  inside_high : (2 * p + 1) * H + H ≤ 2 ^ (S.k + 1) * 2 ^ S.s
  inside_high = rw (← cells_make) (Nat.le_trans (Nat.le_of_eq grouped) (Nat.mul-le-mul_right (2 * H) next))
    where
      grouped : (2 * p + 1) * H + H ≡ (p + 1) * (2 * H)
      grouped = ap nat_abs (ring (pos p ∷ pos H ∷ []) (λ p h. (# 2 ⊗ p ⊕ # 1) ⊗ h ⊕ h ≐ (p ⊕ # 1) ⊗ (# 2 ⊗ h)) tt)

      next : p + 1 ≤ 2 ^ j
      next = omega arith

  pub cell_limit : (z : ℤ) (r : ℕ) → nat_abs z ≤ r → nat_abs (z +ℤ pos (2 ^ S.s)) ≤ r → nat_abs (pos (2 ^ (S.k + 1)) *ℤ z +ℤ pos ((2 * p + 1) * H)) + H ≤ 2 ^ (S.k + 1) * r
  cell_limit z r near far = interval_limit z S.s (2 ^ (S.k + 1)) r near far ((2 * p + 1) * H) H inside_low inside_high

-- ---- so the centre and the half-side are at most 2^(k+1) Rx across, and 2^(k+1) Ry along
module _ (S : Sheet) (j p q : ℕ) (c : IsCell S.k j p q) where
  pub limit_u : nat_abs (U0 S j p) + half_side S j ≤ 2 ^ (S.k + 1) * Rx S
  limit_u = cell_limit S j p c.level c.column S.X (Rx S) (omega arith) (omega arith)

  pub limit_v : nat_abs (V0 S j q) + half_side S j ≤ 2 ^ (S.k + 1) * Ry S
  limit_v = cell_limit S j q c.level c.row S.Y (Ry S) (omega arith) (omega arith)

-- ---- a whole-number point that is not outside the square: its coordinates are at most 2^(k+1) Rx and 2^(k+1) Ry
pub inside_side : (s k : ℕ) (z u : ℤ) → outside_side s k z u ≡ false → ((pos (2 ^ (k + 1)) *ℤ z) ≤ℤ u) × (u ≤ℤ (pos (2 ^ (k + 1)) *ℤ (z +ℤ pos (2 ^ s))))
inside_side s k z u e = let h = or_both (lt_z u (pos (2 ^ (k + 1)) *ℤ z)) (lt_z (pos (2 ^ (k + 1)) *ℤ (z +ℤ pos (2 ^ s))) u) e in (at_least h.0, at_least h.1)
  where
    at_least : {a b : ℤ} → lt_z a b ≡ false → b ≤ℤ a
    at_least e = lt_z_no (subst (λ b. T (not b)) (sym e) tt)

pub point_limit : (S : Sheet) (u v : ℤ) → misplaced S (point u v) ≡ false → (nat_abs u ≤ 2 ^ (S.k + 1) * Rx S) × (nat_abs v ≤ 2 ^ (S.k + 1) * Ry S)
point_limit S u v e =
    let h = or_both (outside_side S.s S.k S.X u) (outside_side S.s S.k S.Y v) e in
    let x = inside_side S.s S.k S.X u h.0 in let y = inside_side S.s S.k S.Y v h.1 in
    (coordinate_limit S.X S.s (2 ^ (S.k + 1)) (Rx S) (omega arith) (omega arith) u x.0 x.1, coordinate_limit S.Y S.s (2 ^ (S.k + 1)) (Ry S) (omega arith) (omega arith) v y.0 y.1)

-- ---- the numbers of a cell on an accepted sheet are small
module _ {S : Sheet} {j p q : ℕ} (r : InRange S) (c : IsCell S.k j p q) where
  pub column_small : p < 128
  column_small = let h : j ≤ 7 = let l = c.level in let d = r.depth in omega arith in let m : 2 ^ j ≤ 2 ^ 7 = pow_mono h in let k = c.column in omega arith

  pub row_small : q < 128
  row_small = let h : j ≤ 7 = let l = c.level in let d = r.depth in omega arith in let m : 2 ^ j ≤ 2 ^ 7 = pow_mono h in let k = c.row in omega arith

  pub half_side_small : half_side S j ≤ 2 ^ 17
  half_side_small = let h : S.s + S.k - j ≤ 17 = let s = r.side in let d = r.depth in omega arith in pow_mono h
