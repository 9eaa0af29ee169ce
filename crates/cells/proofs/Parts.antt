-- From a cell to its parts: its local form halved has only to be moved by 1 or -1 in each variable to be that of a part. And the whole sheet, which is not moved.
use mathlib.Core.Path.{◌≡◌, refl, sym, ◌∙◌, ap, ap₂}
use mathlib.Core.List.{List, [], ◌∷◌}
use Prim.Native.Nat.{ℕ, suc, ◌+◌, ◌*◌, ◌-◌, ◌^◌, ◌≤◌, ◌<◌}
use native.Mathlib.Nat as Nat
use native.Mathlib.Omega.{arith}
use lib.IntN.{ℤ, pos, negsuc, ◌+ℤ◌, ◌*ℤ◌, neg_ℤ, nat_abs, pow}
use lib.Pow.{pow-add, pow_pos}
use lib.Signed.{shr_z}
use Rattle.algebra.proofs.Power.{pos_pow, one_powℕ}
use Rattle.algebra.proofs.Integer.{≡_by}
use Rattle.algebra.proofs.Absolute.{nat_abs-*ℤ, nat_abs_pow}
use Rattle.algebra.proofs.Places.{places_45}
use Rattle.algebra.proofs.Ring.{ring, ◌⊕◌, ◌⊖◌, ◌⊗◌, ⊝◌, #◌, ◌≐◌}
use Rattle.forms.specs.Vectors.{total}
use Rattle.forms.specs.Box.{corner}
use Rattle.forms.specs.LocalForm.{local}
use Rattle.forms.specs.Plane.{pair, moved}
use Rattle.forms.proofs.Parts.{local_half}
use Rattle.forms.proofs.PlaneParts.{corner_pair, local_part_plane}
use Rattle.forms.proofs.Moves.{moved_agree, moved_still}
use Rattle.tables.specs.Table.{held}
use Rattle.tables.specs.Scaling.{Halved}
use Rattle.page.specs.Sheet.{Sheet, A}
use Rattle.page.specs.Scaled.{IsCell, half_side, U0, V0}
use Rattle.page.specs.LocalForm.{G}
use Rattle.page.proofs.Page.{polynomial, centre, G_is}
use Rattle.cells.specs.Cell.{CellForm, Near}
use Rattle.cells.proofs.Forms.{triangle_agree, sizes_light}

-- ---- halving is exact where the number is a multiple
pub halved_exact : (z : ℤ) (n : ℕ) → shr_z (pow (pos 2) n *ℤ z) (2 ^ n) ≡ z
halved_exact z n = rw (pos_pow 2 n) (go z)
  where
    go : (z : ℤ) → shr_z (pos (2 ^ n) *ℤ z) (2 ^ n) ≡ z
    go (pos m) = ap pos (Nat.mul-div_cancel_left m (pow_pos n))
    go (negsuc m) =
        let p = pow_pos n in let last : 2 ^ n - 1 < 2 ^ n = omega arith in
        let e : 2 ^ n * suc m ≡ suc (2 ^ n * m + (2 ^ n - 1)) = let q = Nat.mul-suc (2 ^ n) m in omega arith in
        ap (λ x. shr_z (neg_ℤ (pos x)) (2 ^ n)) e ∙ ap negsuc (Nat.mul-add-div p m (2 ^ n - 1) ∙ ap (λ x. m + x) (Nat.div-eq_of_lt last) ∙ Nat.add-zero m)

-- ---- a part lies to the left, -1, or to the right, 1; and so below or above
pub record Side (s : ℤ) (p r : ℕ) : Type 0 where
  pub one : nat_abs s ≡ 1
  pub odd : pos (2 * r + 1) ≡ pos (2 * (2 * p + 1)) +ℤ s

pub left : (p : ℕ) → Side (negsuc 0) p (2 * p)
left p = record { one = refl; odd = ring (pos p ∷ []) (λ p. # 2 ⊗ (# 2 ⊗ p) ⊕ # 1 ≐ # 2 ⊗ (# 2 ⊗ p ⊕ # 1) ⊕ ⊝ # 1) tt }

pub right : (p : ℕ) → Side (pos 1) p (2 * p + 1)
right p = record { one = refl; odd = refl }

-- ---- the parts of the cell at level j, column p, row q, which is not a finest one
module _ (S : Sheet) (j p q : ℕ) (above : j < S.k) where
  abbrev half : ℕ
  half = half_side S (j + 1)

  halves : half_side S j ≡ 2 * half
  halves = let e : S.s + S.k - j ≡ suc (S.s + S.k - (j + 1)) = omega arith in ap (λ n. 2 ^ n) e ∙ Nat.pow-suc 2 (S.s + S.k - (j + 1)) ∙ Nat.mul_comm half 2

  -- the local form about the cell's own centre, with the half-side of a part
  abbrev inner : ℕ → ℕ → ℤ
  inner a b = local (polynomial S) (centre S j p q) half (a ∷ b ∷ [])

  inner_doubled : (a b : ℕ) → G S j p q a b ≡ pow (pos 2) (a + b) *ℤ inner a b
  unfolding total
  inner_doubled a b =
      let e : a + (b + 0) ≡ a + b = omega arith in
      G_is S j p q a b ∙ ap (λ h. local (polynomial S) (centre S j p q) h (a ∷ b ∷ [])) halves ∙ local_half (polynomial S) (centre S j p q) half (a ∷ b ∷ []) ∙ ap (λ n. pow (pos 2) n *ℤ inner a b) e

  -- the centre of a part
  centre_side : (c s : ℤ) (m r : ℕ) → Side s m r → c +ℤ pos ((2 * r + 1) * half) ≡ c +ℤ pos ((2 * m + 1) * half_side S j) +ℤ pos half *ℤ s
  centre_side c s m r o =
      rw halves (≡_by (ap (λ x. x *ℤ pos half) o.odd)
      (ring (c ∷ s ∷ pos m ∷ pos r ∷ pos half ∷ []) (λ c s m r h. c ⊕ (# 2 ⊗ r ⊕ # 1) ⊗ h ⊖ (c ⊕ (# 2 ⊗ m ⊕ # 1) ⊗ (# 2 ⊗ h) ⊕ h ⊗ s) ≐ (# 2 ⊗ r ⊕ # 1) ⊗ h ⊖ (# 2 ⊗ (# 2 ⊗ m ⊕ # 1) ⊕ s) ⊗ h) tt))

  module _ {s z : ℤ} {r t : ℕ} (across : Side s p r) (along : Side z q t) where
    part_form : (a b : ℕ) → a + b ≤ S.d → moved S.d inner s z (pos 1) a b ≡ G S (j + 1) r t a b
    part_form a b l =
        let there : corner (centre S j p q) half (pair s z) ≡ centre S (j + 1) r t =
        corner_pair (U0 S j p) (V0 S j q) half s z ∙ ap₂ pair (sym (centre_side (pos (2 ^ (S.k + 1)) *ℤ S.X) s p r across)) (sym (centre_side (pos (2 ^ (S.k + 1)) *ℤ S.Y) z q t along)) in
        sym (local_part_plane S.d (2 ^ (S.k + 1)) (A S) (centre S j p q) half s z a b l) ∙ ap (λ c. local (polynomial S) c half (a ∷ b ∷ [])) there ∙ sym (G_is S (j + 1) r t a b)

    -- so the halved form of the cell is near to a part's
    pub part_near : {old new : List ℤ} → IsCell S.k (j + 1) r t → CellForm S j p q old → Halved S.d old new → Near S (j + 1) r t s z new
    part_near {old} {new} c f h = record {
      accepted = f.accepted;
      cell = c;
      long = h.long;
      sides = (let o = across.one in omega arith, let o = along.one in omega arith);
      movable = record {
        inside = let l = h.long in let m = places_45 S.d f.accepted.ranges.degree in omega arith;
        a = 2;
        b = 2;
        wide = (let o = across.one in omega arith, let o = along.one in omega arith);
        light = rw (triangle_agree S.d (λ a b. nat_abs (held new S.d a b) * (2 ^ a * 2 ^ b)) (λ a b. nat_abs (G S j p q a b)) doubled) (let w = sizes_light S j p q f.accepted f.cell in omega arith);
      };
      each = λ a b l. moved_agree S.d (held new S.d) inner s z (pos 1) halved a b ∙ part_form a b l;
      unused = λ n l. h.rest n l ∙ f.unused n l;
    }
      where
        halved : (a b : ℕ) → a + b ≤ S.d → held new S.d a b ≡ inner a b
        halved a b l = h.each a b l ∙ ap (λ x. shr_z x (2 ^ (a + b))) (f.each a b l ∙ inner_doubled a b) ∙ halved_exact (inner a b) (a + b)

        doubled : (a b : ℕ) → a + b ≤ S.d → nat_abs (held new S.d a b) * (2 ^ a * 2 ^ b) ≡ nat_abs (G S j p q a b)
        doubled a b l =
            rw (halved a b l, inner_doubled a b, nat_abs-*ℤ (pow (pos 2) (a + b)), nat_abs_pow, ← (pow-add 2 a b)) (Nat.mul_comm (nat_abs (inner a b)) (2 ^ (a + b)))

-- ---- the whole sheet has nothing to be moved by
pub whole_near : {S : Sheet} {places : List ℤ} → CellForm S 0 0 0 places → Near S 0 0 0 (pos 0) (pos 0) places
whole_near {S} {places} f = record {
  accepted = f.accepted;
  cell = f.cell;
  long = f.long;
  sides = (omega arith, omega arith);
  movable = record {
    inside = let l = f.long in let m = places_45 S.d f.accepted.ranges.degree in omega arith;
    a = 1;
    b = 1;
    wide = (omega arith, omega arith);
    light = rw (triangle_agree S.d (λ a b. nat_abs (held places S.d a b) * (1 ^ a * 1 ^ b)) (λ a b. nat_abs (G S 0 0 0 a b)) once) (let w = sizes_light S 0 0 0 f.accepted f.cell in omega arith);
  };
  each = λ a b l. moved_still S.d (held places S.d) a b l ∙ f.each a b l;
  unused = f.unused;
}
  where
    once : (a b : ℕ) → a + b ≤ S.d → nat_abs (held places S.d a b) * (1 ^ a * 1 ^ b) ≡ nat_abs (G S 0 0 0 a b)
    once a b l = rw (one_powℕ a, one_powℕ b, f.each a b l) (Nat.mul-one (nat_abs (G S 0 0 0 a b)))
