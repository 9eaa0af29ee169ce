-- The local form of a cell from the sheet: the scaled coefficients moved to the centre, each place times its power of the half-side. And the value at a point.
use mathlib.Core.Path.{◌≡◌, sym, ◌∙◌, ap}
use mathlib.Core.List.{List}
use Prim.Native.Nat.{ℕ, ◌+◌, ◌*◌, ◌-◌, ◌^◌, ◌≤◌, ◌<◌}
use native.Mathlib.Nat as Nat
use native.Mathlib.Omega.{arith}
use lib.IntN.{ℤ, pos, ◌*ℤ◌, nat_abs, pow}
use lib.Pow.{pow_pos}
use Rattle.algebra.specs.Sum.{◌⋯◌}
use Rattle.algebra.specs.Triangle.{triangle}
use Rattle.algebra.proofs.Sum.{sum_cong}
use Rattle.algebra.proofs.Run.{⋯_member}
use Rattle.algebra.proofs.Power.{pos_pow, pow_*}
use Rattle.algebra.proofs.Absolute.{nat_abs-*ℤ}
use Rattle.algebra.proofs.Places.{places_45}
use Rattle.forms.specs.Plane.{moved}
use Rattle.forms.proofs.Moves.{moved_agree, moved_scaled}
use Rattle.tables.specs.Table.{held}
use Rattle.tables.specs.Moves.{Movable, Moved}
use Rattle.tables.specs.Scaling as Places
use Rattle.tables.specs.Value.{table_value, Valuable}
use Rattle.local.specs.declared.Form.{Form}
use Rattle.local.specs.Form.{Tabled}
use Rattle.page.specs.Sheet.{Sheet}
use Rattle.page.specs.Scaled.{scaled, F, IsCell, half_side, U0, V0}
use Rattle.page.specs.LocalForm.{G}
use Rattle.page.specs.Weight.{Rx, Ry, Accepted}
use Rattle.page.proofs.Weights.{scaled_positive, scaled_load, member_triangle}
use Rattle.page.proofs.Cells.{limit_u, limit_v}
use Rattle.cells.specs.Cell.{CellForm}
use Rattle.cells.proofs.Forms.{triangle_agree, sizes_light}

-- ---- a form that holds the scaled coefficients of an accepted sheet
module _ {S : Sheet} (a : Accepted S) {form : Form} (f : Tabled S.d (scaled S) form) where
  light : triangle S.d (λ i j. nat_abs (held form.places S.d i j) * ((2 ^ (S.k + 1) * Rx S) ^ i * (2 ^ (S.k + 1) * Ry S) ^ j)) < 2 ^ 62
  light =
      let m = 2 ^ (S.k + 1) * Rx S in let n = 2 ^ (S.k + 1) * Ry S in
      rw (triangle_agree S.d (λ i j. nat_abs (held form.places S.d i j) * (m ^ i * n ^ j)) (λ i j. nat_abs (scaled S i j) * (m ^ i * n ^ j)) (λ i j l. ap (λ z. nat_abs z * (m ^ i * n ^ j)) (f.each i j l)), scaled_load S) a.light

  -- ---- the value at a point of the square
  module _ (u v : ℤ) where
    pub valuable : nat_abs u ≤ 2 ^ (S.k + 1) * Rx S → nat_abs v ≤ 2 ^ (S.k + 1) * Ry S → Valuable S.d u v form.places
    valuable h k = record {
      small = a.ranges.degree;
      a = 2 ^ (S.k + 1) * Rx S;
      b = 2 ^ (S.k + 1) * Ry S;
      wide = ((scaled_positive S).0, h, (scaled_positive S).1, k);
      light = let l = light in omega arith;
    }

    pub value_is : table_value form.places S.d u v ≡ F S u v
    unfolding F
    value_is = sum_cong (0 ⋯ S.d) (λ i m. sum_cong (0 ⋯ (S.d - i)) (λ j n. let k = ⋯_member 0 S.d m in let l = ⋯_member 0 (S.d - i) n in ap (λ z. z *ℤ pow u i *ℤ pow v j) (f.each i j (omega arith))))

  -- ---- the local form of a cell
  module _ (j p q : ℕ) (c : IsCell S.k j p q) where
    pub centre_movable : Movable S.d (U0 S j p) (V0 S j q) form.places
    centre_movable =
        let o = pow_pos (S.s + S.k - j) in
        record {
          inside = let o = f.long in let m = places_45 S.d a.ranges.degree in omega arith;
          a = 2 ^ (S.k + 1) * Rx S;
          b = 2 ^ (S.k + 1) * Ry S;
          wide = (let h = limit_u S j p q c in omega arith, let h = limit_v S j p q c in omega arith);
          light = let l = light in omega arith;
        }

    module _ {there : List ℤ} (w : Moved S.d (U0 S j p) (V0 S j q) form.places there) where
      -- the power of the half-side
      half_power : (n m : ℕ) → pos (2 ^ Places.doublings (S.s + S.k - j) 0 n m) ≡ pow (pos (half_side S j)) n
      half_power n m =
          let e = S.s + S.k - j in let same : e * n + 0 * m ≡ e * n = rw (Nat.zero-mul m) (Nat.add-zero (e * n)) in
          ap (λ x. pos (2 ^ x)) same ∙ sym (pos_pow 2 (e * n)) ∙ pow_* (pos 2) e n ∙ ap (λ x. pow x n) (pos_pow 2 e)

      place_is : (a b : ℕ) → a + b ≤ S.d → held there S.d a b *ℤ pos (2 ^ Places.doublings (S.s + S.k - j) 0 (a + b) (S.d - a - b)) ≡ G S j p q a b
      unfolding G moved
      place_is a b l = rw (w.each a b l, half_power (a + b) (S.d - a - b), moved_agree S.d (held form.places S.d) (scaled S) (U0 S j p) (V0 S j q) (pos 1) f.each a b) (sym (moved_scaled S.d (scaled S) (U0 S j p) (V0 S j q) (pos (half_side S j)) a b))

      pub place_fits : Places.Scalable S.d (S.s + S.k - j) 0 there
      place_fits = record {
        long = w.long ∙ f.long;
        small = let r = a.ranges in (r.degree, let h = r.side in let k = r.depth in omega arith, omega arith);
        light = λ i k l.
            let e = ap nat_abs (place_is i k l) in let n = nat_abs-*ℤ (held there S.d i k) (pos (2 ^ Places.doublings (S.s + S.k - j) 0 (i + k) (S.d - i - k))) in
            let m = member_triangle S.d (λ i k. nat_abs (G S j p q i k)) i k l in let s = sizes_light S j p q a c in omega arith;
      }

      pub placed : {new : Form} → new.degree ≡ S.d → Places.Scaled S.d (S.s + S.k - j) 0 there new.places → Tabled S.d (G S j p q) new
      placed e t = record { degree = e; long = t.long; each = λ a b l. t.each a b l ∙ place_is a b l; unused = λ n l. t.rest n l ∙ w.rest n l ∙ f.unused n l }

-- a form that holds a cell's local form
pub held_form : {S : Sheet} {j p q : ℕ} {form : Form} → Accepted S → IsCell S.k j p q → Tabled S.d (G S j p q) form → CellForm S j p q form.places
held_form a c t = record { accepted = a; cell = c; long = t.long; each = t.each; unused = t.unused }
