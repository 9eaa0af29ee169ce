-- Both variables moved: the second, row by row, and then the first. The sizes leave room for each, and the table is then the one that is moved by both.
use mathlib.Core.Path.{◌≡◌, sym, ◌∙◌, ap}
use mathlib.Core.List.{List}
use Prim.Native.Nat.{ℕ, suc, ◌+◌, ◌*◌, ◌-◌, ◌^◌, ◌≤◌}
use native.Mathlib.Nat as Nat
use native.Mathlib.Omega.{arith}
use lib.IntN.{ℤ, nat_abs}
use Rattle.algebra.specs.Sum.{sumℕ, ◌⋯◌}
use Rattle.algebra.specs.Triangle.{row_start, place}
use Rattle.algebra.proofs.Sum.{sumℕ_cong, sumℕ_mono}
use Rattle.algebra.proofs.Run.{⋯_member}
use Rattle.forms.specs.Plane.{along}
use Rattle.forms.proofs.Moves.{moved_both, along_load, across_load, along_agree, across_agree}
use Rattle.tables.specs.Table.{at, held_from, held}
use Rattle.tables.specs.Moves.{RowsMovable, RowsMoved, ColumnsMovable, ColumnsMoved, Movable, Moved}

-- the table from the first place on
from_first : (places : List ℤ) (d i j : ℕ) → held_from places 0 d i j ≡ held places d i j
from_first places d i j = ap (at places) (Nat.zero-add (place d i j))

module _ {d : ℕ} {u v : ℤ} {old : List ℤ} (m : Movable d u v old) where
  -- a sum over sizes is no larger with a smaller base
  smaller : (n s : ℕ) (f : ℕ → ℤ) {b : ℕ} → s ≤ b → sumℕ (0 ⋯ n) (λ j. nat_abs (f j) * s ^ j) ≤ sumℕ (0 ⋯ n) (λ j. nat_abs (f j) * b ^ j)
  smaller n s f l = sumℕ_mono (0 ⋯ n) (λ j k. Nat.mul-le-mul_left (nat_abs (f j)) (Nat.pow-le-pow_left l j))

  pub rows_first : RowsMovable 0 d v old
  rows_first = record {
    inside = let h = m.inside in omega arith;
    light = λ i l.
        let f : ℕ → ℤ = λ j. held old d i j in
        let o : 1 ≤ m.a = let w = m.wide.0 in omega arith in
        let same : sumℕ (0 ⋯ (d - i)) (λ j. nat_abs (held_from old 0 d i j) * (nat_abs v + 1) ^ j) ≡ sumℕ (0 ⋯ (d - i)) (λ j. nat_abs (f j) * (nat_abs v + 1) ^ j) =
        sumℕ_cong (0 ⋯ (d - i)) (λ j k. ap (λ z. nat_abs z * (nat_abs v + 1) ^ j) (from_first old d i j)) in
        let s = smaller (d - i) (nat_abs v + 1) f m.wide.1 in let t = along_load d (held old d) m.a m.b o i l in let h = m.light in omega arith;
  }

  module _ {mid : List ℤ} (r : RowsMoved 0 d v old mid) where
    -- the rows moved
    here : (i b : ℕ) → i + b ≤ d → held mid d i b ≡ along d (held old d) v i b
    here i b l = sym (from_first mid d i b) ∙ r.each i b l ∙ along_agree d (held_from old 0 d) (held old d) v (λ i j k. from_first old d i j) i b (omega arith)

    pub columns_then : ColumnsMovable 0 d u mid
    columns_then = record {
      inside = let h = m.inside in let k = r.long in omega arith;
      light = λ b l.
          let f : ℕ → ℤ = λ i. along d (held old d) v i b in
          let same : sumℕ (0 ⋯ (d - b)) (λ i. nat_abs (held_from mid 0 d i b) * (nat_abs u + 1) ^ i) ≡ sumℕ (0 ⋯ (d - b)) (λ i. nat_abs (f i) * (nat_abs u + 1) ^ i) =
          sumℕ_cong (0 ⋯ (d - b)) (λ i k. let e = ⋯_member 0 (d - b) k in ap (λ z. nat_abs z * (nat_abs u + 1) ^ i) (from_first mid d i b ∙ here i b (omega arith))) in
          let s = smaller (d - b) (nat_abs u + 1) f m.wide.0 in let t = across_load d (held old d) m.a m.b v m.wide.1 b in let h = m.light in omega arith;
    }

    pub moved_then : {new : List ℤ} → ColumnsMoved 0 d u mid new → Moved d u v old new
    moved_then {new} c = record {
      long = c.long ∙ r.long;
      each = λ a b l. sym (from_first new d a b) ∙ c.each a b l ∙ across_agree d (held_from mid 0 d) (along d (held old d) v) u (λ i j k. from_first mid d i j ∙ here i j k) a b (omega arith) ∙ moved_both d (held old d) u v a b;
      rest = λ n l. let h : 0 + row_start d (suc d) ≤ n = omega arith in c.after n h ∙ r.after n h;
    }
