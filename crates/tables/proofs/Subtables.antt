-- The rows i, i + 1, .. of a table of degree d are a table of degree d - i: where its rows start in the whole.
use mathlib.Core.Path.{◌≡◌, ◌∙◌, ap}
use Prim.Native.Nat.{ℕ, zero, suc, ◌+◌, ◌*◌, ◌-◌, ◌/◌, ◌≤◌}
use native.Mathlib.Nat as Nat
use native.Mathlib.Omega.{arith}
use Rattle.algebra.specs.Triangle.{row_start}
use Rattle.algebra.proofs.Places.{row_start_zero, row_start_next}

-- one row more, with suc i for i + 1
pub row_start_suc : (d i : ℕ) → row_start d (suc i) ≡ row_start d i + suc (d - i)
row_start_suc d i = ap (row_start d) (omega arith) ∙ row_start_next d i

-- the row a of that table is the row i + a of the whole
pub row_start_under : (d i a : ℕ) → row_start d (i + a) ≡ row_start d i + row_start (d - i) a
row_start_under d i zero = let z = row_start_zero (d - i) in let e : row_start d (i + 0) ≡ row_start d i = ap (row_start d) (omega arith) in omega arith
row_start_under d i (suc a) =
    let h = row_start_under d i a in let m = row_start_suc d (i + a) in let n = row_start_suc (d - i) a in
    let e : row_start d (i + suc a) ≡ row_start d (suc (i + a)) = ap (row_start d) (omega arith) in omega arith

-- a table has at least the places of its first row
pub first_row_inside : (d : ℕ) → d + 1 ≤ (d + 1) * (d + 2) / 2
first_row_inside d = let m : (d + 1) * 2 ≤ (d + 1) * (d + 2) = Nat.mul-le-mul_left (d + 1) (omega arith) in omega arith
