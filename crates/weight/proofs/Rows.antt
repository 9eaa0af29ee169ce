-- The rows of a table of coefficients, added one after the other: what holds where the rows before i have been added.
use mathlib.Core.Path.{◌≡◌, sym, ◌∙◌, ap}
use mathlib.Core.List.{List}
use Prim.Native.Nat.{ℕ, ◌+◌, ◌*◌, ◌-◌, ◌/◌, ◌^◌, ◌≤◌, ◌<◌, min}
use native.Mathlib.Omega.{arith}
use lib.IntN.{ℤ}
use lib.ListN.{length}
use Rattle.algebra.specs.Triangle.{row_start, triangle}
use Rattle.algebra.proofs.Places.{row_start_zero, row_start_next, row_start_all, place_all}
use Rattle.weight.specs.Series.{series, sizes}
use Rattle.weight.proofs.Series.{Adding, adding_start, adding_next, adding_end, rows_triangle}

-- the row i, from where it stands in the table
abbrev pub row : List ℤ → ℕ → ℕ → ℕ → ℕ
row coefficients d ry i = series (sizes coefficients (row_start d i)) ry (d - i)

pub record Rows (coefficients : List ℤ) (d rx ry sum scale first i : ℕ) : Type 0 where
  pub here : first ≡ row_start d i
  pub adding : Adding (row coefficients d ry) rx d sum scale i

module _ {coefficients : List ℤ} {d rx ry : ℕ} where
  pub rows_start : Rows coefficients d rx ry 0 1 0 0
  rows_start = record { here = sym (row_start_zero d); adding = adding_start }

  -- the row ends within the table
  pub rows_inside : {sum scale first i : ℕ} → i ≤ d → length coefficients ≡ (d + 1) * (d + 2) / 2 → Rows coefficients d rx ry sum scale first i → first + (d - i) < length coefficients
  rows_inside {sum} {scale} {first} {i} h l p = let k = place_all d i (d - i) (omega arith) in let e = row_start_all d in let q = p.here in omega arith

  pub rows_next : {sum scale first i found term total next : ℕ} → i ≤ d → rx ≤ 2 ^ 62 → found ≡ min (series (sizes coefficients first) ry (d - i)) (2 ^ 62) → term ≡ min (found * scale) (2 ^ 62) → total ≡ min (sum + term) (2 ^ 62)
      → next ≡ min (scale * rx) (2 ^ 62) → Rows coefficients d rx ry sum scale first i → Rows coefficients d rx ry total next (first + (d + 1 - i)) (i + 1)
  rows_next {sum} {scale} {first} {i} h k ef et es en p = record {
    here = let q = p.here in let n = row_start_next d i in omega arith;
    adding = adding_next h k (ef ∙ ap (λ m. min (series (sizes coefficients m) ry (d - i)) (2 ^ 62)) p.here) et es en p.adding;
  }

  pub rows_end : {sum scale first i : ℕ} → d < i → Rows coefficients d rx ry sum scale first i → sum ≡ min (triangle d (λ i j. sizes coefficients (row_start d i) j * rx ^ i * ry ^ j)) (2 ^ 62)
  rows_end h p = adding_end h p.adding ∙ ap (λ x. min x (2 ^ 62)) (rows_triangle (λ i. sizes coefficients (row_start d i)) rx ry d)
