-- The local form as one value: what a form holds.
use Rattle.std.specs.Prelude.{◌≡◌, ℕ, suc, ◌+◌, ◌≤◌, ℤ, pos, length}
use Rattle.algebra.specs.Triangle.{row_start}
use Rattle.tables.specs.Table.{at, held}
use Rattle.local.specs.declared.Form.{Form}

-- the form has the degree d and holds f(i,j), i + j ≤ d; the places not used are zero
pub record Tabled (d : ℕ) (f : ℕ → ℕ → ℤ) (form : Form) : Type 0 where
  pub degree : form.degree ≡ d
  pub long : length form.places ≡ 45
  pub each : (i j : ℕ) → i + j ≤ d → held form.places d i j ≡ f i j
  pub unused : (n : ℕ) → row_start d (suc d) ≤ n → at form.places n ≡ pos 0
