-- What the contracts of this crate's own functions say. None of it is the page's.
use Rattle.std.specs.Prelude.{◌≡◌, List, ℕ, ◌+◌, ◌*◌, ◌-◌, ◌^◌, ◌≤◌, ◌<◌, ℤ, pos, ◌*ℤ◌, nat_abs, length}
use Rattle.algebra.specs.Triangle.{place}
use Rattle.tables.specs.Table.{at}
use Rattle.page.specs.Sheet.{count}

-- ---- `wide_places`: the coefficients from the first place on, and then zeros
pub record Widened (coefficients places : List ℤ) : Type 0 where
  pub long : length places ≡ 45
  pub each : (n : ℕ) → n < length coefficients → at places n ≡ at coefficients n
  pub rest : (n : ℕ) → length coefficients ≤ n → at places n ≡ pos 0

-- ---- `scaled_form`: A(i,j) · 2^((k+1)(d-i-j)), of d, the coefficients and k alone
abbrev pub scaled_by : ℕ → List ℤ → ℕ → ℕ → ℕ → ℤ
scaled_by d A k i j = at A (place d i j) *ℤ pos (2 ^ ((k + 1) * (d - i - j)))

-- each of them fits
pub record Scalable (d : ℕ) (A : List ℤ) (k : ℕ) : Type 0 where
  pub degree : d ≤ 8
  pub depth : k ≤ 7
  pub counted : length A ≡ count d
  pub light : (i j : ℕ) → i + j ≤ d → nat_abs (at A (place d i j)) * 2 ^ ((k + 1) * (d - i - j)) < 2 ^ 62
