-- Tables scaled and halved: what the contracts of `scale` and `halve` say.
use Rattle.std.specs.Prelude.{◌≡◌, List, ℕ, suc, ◌+◌, ◌*◌, ◌-◌, ◌^◌, ◌≤◌, ◌<◌, ℤ, pos, ◌*ℤ◌, nat_abs, length}
use Rattle.std.specs.Int.Signed.{shr_z}
use Rattle.algebra.specs.Triangle.{row_start}
use Rattle.tables.specs.Table.{at, row_of, held}

-- ---- `map_row` and `map_places`: of each place, what R says of what it held and of what it holds
pub record RowMapped (first n : ℕ) (R : ℕ → ℤ → ℤ → Type 0) (old new : List ℤ) : Type 0 where
  pub long : length new ≡ length old
  pub row : (b : ℕ) → b ≤ n → R b (row_of old first b) (row_of new first b)
  pub before : (m : ℕ) → m < first → at new m ≡ at old m
  pub after : (m : ℕ) → first + n < m → at new m ≡ at old m

pub record Mapped (d : ℕ) (R : ℕ → ℕ → ℤ → ℤ → Type 0) (old new : List ℤ) : Type 0 where
  pub long : length new ≡ 45
  pub each : (a b : ℕ) → a + b ≤ d → R a b (held old d a b) (held new d a b)
  pub rest : (n : ℕ) → row_start d (suc d) ≤ n → at new n ≡ at old n

-- ---- `scale`: how often each place is doubled
abbrev pub doublings : ℕ → ℕ → ℕ → ℕ → ℕ
doublings e f t n = e * t + f * n

pub record Scalable (d e f : ℕ) (places : List ℤ) : Type 0 where
  pub long : length places ≡ 45
  pub small : (d ≤ 8) × (e ≤ 17) × (f ≤ 8)
  pub light : (a b : ℕ) → a + b ≤ d → nat_abs (held places d a b) * 2 ^ doublings e f (a + b) (d - a - b) < 2 ^ 62

pub record Scaled (d e f : ℕ) (old new : List ℤ) : Type 0 where
  pub long : length new ≡ 45
  pub each : (a b : ℕ) → a + b ≤ d → held new d a b ≡ held old d a b *ℤ pos (2 ^ doublings e f (a + b) (d - a - b))
  pub rest : (n : ℕ) → row_start d (suc d) ≤ n → at new n ≡ at old n

-- ---- `halve`
pub record Halvable (d : ℕ) (places : List ℤ) : Type 0 where
  pub long : length places ≡ 45
  pub small : d ≤ 8

pub record Halved (d : ℕ) (old new : List ℤ) : Type 0 where
  pub long : length new ≡ 45
  pub each : (a b : ℕ) → a + b ≤ d → held new d a b ≡ shr_z (held old d a b) (2 ^ (a + b))
  pub rest : (n : ℕ) → row_start d (suc d) ≤ n → at new n ≡ at old n
