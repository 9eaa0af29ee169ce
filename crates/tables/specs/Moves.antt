-- Tables moved: what the contracts of `add_run`, of the moves of rows and columns, and of whole tables say.
use Rattle.std.specs.Prelude.{◌≡◌, List, ℕ, suc, ◌+◌, ◌*◌, ◌-◌, ◌^◌, ◌≤◌, ◌<◌, ℤ, pos, ◌+ℤ◌, ◌*ℤ◌, nat_abs, length}
use Rattle.algebra.specs.Sum.{sumℕ, ◌⋯◌}
use Rattle.algebra.specs.Triangle.{row_start, triangle}
use Rattle.algebra.specs.Horner.{shifted, load}
use Rattle.forms.specs.Plane.{along, across, moved}
use Rattle.tables.specs.Table.{at, row_of, held_from, held}

-- ---- `add_run`: s times a run from `from` on is added to the run from `to` on, and all else stays
pub record Addable (to from count : ℕ) (s : ℤ) (places : List ℤ) : Type 0 where
  pub above : to < from
  pub inside : from + count ≤ length places
  pub light : (c : ℕ) → c < count → nat_abs (at places (to + c)) + nat_abs s * nat_abs (at places (from + c)) < 2 ^ 63

pub record Added (to from count : ℕ) (s : ℤ) (old new : List ℤ) : Type 0 where
  pub long : length new ≡ length old
  pub run : (c : ℕ) → c < count → at new (to + c) ≡ at old (to + c) +ℤ s *ℤ at old (from + c)
  pub before : (m : ℕ) → m < to → at new m ≡ at old m
  pub after : (m : ℕ) → to + count ≤ m → at new m ≡ at old m

-- ---- `move_row`: the row of n + 1 places from `first` on, moved by s; the sizes leave room for Horner's rule
pub record RowMovable (first n : ℕ) (s : ℤ) (places : List ℤ) : Type 0 where
  pub inside : first + n < length places
  pub light : (j : ℕ) → load (row_of places first) (nat_abs s + 1) n j < 2 ^ 63

pub record RowMoved (first n : ℕ) (s : ℤ) (old new : List ℤ) : Type 0 where
  pub long : length new ≡ length old
  pub row : (a : ℕ) → a ≤ n → at new (first + a) ≡ shifted (row_of old first) s (pos 1) n 0 a
  pub before : (m : ℕ) → m < first → at new m ≡ at old m
  pub after : (m : ℕ) → first + n < m → at new m ≡ at old m

-- ---- `move_rows`: the second variable moved by s, in the table of degree d from `start` on
pub record RowsMovable (start d : ℕ) (s : ℤ) (places : List ℤ) : Type 0 where
  pub inside : start + row_start d (suc d) ≤ length places
  pub light : (i : ℕ) → i ≤ d → sumℕ (0 ⋯ (d - i)) (λ j. nat_abs (held_from places start d i j) * (nat_abs s + 1) ^ j) < 2 ^ 63

pub record RowsMoved (start d : ℕ) (s : ℤ) (old new : List ℤ) : Type 0 where
  pub long : length new ≡ length old
  pub each : (i b : ℕ) → i + b ≤ d → held_from new start d i b ≡ along d (held_from old start d) s i b
  pub before : (m : ℕ) → m < start → at new m ≡ at old m
  pub after : (m : ℕ) → start + row_start d (suc d) ≤ m → at new m ≡ at old m

-- ---- `add_rows`: to each row but the last of a table of degree n from `first` on, s times the next row, which is one place shorter
pub record RowsAddable (first n : ℕ) (s : ℤ) (places : List ℤ) : Type 0 where
  pub inside : first + row_start n (suc n) ≤ length places
  pub light : (a b : ℕ) → a + b < n → nat_abs (held_from places first n a b) + nat_abs s * nat_abs (held_from places first n (suc a) b) < 2 ^ 63

pub record RowsAdded (first n : ℕ) (s : ℤ) (old new : List ℤ) : Type 0 where
  pub long : length new ≡ length old
  pub added : (a b : ℕ) → a + b < n → held_from new first n a b ≡ held_from old first n a b +ℤ s *ℤ held_from old first n (suc a) b
  pub last : (a b : ℕ) → a + b ≡ n → held_from new first n a b ≡ held_from old first n a b
  pub before : (m : ℕ) → m < first → at new m ≡ at old m
  pub after : (m : ℕ) → first + row_start n (suc n) ≤ m → at new m ≡ at old m

-- ---- `move_columns`: the first variable moved by s
pub record ColumnsMovable (start d : ℕ) (s : ℤ) (places : List ℤ) : Type 0 where
  pub inside : start + row_start d (suc d) ≤ length places
  pub light : (b : ℕ) → b ≤ d → sumℕ (0 ⋯ (d - b)) (λ i. nat_abs (held_from places start d i b) * (nat_abs s + 1) ^ i) < 2 ^ 63

pub record ColumnsMoved (start d : ℕ) (s : ℤ) (old new : List ℤ) : Type 0 where
  pub long : length new ≡ length old
  pub each : (a b : ℕ) → a + b ≤ d → held_from new start d a b ≡ across d (held_from old start d) s a b
  pub before : (m : ℕ) → m < start → at new m ≡ at old m
  pub after : (m : ℕ) → start + row_start d (suc d) ≤ m → at new m ≡ at old m

-- ---- `move_table` and `to_part`: both variables moved, with a at least |u| + 1 and b at least |v| + 1
pub record Movable (d : ℕ) (u v : ℤ) (places : List ℤ) : Type 0 where
  pub inside : row_start d (suc d) ≤ length places
  pub a : ℕ
  pub b : ℕ
  pub wide : (nat_abs u + 1 ≤ a) × (nat_abs v + 1 ≤ b)
  pub light : triangle d (λ i j. nat_abs (held places d i j) * (a ^ i * b ^ j)) < 2 ^ 63

pub record Moved (d : ℕ) (u v : ℤ) (old new : List ℤ) : Type 0 where
  pub long : length new ≡ length old
  pub each : (a b : ℕ) → a + b ≤ d → held new d a b ≡ moved d (held old d) u v (pos 1) a b
  pub rest : (n : ℕ) → row_start d (suc d) ≤ n → at new n ≡ at old n
