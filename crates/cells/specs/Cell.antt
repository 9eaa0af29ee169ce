-- The local form of a cell on the machine: what the contracts of the walk say. None of it is the page's but what it cites.
use Rattle.std.specs.Prelude.{◌≡◌, List, ℕ, suc, ◌+◌, ◌*◌, ◌≤◌, ℤ, pos, nat_abs, length}
use Rattle.forms.specs.Plane.{moved}
use Rattle.algebra.specs.Triangle.{row_start}
use Rattle.tables.specs.Table.{at, held}
use Rattle.tables.specs.Moves.{Movable}
use Rattle.page.specs.Sheet.{Sheet}
use Rattle.page.specs.Scaled.{IsCell}
use Rattle.page.specs.LocalForm.{G}
use Rattle.page.specs.Weight.{Accepted}
use Rattle.cells.specs.declared.cell.Cell.{Cell}

-- the places hold the local form of a cell of an accepted sheet, and zeros after it
pub record CellForm (S : Sheet) (j p q : ℕ) (places : List ℤ) : Type 0 where
  pub accepted : Accepted S
  pub cell : IsCell S.k j p q
  pub long : length places ≡ 45
  pub each : (a b : ℕ) → a + b ≤ S.d → held places S.d a b ≡ G S j p q a b
  pub unused : (n : ℕ) → row_start S.d (suc S.d) ≤ n → at places n ≡ pos 0

-- they hold a table that has only to be moved by `across` and `along`, each -1, 0 or 1, to be the local form of the cell
pub record Near (S : Sheet) (j p q : ℕ) (across along : ℤ) (places : List ℤ) : Type 0 where
  pub accepted : Accepted S
  pub cell : IsCell S.k j p q
  pub long : length places ≡ 45
  pub sides : (nat_abs across ≤ 1) × (nat_abs along ≤ 1)
  pub movable : Movable S.d across along places
  pub each : (a b : ℕ) → a + b ≤ S.d → moved S.d (held places S.d) across along (pos 1) a b ≡ G S j p q a b
  pub unused : (n : ℕ) → row_start S.d (suc S.d) ≤ n → at places n ≡ pos 0

-- ---- a part of a cell: on its left or its right, 0 or 1, and so below or above
pub record PartOf (cell : Cell) (right above : ℕ) (part : Cell) : Type 0 where
  pub level : part.level ≡ cell.level + 1
  pub column : part.column ≡ 2 * cell.column + right
  pub row : part.row ≡ 2 * cell.row + above
