-- What the contracts of this crate's functions say: bytes painted, and what is seen of a cell. None of it is the page's.
use Rattle.std.specs.Prelude.{◌≡◌, Bool, cond, ◌&&◌, List, ℕ, max, ◌+◌, ◌/◌, ◌%◌, ◌^◌, ◌≤◌, ◌<◌, leb, ltb, eqb, length, get_or}
use Rattle.marks.specs.declared.Seen.{Seen}

-- ---- a list is as long as it was; where `has` says so the entry is the new one, and else the old one
pub record Painted (has : ℕ → Bool) (new : ℕ → ℕ) (old now : List ℕ) : Type 0 where
  pub long : length now ≡ length old
  pub each : (i : ℕ) → i < length old → get_or now i 0 ≡ cond (has i) (new i) (get_or old i 0)

-- `paint_run`: n entries from `at` on
abbrev pub in_run : ℕ → ℕ → ℕ → Bool
in_run at n i = leb at i && ltb i (at + n)

abbrev pub Run : ℕ → ℕ → ℕ → List ℕ → List ℕ → Type 0
Run at n c old now = Painted (in_run at n) (λ i. c) old now

-- `paint_block`: the finest cell of entry i lies in the cell p, q that is n levels above it
abbrev pub in_block : ℕ → ℕ → ℕ → ℕ → ℕ → Bool
in_block k n p q i = eqb (i % 2 ^ k / 2 ^ n) p && eqb (i / 2 ^ k / 2 ^ n) q

abbrev pub Block : ℕ → ℕ → ℕ → ℕ → ℕ → List ℕ → List ℕ → Type 0
Block k n p q c old now = Painted (in_block k n p q) (λ i. c) old now

-- ---- `one_cell` and `cut_cell`
abbrev pub one_seen : ℕ → ℕ → Seen
one_seen colour bend = record { visited = 1; coloured = cond (eqb colour 1) 1 0; bend = cond (eqb colour 1) bend 0 }

abbrev pub cut_seen : Seen → Seen → Seen → Seen → Seen
cut_seen a b c d = record {
  visited = 1 + a.visited + b.visited + c.visited + d.visited;
  coloured = a.coloured + b.coloured + c.coloured + d.coloured;
  bend = max (max a.bend b.bend) (max c.bend d.bend);
}

-- at most as many as a whole sheet of depth 7 has
pub record Few (r : Seen) : Type 0 where
  pub visits : r.visited ≤ 21_845
  pub colours : r.coloured ≤ 16_384
