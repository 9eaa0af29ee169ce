-- The records that the walk writes are the page's listing.
use mathlib.Core.Path.{◌≡◌, refl, sym, ◌∙◌, ap}
use mathlib.Core.Bool.{Bool, true, false, not, ◌&&◌, ◌||◌, cond, and_assoc}
use mathlib.Core.Logic.{inl, inr}
use mathlib.Core.List.Memᴰ
use mathlib.Core.List.{List, [], ◌∷◌, map, Memᴰ}
use Prim.Native.Nat.{ℕ, zero, suc, ◌+◌, ◌-◌, ◌/◌, ◌^◌, ◌≤◌, ◌<◌}
use native.Mathlib.Nat as Nat
use native.Mathlib.Omega.{arith}
use lib.Dec.{eqb}
use borrow.Author.Tests.{eq-eqb, ne_eqb}
use Rattle.algebra.proofs.Run.{span_none}
use Rattle.verdicts.specs.Walking.{Verdicts, is_open, colour_of, Cell, cell, in_turn, walking_order, those, record_of, records, record_at}
use Rattle.verdicts.specs.Operational.{records_from}
use Rattle.verdicts.proofs.Cells.{levels_below, walk_induction, records_cleared, records_last, records_open}
use Rattle.verdicts.proofs.Lists.{those_first, those_cong, those_none}
use Rattle.verdicts.proofs.Parts.{half_of, below_side, in_turn_cong, in_turn_member, those_in_turn, map_in_turn}
use Rattle.verdicts.proofs.Levels.{open_from, open_first}

-- ---- the cells in walking order, of n further levels from a cell on, lie inside it
record Inside (n level p q : ℕ) (c : Cell) : Type 0 where
  deep : level ≤ c.level
  reached : c.level ≤ level + n
  across : c.column / 2 ^ (c.level - level) ≡ p
  up : c.row / 2 ^ (c.level - level) ≡ q

inside_self : (n level p q : ℕ) → Inside n level p q (cell level p q)
inside_self n level p q =
    let e : level - level ≡ 0 = omega arith in
    record { deep = Nat.le_refl level; reached = omega arith; across = rw e (Nat.div-one p); up = rw e (Nat.div-one q) }

-- what lies a level deeper in half a column lies in the column
halved : (level j x a p : ℕ) → level < j → a / 2 ≡ p → x / 2 ^ (j - (level + 1)) ≡ a → x / 2 ^ (j - level) ≡ p
halved level j x a p l e f =
    rw (levels_below l, ← half_of x (j - (level + 1)), f) e

inside_part : (n level p q a b : ℕ) (c : Cell) → a / 2 ≡ p → b / 2 ≡ q → Inside n (level + 1) a b c → Inside (suc n) level p q c
inside_part n level p q a b c e f i =
    let d = i.deep in
    let r = i.reached in
    record {
      deep = omega arith;
      reached = omega arith;
      across = halved level c.level c.column a p (omega arith) e i.across;
      up = halved level c.level c.row b q (omega arith) f i.up;
    }

-- the cells after the first
abbrev later : ℕ → ℕ → ℕ → ℕ → List Cell
later zero level p q = []
later (suc n) level p q = in_turn (walking_order n (level + 1)) p q

order_first : (n level p q : ℕ) → walking_order n level p q ≡ cell level p q ∷ later n level p q
unfolding walking_order
order_first zero level p q = refl
order_first (suc n) level p q = refl

later_inside : (n level p q : ℕ) (c : Cell) → Memᴰ c (later n level p q) → (level < c.level) × Inside n level p q c
later_inside zero level p q c m = absurd (Memᴰ.not-nil m)
later_inside (suc n) level p q c m = in_turn_member (walking_order n (level + 1)) p q (λ c. (level < c.level) × Inside (suc n) level p q c) (λ a b e f c m.
    let i : Inside n (level + 1) a b c = elim (Memᴰ.cases_cons (rw (order_first n (level + 1) a b) at m)) [
      | inl s ↦ rw s (inside_self n (level + 1) a b)
      | inr r ↦ (later_inside n (level + 1) a b c r).1
    ] in
    (let d = i.deep in omega arith, inside_part n level p q a b c e f i)) c m

-- so those from the cell at level 0 on are cells of the grid
walked_inside : (k : ℕ) (c : Cell) → Memᴰ c (walking_order k 0 0 0) → Inside k 0 0 0 c
walked_inside k c m = elim (Memᴰ.cases_cons (rw (order_first k 0 0 0) at m)) [
  | inl s ↦ rw s (inside_self k 0 0 0)
  | inr r ↦ (later_inside k 0 0 0 c r).1
]

pub walked_on_grid : (k : ℕ) (c : Cell) → Memᴰ c (walking_order k 0 0 0) → (c.level ≤ k) × (c.column < 2 ^ c.level) × (c.row < 2 ^ c.level)
walked_on_grid k c m = let i = walked_inside k c m in (omega (arith, i.reached), below_side _ _ (rw Nat.sub-zero at i.across), below_side _ _ (rw Nat.sub-zero at i.up))

-- ---- the cells that are listed, as the cells from `level` on decide it
abbrev listed_from : Verdicts → ℕ → ℕ → Cell → Bool
listed_from v k level c = open_from v level c.level c.column c.row && (not (is_open (v c.level c.column c.row)) || eqb c.level k)

-- the records of the cells that are listed, of those in walking order from a cell on
abbrev listing_from : Verdicts → ℕ → ℕ → ℕ → ℕ → ℕ → List ℕ
listing_from v k level n p q = map (record_at v) (those (listed_from v k level) (walking_order n level p q))

module _ (v : Verdicts) (k level p q : ℕ) where
  -- the cell itself is listed if it is cleared or of level k
  first_listed : (n : ℕ) (b : Bool) → (not (is_open (v level p q)) || eqb level k) ≡ b → those (listed_from v k level) (walking_order n level p q)
      ≡ cond b (cell level p q ∷ those (listed_from v k level) (later n level p q)) (those (listed_from v k level) (later n level p q))
  first_listed n b h =
      ap (those (listed_from v k level)) (order_first n level p q)
      ∙ those_first (listed_from v k level) (cell level p q) (later n level p q) b (rw (span_none level level (Nat.le_refl level)) h)

  -- the later ones if it is open
  later_listed : (n : ℕ) (b : Bool) → is_open (v level p q) ≡ b
      → those (listed_from v k level) (later n level p q) ≡ those (λ c. b && listed_from v k (level + 1) c) (later n level p q)
  later_listed n b o = those_cong (later n level p q) (λ c m.
      let (d, i) = later_inside n level p q c m in
      ap (λ t. t && (not (is_open (v c.level c.column c.row)) || eqb c.level k))
      (open_first v level c.level c.column c.row p q b d i.across i.up o)
      ∙ and_assoc b _ _)

  -- it alone
  one_listed : (n c : ℕ) → (not (is_open (v level p q)) || eqb level k) ≡ true → those (listed_from v k level) (later n level p q) ≡ []
      → colour_of (v level p q ∷ []) ≡ c → listing_from v k level n p q ≡ record_of c level p q ∷ []
  one_listed n c h none e =
      ap (map (record_at v)) (first_listed n true h ∙ ap (λ l. cell level p q ∷ l) none) ∙ ap (λ d. record_of d level p q ∷ []) e

listing_under : (v : Verdicts) (k level n p q : ℕ) → level + n ≡ k → listing_from v k level n p q ≡ records_from v level n p q
unfolding those
listing_under v k = walk_induction v (λ level n p q. level + n ≡ k → listing_from v k level n p q ≡ records_from v level n p q)
    (λ level n p q c s e.
    one_listed v k level p q n c (ap (λ b. not b || eqb level k) s.closed)
    (later_listed v k level p q n false s.closed ∙ those_none (later n level p q)) s.painted
    ∙ sym (records_cleared v level p q s n))
    (λ level p q s e.
    one_listed v k level p q 0 1 (ap (λ b. not b || eqb level k) s.free ∙ eq-eqb level k (omega arith)) refl s.coloured
    ∙ sym (records_last v level p q s))
    (λ level n p q s h e.
    ap (map (record_at v)) (first_listed v k level p q (suc n) false (ap (λ b. not b || eqb level k) s.free ∙ ne_eqb level k (λ z. omega arith))
    ∙ later_listed v k level p q (suc n) true s.free
    ∙ those_in_turn (walking_order n (level + 1)) p q (listed_from v k (level + 1)))
    ∙ map_in_turn (λ a b. those (listed_from v k (level + 1)) (walking_order n (level + 1) a b)) p q (record_at v)
    ∙ in_turn_cong _ _ p q (λ a b i j. h a b i j (omega arith))
    ∙ sym (records_open v level p q s n))

pub records_are : (v : Verdicts) (k : ℕ) → records_from v 0 k 0 0 ≡ records v k
unfolding records
records_are v k = sym (listing_under v k 0 k 0 0 (Nat.zero-add k))
