-- The records tell what the raster tells: each finest cell is covered by one record, which has its colour.
use mathlib.Core.Path.{◌≡◌, sym, ◌∙◌, ap}
use mathlib.Core.Bool.{◌&&◌, cond}
use mathlib.Core.List.{List, [], ◌∷◌, map}
use Prim.Native.Nat.{ℕ, suc, ◌+◌, ◌-◌, ◌/◌, ◌%◌, ◌^◌, ◌≤◌, ◌<◌}
use native.Mathlib.Nat as Nat
use native.Mathlib.Numerals.{add-one}
use native.Mathlib.Omega.{arith}
use lib.Dec.{eqb, lit<}
use lib.Pow.{pow_pos, pow_mono}
use borrow.Author.Tests.{eqb-true}
use Rattle.algebra.specs.Sum.{span}
use Rattle.algebra.proofs.Choice.{cond_ap, cond_when, and_left, and_right}
use Rattle.algebra.proofs.Run.{span_member}
use Rattle.verdicts.specs.Walking.{Verdicts, in_turn, those, record_of, raster}
use Rattle.verdicts.specs.Facts.{level_in, column_in, row_in, covers, unfolded_at, unfolded, OneRecordEach, SameStory}
use Rattle.verdicts.specs.Operational.{records_from, colour_from}
use Rattle.verdicts.proofs.Cells.{walk_induction, records_cleared, records_last, records_open, colour_cleared, colour_last, colour_open}
use Rattle.verdicts.proofs.Colours.{colour_is, colour_of_small}
use Rattle.verdicts.proofs.Lists.{flat_map_one}
use Rattle.verdicts.proofs.Parts.{half_of, Halves, even, odd, neither, halves, in_turn_cong, those_in_turn, map_in_turn}
use Rattle.verdicts.proofs.Listing.{records_are}
use Rattle.verdicts.proofs.Bytes.{row_below}

-- ---- the four parts of a cell cover what the cell covers, each finest cell once
joined : (c u a v b : ℕ) → Halves u a → Halves v b
    → in_turn (λ i j. cond (eqb u i && eqb v j) (c ∷ []) []) a b ≡ cond (eqb (u / 2) a && eqb (v / 2) b) (c ∷ []) []
joined c u a v b (even x y z) (even r s t) = simp (x, y, z, r, s, t)
joined c u a v b (even x y z) (odd r s t) = simp (x, y, z, r, s, t)
joined c u a v b (even x y z) (neither r s t) = simp (x, y, z, r, s, t)
joined c u a v b (odd x y z) (even r s t) = simp (x, y, z, r, s, t)
joined c u a v b (odd x y z) (odd r s t) = simp (x, y, z, r, s, t)
joined c u a v b (odd x y z) (neither r s t) = simp (x, y, z, r, s, t)
joined c u a v b (neither x y z) (even r s t) = simp (x, y, z, r, s, t)
joined c u a v b (neither x y z) (odd r s t) = simp (x, y, z, r, s, t)
joined c u a v b (neither x y z) (neither r s t) = simp (x, y, z, r, s, t)

-- ---- one record tells its cell and its colour
pub record Told (r c level a b : ℕ) : Type 0 where
  pub depth : level_in r ≡ level
  pub across : column_in r ≡ a
  pub up : row_in r ≡ b
  pub painted : r % 4 ≡ c

pub told : (c level a b : ℕ) → c ≤ 3 → a < 128 → b < 128 → Told (record_of c level a b) c level a b
told c level a b h i j = record { depth = omega arith; across = omega arith; up = omega arith; painted = omega arith }

module _ (k x y : ℕ) where
  one_record : (c level a b : ℕ) → c ≤ 3 → a < 128 → b < 128
      → unfolded_at k (record_of c level a b ∷ []) x y ≡ cond (eqb (x / 2 ^ (k - level)) a && eqb (y / 2 ^ (k - level)) b) (c ∷ []) []
  unfolding those
  one_record c level a b h i j =
      let t = told c level a b h i j in
      cond_ap (map (λ r. r % 4)) (covers k x y (record_of c level a b)) (record_of c level a b ∷ []) []
      ∙ rw (t.depth, t.across, t.up, t.painted)

  -- a colour may be rewritten where the cell a, b that is n levels up covers the finest cell x, y
  covered : (n a b : ℕ) {c d : ℕ} → (x / 2 ^ n ≡ a → y / 2 ^ n ≡ b → c ≡ d)
      → cond (eqb (x / 2 ^ n) a && eqb (y / 2 ^ n) b) (c ∷ []) [] ≡ cond (eqb (x / 2 ^ n) a && eqb (y / 2 ^ n) b) (d ∷ []) []
  covered n a b h = cond_when (eqb (x / 2 ^ n) a && eqb (y / 2 ^ n) b) [] (λ t.
      ap (λ d. d ∷ []) (h (eqb-true _ _ (and_left (eqb (x / 2 ^ n) a) (eqb (y / 2 ^ n) b) t)) (eqb-true _ _ (and_right (eqb (x / 2 ^ n) a) (eqb (y / 2 ^ n) b) t))))

  -- of the records of a cell one covers the finest cell x, y if the cell does, and else none
  abbrev told_by : Verdicts → ℕ → ℕ → ℕ → ℕ → Type 0
  told_by v level n a b = level + n ≡ k → a < 2 ^ level → b < 2 ^ level
      → unfolded_at k (records_from v level n a b) x y ≡ cond (eqb (x / 2 ^ n) a && eqb (y / 2 ^ n) b) (colour_from v level n x y ∷ []) []

  -- the cell has one record
  told_alone : (v : Verdicts) (level n a b c : ℕ) → k ≤ 7 → c ≤ 3 → records_from v level n a b ≡ record_of c level a b ∷ []
      → (x / 2 ^ n ≡ a → y / 2 ^ n ≡ b → colour_from v level n x y ≡ c) → told_by v level n a b
  told_alone v level n a b c small s e f h i j =
      let left : k - level ≡ n = omega arith in
      let deep : level ≤ 7 = omega arith in
      let side : 2 ^ level ≤ 128 = pow_mono deep in
      ap (λ l. unfolded_at k l x y) e
      ∙ one_record c level a b s (omega arith) (omega arith)
      ∙ rw left (covered n a b (λ i j. sym (f i j)))

  -- or those of its four parts
  told_parts : (g : ℕ → ℕ → List ℕ) (n a b c : ℕ)
      → ((i j : ℕ) → i / 2 ≡ a → j / 2 ≡ b → unfolded_at k (g i j) x y ≡ cond (eqb (x / 2 ^ n) i && eqb (y / 2 ^ n) j) (c ∷ []) [])
      → unfolded_at k (in_turn g a b) x y ≡ cond (eqb (x / 2 ^ suc n) a && eqb (y / 2 ^ suc n) b) (c ∷ []) []
  told_parts g n a b c h =
      ap (map (λ r. r % 4)) (those_in_turn g a b (covers k x y))
      ∙ map_in_turn (λ i j. those (covers k x y) (g i j)) a b (λ r. r % 4)
      ∙ in_turn_cong _ (λ i j. cond (eqb (x / 2 ^ n) i && eqb (y / 2 ^ n) j) (c ∷ []) []) a b h
      ∙ joined c (x / 2 ^ n) a (y / 2 ^ n) b (halves (x / 2 ^ n) a) (halves (y / 2 ^ n) b)
      ∙ rw (half_of x n, half_of y n)

  told_under : (v : Verdicts) → k ≤ 7 → (level n a b : ℕ) → told_by v level n a b
  told_under v small = walk_induction v (told_by v)
      (λ level n a b c s. told_alone v level n a b c small (rw s.painted at (colour_of_small (v level a b ∷ [])))
      (records_cleared v level a b s n) (colour_cleared v level a b s n x y))
      (λ level a b s. told_alone v level 0 a b 1 small (omega arith) (records_last v level a b s) (colour_last v level a b s x y))
      (λ level n a b s h e i j.
      let side : 2 ^ (level + 1) ≡ 2 ^ level + 2 ^ level = ap (λ m. 2 ^ m) (add-one level) ∙ Nat.two-pow-succ level in
      ap (λ l. unfolded_at k l x y) (records_open v level a b s n)
      ∙ told_parts (records_from v (level + 1) n) n a b (colour_from v (level + 1) n x y)
      (λ p q f g. h p q f g (omega arith) (omega arith) (omega arith))
      ∙ covered (suc n) a b (λ i j. sym (colour_open v level a b s n x y i j)))

pub one_record_each : OneRecordEach
one_record_each v k p q small h i =
    ap (λ l. unfolded_at k l p q) (sym (records_are v k))
    ∙ told_under k p q v small 0 k 0 0 (Nat.zero-add k) (lit< tt) (lit< tt)
    ∙ rw (Nat.div-eq_of_lt h, Nat.div-eq_of_lt i) (ap (λ c. c ∷ []) (colour_is v k p q))

-- ---- so unfolding the records gives the raster
pub same_story : SameStory
unfolding unfolded raster
same_story v k small = flat_map_one (span 0 (4 ^ k)) (λ n m.
    let (l, h) = span_member 0 (4 ^ k) m in
    one_record_each v k (n % 2 ^ k) (n / 2 ^ k) small (Nat.mod-lt n (pow_pos k)) (row_below k n h))
