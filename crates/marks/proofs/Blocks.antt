-- A block of entries, row by row: which entries a run of one row has, and what holds where the first rows are painted.
use mathlib.Core.Path.{◌≡◌, refl, sym, ap, ◌∙◌, subst}
use mathlib.Core.Bool.{Bool, true, false, cond, ◌&&◌, ◌||◌, false≢true}
use mathlib.Core.List.{List}
use Prim.Native.Nat.{ℕ, zero, ◌+◌, ◌-◌, ◌*◌, ◌/◌, ◌%◌, ◌^◌, ◌≤◌, ◌<◌}
use native.Mathlib.Nat.{suc-mul, mul-le-mul_right, div-add-mod', mod-lt, div-mul-le_self, lt-div-mul-add, add_assoc}
use native.Mathlib.Omega.{arith}
use lib.ListN.{get_or}
use lib.Pow.{pow_pos, pow-add}
use lib.Arith.{digits_div, digits_mod}
use lib.Dec.{ltb, eqb}
use borrow.Author.Tests.{ltb-true, eqb-true, lt-ltb, le-ltb, eq-eqb, ne_eqb}
use native.Mathlib.Decide.{dec_lt, ℕ_discrete}
use Rattle.algebra.proofs.Choice.{same_test, and_left, and_right, and_both}
use Rattle.algebra.proofs.Power.{*_pow}
use Rattle.page.specs.Scaled.{IsCell}
use Rattle.marks.specs.Steps.{Painted, in_run, Run, in_block, Block}
use Rattle.marks.proofs.Picks.{pick_more}
use Rattle.marks.proofs.Runs.{run_from, run_to, run_has}

-- the columns of a cell end within the grid
pub columns_end : (k level p : ℕ) → level ≤ k → p < 2 ^ level → p * 2 ^ (k - level) + 2 ^ (k - level) ≤ 2 ^ k
columns_end k level p l h =
    let e : level + (k - level) ≡ k = omega arith in
    subst (λ n. p * 2 ^ (k - level) + 2 ^ (k - level) ≤ 2 ^ n) e
    (subst (λ n. p * 2 ^ (k - level) + 2 ^ (k - level) ≤ n) (sym (pow-add 2 level (k - level)))
    (subst (λ n. n ≤ 2 ^ level * 2 ^ (k - level)) (suc-mul p (2 ^ (k - level))) (mul-le-mul_right (2 ^ (k - level)) h)))

-- an entry is in a row's run where its row is that one and its column is in the cell
row_of : (n s p y i : ℕ) → p * s + s ≤ n → y * n + p * s ≤ i → i < y * n + p * s + s → i / n ≡ y
row_of n s p y i r f t =
    let a : i ≡ y * n + (p * s + (i - (y * n + p * s))) = omega arith in
    let l : p * s + (i - (y * n + p * s)) < n = omega arith in
    ap (λ j. j / n) a ∙ digits_div y l

column_of : (n s p y i : ℕ) → p * s + s ≤ n → y * n + p * s ≤ i → i < y * n + p * s + s → i % n / s ≡ p
column_of n s p y i r f t =
    let a : i ≡ y * n + (p * s + (i - (y * n + p * s))) = omega arith in
    let l : p * s + (i - (y * n + p * s)) < n = omega arith in
    let m : i - (y * n + p * s) < s = omega arith in
    ap (λ j. j % n / s) a ∙ ap (λ j. j / s) (digits_mod y l) ∙ digits_div p m

within : (n s p y i : ℕ) → zero < s → i / n ≡ y → i % n / s ≡ p → (y * n + p * s ≤ i) × (i < y * n + p * s + s)
within n s p y i l e f =
    omega (arith, ap (λ j. j * n) e, ap (λ j. j * s) f, div-add-mod' i n, div-add-mod' (i % n) s, mod-lt (i % n) l)

row_test : (k d p q r i : ℕ) → r < 2 ^ d → p * 2 ^ d + 2 ^ d ≤ 2 ^ k → in_run ((q * 2 ^ d + r) * 2 ^ k + p * 2 ^ d) (2 ^ d) i ≡ (eqb (i / 2 ^ k) (q * 2 ^ d + r) && in_block k d p q i)
row_test k d p q r i l h =
    let at = (q * 2 ^ d + r) * 2 ^ k + p * 2 ^ d in
    same_test (in_run at (2 ^ d) i) (eqb (i / 2 ^ k) (q * 2 ^ d + r) && in_block k d p q i)
    (λ e.
    let y : i / 2 ^ k ≡ q * 2 ^ d + r = row_of (2 ^ k) (2 ^ d) p (q * 2 ^ d + r) i h (run_from at (2 ^ d) i e) (run_to at (2 ^ d) i e) in
    and_both _ _ (eq-eqb _ _ y)
    (and_both _ _ (eq-eqb _ _ (column_of (2 ^ k) (2 ^ d) p (q * 2 ^ d + r) i h (run_from at (2 ^ d) i e) (run_to at (2 ^ d) i e)))
    (eq-eqb _ _ (ap (λ j. j / 2 ^ d) y ∙ digits_div q l))))
    (λ e.
    let c : in_block k d p q i ≡ true = and_right (eqb (i / 2 ^ k) (q * 2 ^ d + r)) (in_block k d p q i) e in
    let w = within (2 ^ k) (2 ^ d) p (q * 2 ^ d + r) i (pow_pos d) (eqb-true _ _ (and_left (eqb (i / 2 ^ k) (q * 2 ^ d + r)) (in_block k d p q i) e)) (eqb-true _ _ (and_left (eqb (i % 2 ^ k / 2 ^ d) p) (eqb (i / 2 ^ k / 2 ^ d) q) c)) in
    run_has at (2 ^ d) i w.0 w.1)

below_next : (a b : ℕ) → ltb a (b + 1) ≡ (ltb a b || eqb a b)
below_next a b = go (dec_lt a b) (ℕ_discrete a b)
  where
    go : Dec (a < b) → Dec (a ≡ b) → ltb a (b + 1) ≡ (ltb a b || eqb a b)
    go (yes l) d = simp (lt-ltb a (b + 1) (omega arith), lt-ltb a b l)
    go (no n) (yes e) = simp (lt-ltb a (b + 1) (omega arith), le-ltb a b (omega arith), eq-eqb a b e)
    go (no n) (no m) = simp (le-ltb a (b + 1) (omega arith), le-ltb a b (omega arith), ne_eqb a b m)

pub block_row : (k d p q i : ℕ) → in_block k d p q i ≡ true → i / 2 ^ k / 2 ^ d ≡ q
block_row k d p q i e = eqb-true _ _ (and_right (eqb (i % 2 ^ k / 2 ^ d) p) (eqb (i / 2 ^ k / 2 ^ d) q) e)

pub block_column : (k d p q i : ℕ) → in_block k d p q i ≡ true → i % 2 ^ k / 2 ^ d ≡ p
block_column k d p q i e = eqb-true _ _ (and_left (eqb (i % 2 ^ k / 2 ^ d) p) (eqb (i / 2 ^ k / 2 ^ d) q) e)

-- of the block, the rows below y: which entries are in them, none at first, one more, all
abbrev rows : ℕ → ℕ → ℕ → ℕ → ℕ → ℕ → Bool
rows k d p q y i = ltb (i / 2 ^ k) y && in_block k d p q i

block_none : (k d p q c o i : ℕ) → o ≡ cond (rows k d p q (q * 2 ^ d + 0) i) c o
block_none k d p q c o i =
    ap (λ b. cond b c o)
    (sym (same_test (rows k d p q (q * 2 ^ d + 0) i) false
    (λ e. absurd (omega (arith, ltb-true (i / 2 ^ k) (q * 2 ^ d + 0) (and_left (ltb (i / 2 ^ k) (q * 2 ^ d + 0)) (in_block k d p q i) e), ap (λ j. j * 2 ^ d) (block_row k d p q i (and_right (ltb (i / 2 ^ k) (q * 2 ^ d + 0)) (in_block k d p q i) e)), div-mul-le_self (i / 2 ^ k) (2 ^ d))))
    (λ e. absurd (false≢true e))))

block_more : (k d p q c o v w r i : ℕ) → r < 2 ^ d → p * 2 ^ d + 2 ^ d ≤ 2 ^ k → v ≡ cond (rows k d p q (q * 2 ^ d + r) i) c o → w ≡ cond (in_run ((q * 2 ^ d + r) * 2 ^ k + p * 2 ^ d) (2 ^ d) i) c v
    → w ≡ cond (rows k d p q (q * 2 ^ d + (r + 1)) i) c o
block_more k d p q c o v w r i l h ev ew =
    ew
    ∙ ap (λ b. cond b c v) (row_test k d p q r i l h)
    ∙ ap (λ j. cond (eqb (i / 2 ^ k) (q * 2 ^ d + r) && in_block k d p q i) c j) ev
    ∙ pick_more (eqb (i / 2 ^ k) (q * 2 ^ d + r)) (ltb (i / 2 ^ k) (q * 2 ^ d + r)) (in_block k d p q i) c o
    ∙ ap (λ b. cond (b && in_block k d p q i) c o) (sym (below_next (i / 2 ^ k) (q * 2 ^ d + r)) ∙ ap (ltb (i / 2 ^ k)) (add_assoc (q * 2 ^ d) r 1))

block_all : (k d p q c o v i : ℕ) → v ≡ cond (rows k d p q (q * 2 ^ d + 2 ^ d) i) c o → v ≡ cond (in_block k d p q i) c o
block_all k d p q c o v i e =
    e
    ∙ ap (λ b. cond b c o)
    (same_test (rows k d p q (q * 2 ^ d + 2 ^ d) i) (in_block k d p q i)
    (λ t. and_right (ltb (i / 2 ^ k) (q * 2 ^ d + 2 ^ d)) (in_block k d p q i) t)
    (λ t. and_both (ltb (i / 2 ^ k) (q * 2 ^ d + 2 ^ d)) (in_block k d p q i) (lt-ltb (i / 2 ^ k) (q * 2 ^ d + 2 ^ d) (omega (arith, lt-div-mul-add {a = i / 2 ^ k} (pow_pos d), ap (λ j. j * 2 ^ d) (block_row k d p q i t)))) t))

-- ---- the first rows of the block are painted
pub record Filling (k n p q c : ℕ) (old place : List ℕ) (row : ℕ) : Type 0 where
  pub within : row ≤ 2 ^ n
  pub painted : Painted (rows k n p q (q * 2 ^ n + row)) (λ i. c) old place

module _ {k n p q c : ℕ} {old : List ℕ} where
  -- at first none is
  pub filling_start : Filling k n p q c old old 0
  filling_start = record { within = omega arith; painted = record { long = refl; each = λ i l. block_none k n p q c (get_or old i 0) i } }

  -- one row more
  pub filling_next : {place new : List ℕ} {row : ℕ} → p * 2 ^ n + 2 ^ n ≤ 2 ^ k → row < 2 ^ n → Run ((q * 2 ^ n + row) * 2 ^ k + p * 2 ^ n) (2 ^ n) c place new
      → Filling k n p q c old place row → Filling k n p q c old new (row + 1)
  filling_next {place} {new} {row} h l r f =
      let same = f.painted.long in
      record {
        within = omega arith;
        painted = record { long = r.long ∙ same; each = λ i m. block_more k n p q c (get_or old i 0) (get_or place i 0) (get_or new i 0) row i l h (f.painted.each i m) (r.each i (omega arith)) };
      }

  -- past the last one the block is painted
  pub filling_end : {place : List ℕ} {row : ℕ} → 2 ^ n ≤ row → Filling k n p q c old place row → Block k n p q c old place
  filling_end {place} {row} h f =
      let e : row ≡ 2 ^ n = let w = f.within in omega arith in
      record { long = f.painted.long; each = λ i m. block_all k n p q c (get_or old i 0) (get_or place i 0) i (rw e at (f.painted.each i m)) }

-- the run of each row of a cell ends within the grid
rows_end : (y n : ℕ) → y < n → y * n + n ≤ n * n
rows_end y n l = subst (λ m. m ≤ n * n) (suc-mul y n) (mul-le-mul_right n l)

pub run_inside : {k level p q s t r n : ℕ} → IsCell k level p q → 4 ^ k ≤ n → s ≡ 2 ^ k → t ≡ 2 ^ (k - level) → r < t → (q * t + r) * s + p * t + t ≤ n
run_inside {k} {level} {p} {q} {s} {t} {r} {n} cell whole es et l =
    let x : p * t + t ≤ s = rw (et, es) (columns_end k level p cell.level cell.column) in
    let y : q * t + t ≤ s = rw (et, es) (columns_end k level q cell.level cell.row) in
    let z : (q * t + r) * s + s ≤ s * s = rows_end (q * t + r) s (omega arith) in
    let w : s * s ≤ n = rw es (rw (*_pow 2 2 k) at whole) in
    omega arith
