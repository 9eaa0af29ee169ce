-- What is left of a cut cell is what is left of its four parts, one after the other: their blocks of bytes, or their records.
use mathlib.Core.Path.{◌≡◌, sym, ◌∙◌, ap}
use mathlib.Core.Bool.{Bool, true, true≢false, cond, ◌&&◌, ◌||◌}
use mathlib.Core.List.{List, [], ◌∷◌}
use Prim.Native.Nat.{ℕ, suc, ◌+◌, ◌*◌, ◌-◌, ◌/◌, ◌%◌, ◌^◌, ◌≤◌, ◌<◌}
use native.Mathlib.Omega.{arith}
use lib.Dec.{eqb}
use lib.ListN.{get_or, length}
use Rattle.algebra.proofs.Choice.{cond_when}
use Rattle.algebra.specs.Written.{Written}
use Rattle.algebra.proofs.Written.{written_two, written_length}
use Rattle.verdicts.specs.declared.Verdict.{Verdict}
use Rattle.verdicts.specs.Walking.{Verdicts, colour_of, in_turn}
use Rattle.verdicts.specs.Operational.{records_from, colour_from}
use Rattle.verdicts.proofs.Cells.{Opened, clears, opens, kind, levels_below, colour_open, records_open}
use Rattle.verdicts.proofs.Bounds.{records_bound}
use Rattle.verdicts.proofs.Parts.{quarter_test}
use Rattle.marks.specs.Steps.{Painted, in_block}
use Rattle.marks.proofs.Picks.{pick_four}
use Rattle.marks.proofs.Blocks.{block_row, block_column}

-- a cell whose own colour is 1 is open
pub open_by : (w : Verdict) → colour_of (w ∷ []) ≡ 1 → Opened w
open_by w e = elim (kind w) [
  | clears c s ↦ absurd (true≢false (sym (ap (λ n. eqb n 1) (sym s.painted ∙ e)) ∙ s.plain))
  | opens s ↦ s
]

-- ---- blocks of bytes
-- what is painted of one colour is painted of another that is the same where it is painted
pub repaint : (has : ℕ → Bool) (n m : ℕ → ℕ) (old new : List ℕ) → ((i : ℕ) → has i ≡ true → n i ≡ m i) → Painted has n old new → Painted has m old new
repaint has n m old new e p =
    record { long = p.long; each = λ i l. p.each i l ∙ cond_when (has i) (get_or old i 0) (e i) }

-- a painted list has room for what the old one had room for
pub painted_room : {has : ℕ → Bool} {new : ℕ → ℕ} {old now : List ℕ} {n : ℕ} → Painted has new old now → n ≤ length old → n ≤ length now
painted_room p h = let e = p.long in omega arith

-- the four quarters of a cell are the cell
painted_four : (k d p q : ℕ) (new : ℕ → ℕ) (l₀ l₁ l₂ l₃ l₄ : List ℕ) → Painted (in_block k d (2 * p) (2 * q)) new l₀ l₁ → Painted (in_block k d (2 * p + 1) (2 * q)) new l₁ l₂ → Painted (in_block k d (2 * p) (2 * q + 1)) new l₂ l₃ → Painted (in_block k d (2 * p + 1) (2 * q + 1)) new l₃ l₄ → Painted (in_block k (suc d) p q) new l₀ l₄
painted_four k d p q new l₀ l₁ l₂ l₃ l₄ a b c e =
    let e₁ = a.long in
    let e₂ = b.long in
    let e₃ = c.long in
    let e₄ = e.long in
    record {
      long = omega arith;
      each = λ i h.
          e.each i (omega arith)
          ∙ ap (cond (in_block k d (2 * p + 1) (2 * q + 1) i) (new i)) (c.each i (omega arith)
          ∙ ap (cond (in_block k d (2 * p) (2 * q + 1) i) (new i)) (b.each i (omega arith)
          ∙ ap (cond (in_block k d (2 * p + 1) (2 * q) i) (new i)) (a.each i h)))
          ∙ pick_four (eqb (i % 2 ^ k / 2 ^ d) (2 * p)) (eqb (i % 2 ^ k / 2 ^ d) (2 * p + 1)) (eqb (i / 2 ^ k / 2 ^ d) (2 * q)) (eqb (i / 2 ^ k / 2 ^ d) (2 * q + 1)) (new i) (get_or l₀ i 0)
          ∙ ap (λ t. cond (t && (eqb (i / 2 ^ k / 2 ^ d) (2 * q) || eqb (i / 2 ^ k / 2 ^ d) (2 * q + 1))) (new i) (get_or l₀ i 0)) (quarter_test (i % 2 ^ k) d p)
          ∙ ap (λ t. cond (eqb (i % 2 ^ k / 2 ^ suc d) p && t) (new i) (get_or l₀ i 0)) (quarter_test (i / 2 ^ k) d q);
    }

-- the finest cells of a cell in their colours
abbrev finest : Verdicts → ℕ → ℕ → ℕ → ℕ → List ℕ → List ℕ → Type 0
finest v k level p q old now = Painted (in_block k (k - level) p q) (λ i. colour_from v level (k - level) (i % 2 ^ k) (i / 2 ^ k)) old now

pub painted_cut : (v : Verdicts) (k level p q : ℕ) {l₀ l₁ l₂ l₃ l₄ : List ℕ} → level < k → colour_of (v level p q ∷ []) ≡ 1
    → finest v k (level + 1) (2 * p) (2 * q) l₀ l₁ → finest v k (level + 1) (2 * p + 1) (2 * q) l₁ l₂ → finest v k (level + 1) (2 * p) (2 * q + 1) l₂ l₃ → finest v k (level + 1) (2 * p + 1) (2 * q + 1) l₃ l₄
    → finest v k level p q l₀ l₄
painted_cut v k level p q {l₀} {l₁} {l₂} {l₃} {l₄} l o h₁ h₂ h₃ h₄ =
    let n = k - (level + 1) in
    rw (levels_below l) (repaint (in_block k (suc n) p q) (λ i. colour_from v (level + 1) n (i % 2 ^ k) (i / 2 ^ k)) (λ i. colour_from v level (suc n) (i % 2 ^ k) (i / 2 ^ k)) l₀ l₄
    (λ i t. sym (colour_open v level p q (open_by _ o) n (i % 2 ^ k) (i / 2 ^ k) (block_column k (suc n) p q i t) (block_row k (suc n) p q i t)))
    (painted_four k n p q (λ i. colour_from v (level + 1) n (i % 2 ^ k) (i / 2 ^ k)) l₀ l₁ l₂ l₃ l₄ h₁ h₂ h₃ h₄))

-- ---- records
-- the records of a cell leave the rest of the room
pub written_room : (v : Verdicts) (k level p q rest : ℕ) {at end : ℕ} {old now : List ℕ} → Written (records_from v level (k - level) p q) at old now end
    → at + (4 ^ (k - level) + rest) ≤ length old → end + rest ≤ length now
written_room v k level p q rest h j = omega (arith, h.ends, records_bound v level (k - level) p q, written_length h)

pub written_cut : (v : Verdicts) (k level p q : ℕ) {a b c d e : ℕ} {l₀ l₁ l₂ l₃ l₄ : List ℕ} → level < k → colour_of (v level p q ∷ []) ≡ 1
    → Written (records_from v (level + 1) (k - (level + 1)) (2 * p) (2 * q)) a l₀ l₁ b → Written (records_from v (level + 1) (k - (level + 1)) (2 * p + 1) (2 * q)) b l₁ l₂ c
    → Written (records_from v (level + 1) (k - (level + 1)) (2 * p) (2 * q + 1)) c l₂ l₃ d → Written (records_from v (level + 1) (k - (level + 1)) (2 * p + 1) (2 * q + 1)) d l₃ l₄ e
    → Written (records_from v level (k - level) p q) a l₀ l₄ e
written_cut v k level p q l o h₁ h₂ h₃ h₄ =
    let n = k - (level + 1) in
    let e : records_from v level (k - level) p q ≡ in_turn (records_from v (level + 1) n) p q = rw (levels_below l) (records_open v level p q (open_by _ o) n) in
    rw e (written_two h₁ (written_two h₂ (written_two h₃ h₄)))
