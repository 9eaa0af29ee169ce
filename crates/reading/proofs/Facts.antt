-- What the promise of `read` says of its answer.
use mathlib.Core.Path.{◌≡◌, refl, sym, ◌∙◌, ap, subst}
use mathlib.Core.Bool.{Bool, true, false, cond}
use mathlib.Core.List.{List}
use Prim.Native.Nat.{ℕ, zero, suc, ◌-◌, ◌≤◌}
use native.Mathlib.Omega.{arith}
use lib.Dec.{ltb}
use lib.IntN.{ℤ, pos}
use lib.ListN.{length, replicate}
use lib.Seq.{take-append_seam, drop-append_seam}
use Rattle.page.specs.Sheet.{count}
use Rattle.page.specs.Numbers.{by_number}
use Rattle.page.specs.Refusals.{refusal, unless}
use Rattle.page.specs.SheetLine.{lines, Fault, fault}
use Rattle.page.specs.SheetText.{Said, Text, bad_line, well_formed, text_of, sheet_in, to_read, Outcome, refused, accepted, outcome_of, outcome}
use Rattle.page.specs.ReadFacts.{number_of}
use Rattle.page.specs.FaultFacts.{FaultAt, at_letter, at_no_line, at_count, at_badly_written, at_out_of_range, at_beyond, at_twice, at_end}
use Rattle.page.proofs.Numbers.{Names, table_named}
use Rattle.page.proofs.ReadFacts.{as_many_coefficients, read_table, read_never, by_rows}
use Rattle.page.proofs.TextFaults.{fault_placed}
use Rattle.reading.specs.Answers.{reading, Stated, states_refused, states, stated_of, stated, reading_of}
use Rattle.reading.specs.Facts.{ReadingNamed, ReadingStates, ReadingNumber, ReadingZeros, ReadingLine, ReadingField, ReadingSheet}

-- ---- the numbers name refusals that have them: those of a line's faults, and those of the table
fault_named : {m line : ℕ} {f : Fault} → FaultAt m line f → Names f.number
unfolding by_number
fault_named (at_letter a b) = refl
fault_named (at_no_line a b) = refl
fault_named (at_count a b) = refl
fault_named (at_badly_written field a b c d) = refl
fault_named (at_out_of_range field a b c d) = refl
fault_named (at_beyond a b) = refl
fault_named (at_twice a b) = refl
fault_named (at_end a b) = refl

pub reading_named : ReadingNamed
unfolding outcome by_number
reading_named text n line field e = by (ltb 8_192 (length text)) (text_of (lines text)) refl e
  where
    by : (long : Bool) (t : Text) → text_of (lines text) ≡ t → cond long (refused 11 0 0) (outcome_of t) ≡ refused n line field → Names n
    by true t f q = let k : 11 ≡ n = cc in subst Names k refl
    by false (bad_line m g) f q = let k : g.number ≡ n = cc in subst Names k (fault_named (fault_placed (lines text) m g f))
    by false (well_formed w) f q = let k = by_rows (refusal (to_read w)) w q in subst Names (sym k.0) (table_named (to_read w) k.1)

pub reading_states : ReadingStates
unfolding reading stated
reading_states text r h = rw h (by (outcome text) refl)
  where
    by : (o : Outcome) → outcome text ≡ o → states (reading_of o) ≡ stated_of o
    by (refused n line field) e = ap (λ m. states_refused m line field) (reading_named text n line field e)
    by (accepted w) e = refl

-- ---- by what a text comes to
number_is : (o : Outcome) → (stated_of o).refusal ≡ number_of o
number_is (refused n line field) = refl
number_is (accepted w) = refl

pub reading_number : ReadingNumber
unfolding stated
reading_number text r h = ap (λ x. x.refusal) h.1 ∙ number_is (outcome text) ∙ read_table text

pub reading_zeros : ReadingZeros
unfolding stated
reading_zeros text r h = rw h.1 (by (outcome text))
  where
    by : (o : Outcome) → let r : Stated = stated_of o in (r.refusal ≡ 0 → ⊥) →
        r ≡ record { refusal = r.refusal; line = r.line; field = r.field; d = 0; x = pos 0; y = pos 0; s = 0; k = 0; mode = 0; coefficients = replicate 45 (pos 0) }
    by (refused n line field) z = refl
    by (accepted w) z = absurd (z refl)

pub reading_line : ReadingLine
unfolding stated
reading_line text r h = rw h.1 (by (outcome text) refl)
  where
    by : (o : Outcome) → outcome text ≡ o → let r : Stated = stated_of o in (14 ≤ r.refusal → 1 ≤ r.line) × (r.refusal ≤ 11 → (r.line ≡ 0) × (r.field ≡ 0)) × (r.refusal ≡ 10 → ⊥)
    by (refused n line field) e = let t = read_never text n line field e in (t.counted, t.lineless, λ z. t.not_between (omega arith) (omega arith))
    by (accepted w) e = (λ z. omega arith, λ z. (refl, refl), λ z. omega arith)

-- a text without a bad line has no line in its answer
pub reading_field : ReadingField
unfolding stated outcome
reading_field text r h =
    let s = h.1 in let c = (reading_line text r h).0 in
    rw s (by (ltb 8_192 (length text)) (text_of (lines text)) refl (rw s at c))
  where
    lineless : (n : ℕ) (w : Said) → (stated_of (unless n (λ n. refused n 0 0) (accepted w))).line ≡ 0
    lineless zero w = refl
    lineless (suc n) w = refl

    by : (long : Bool) (t : Text) → text_of (lines text) ≡ t → let r : Stated = stated_of (cond long (refused 11 0 0) (outcome_of t)) in
        (14 ≤ r.refusal → 1 ≤ r.line) → 14 ≤ r.refusal → FaultAt (length (lines text)) r.line (fault r.refusal r.field)
    by true t e c k = absurd (omega arith)
    by false (bad_line n f) e c k = fault_placed (lines text) n f e
    by false (well_formed w) e c k = let l = lineless (refusal (to_read w)) w in let m = c k in absurd (omega arith)

pub reading_sheet : ReadingSheet
unfolding stated
reading_sheet text r w h e = rw (h.1 ∙ ap stated_of e) (
    let xs = (sheet_in w).coefficients in let zs : List ℤ = replicate (45 - count w.d) (pos 0) in
    (rw (as_many_coefficients w) at (take-append_seam xs zs), rw (as_many_coefficients w) at (drop-append_seam xs zs)))
