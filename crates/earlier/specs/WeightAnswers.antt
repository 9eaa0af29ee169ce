-- What the calls answer by the old weight: the definition of each answer, with the old refusal and the old weight in it.
use Rattle.std.specs.Prelude.{cond, List, ◌++◌, ℕ, ◌^◌, ltb, ℤ, length, drop, Result}
use Rattle.verdicts.specs.Walking.{raster, records}
use Rattle.page.specs.Sheet.{Sheet, mode_of}
use Rattle.page.specs.Scaled.{F}
use Rattle.page.specs.Bounds.{verdict}
use Rattle.page.specs.Refusals.{to_check, at_point, in_cell, to_walk, unless}
use Rattle.page.specs.SheetLine.{lines}
use Rattle.page.specs.SheetText.{Text, bad_line, well_formed, text_of, to_read, Outcome, refused, accepted}
use Rattle.page.specs.ListingText.{text_after}
use Rattle.page.specs.declared.Refusal.{Refusal}
use Rattle.page.specs.Numbers.{answer}
use Rattle.verdicts.specs.declared.Verdict.{Verdict}
use Rattle.marks.specs.declared.Seen.{Seen}
use Rattle.probe.specs.declared.Checked.{Checked}
use Rattle.walk.specs.declared.Records.{Records}
use Rattle.walk.specs.Answers.{verdicts, tally}
use Rattle.reply.specs.Answers.{room}
use Rattle.earlier.specs.Weight.{old_weight, old_spare, old_refusal}

-- ---- check a sheet
abbrev pub old_checked : Sheet → Result Checked Refusal
old_checked S = answer (old_refusal (to_check S)) (record { weight = old_weight S; spare = old_spare S })

-- ---- value F at a point; bounds and bend of a cell
abbrev pub old_valued : Sheet → ℤ → ℤ → Result ℤ Refusal
old_valued S u v = answer (old_refusal (at_point S u v)) (F S u v)

abbrev pub old_bounded : Sheet → ℕ → ℕ → ℕ → ℕ → Result Verdict Refusal
old_bounded S mode j p q = answer (old_refusal (in_cell S mode j p q)) (verdict S (mode_of mode) j p q)

-- ---- raster, its tally and the place afterwards
abbrev pub old_tallied : Sheet → ℕ → ℕ → Result Seen Refusal
old_tallied S mode n = answer (old_refusal (to_walk S mode n)) (tally S mode)

abbrev pub old_rastered : Sheet → ℕ → List ℕ → List ℕ
old_rastered S mode before = unless (old_refusal (to_walk S mode (length before))) (λ n. before) (raster (verdicts S mode) S.k ++ drop (4 ^ S.k) before)

-- ---- listing, its length and tally, and the place afterwards
abbrev pub old_listed : Sheet → ℕ → ℕ → Result Records Refusal
old_listed S mode n = answer (old_refusal (to_walk S mode n)) (record { length = length (records (verdicts S mode) S.k); seen = tally S mode })

abbrev pub old_recorded : Sheet → ℕ → List ℕ → List ℕ
old_recorded S mode before = unless (old_refusal (to_walk S mode (length before))) (λ n. before) (records (verdicts S mode) S.k ++ drop (length (records (verdicts S mode) S.k)) before)

-- ---- reading a text
abbrev pub old_outcome_of : Text → Outcome
old_outcome_of (bad_line n f) = refused f.number n f.field
old_outcome_of (well_formed w) = unless (old_refusal (to_read w)) (λ n. refused n 0 0) (accepted w)

abbrev pub old_outcome : List ℕ → Outcome
old_outcome text = cond (ltb 8_192 (length text)) (refused 11 0 0) (old_outcome_of (text_of (lines text)))

-- ---- the listing program's call: the text that it writes, how long it is, and the place afterwards
abbrev pub old_text : List ℕ → List ℕ
old_text text = text_after (old_outcome text)

abbrev pub old_written_length : List ℕ → ℕ → ℕ
old_written_length text n = cond (ltb n room) 0 (length (old_text text))

abbrev pub old_written_place : List ℕ → List ℕ → List ℕ
old_written_place text before = cond (ltb (length before) room) before (old_text text ++ drop (length (old_text text)) before)
