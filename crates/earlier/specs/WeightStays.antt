-- Request #102, a limit for each axis: what was accepted stays so, with the same answers but for weight and spare places. Statements about every sheet and every input, and about every outcome that satisfies a call's promise. That they hold is proofs/WeightStays.
use Rattle.std.specs.Prelude.{◌≡◌, List, ℕ, ◌^◌, ◌≤◌, ℤ, length, Result, Ok, Err}
use Rattle.page.specs.Sheet.{Sheet}
use Rattle.page.specs.Weight.{weight, Accepted}
use Rattle.page.specs.Refusals.{Input, refusal, to_check, at_point, in_cell, to_walk}
use Rattle.page.specs.ReadFacts.{number_of}
use Rattle.page.specs.CheckedSheets.{far_along_y}
use Rattle.probe.specs.declared.Checked.{Checked}
use Rattle.page.specs.declared.Refusal.{Refusal}
use Rattle.page.specs.declared.Refusal.TheVariants as Refusal
use Rattle.verdicts.specs.declared.Verdict.{Verdict}
use Rattle.marks.specs.declared.Seen.{Seen}
use Rattle.probe.specs.Answers.{checked}
use Rattle.probe.specs.Promises.{CheckPromise, ValuePromise, BoundsPromise}
use Rattle.walk.specs.declared.Records.{Records}
use Rattle.walk.specs.Promises.{RasterPromise, ListingPromise}
use Rattle.reading.specs.declared.Sheet.{Sheet as Read}
use Rattle.reading.specs.declared.Refused.{Refused}
use Rattle.reading.specs.Answers.{reading_of, states, stated_of}
use Rattle.reading.specs.Promises.{ReadPromise}
use Rattle.reply.specs.Promises.{AnswerPromise}
use Rattle.earlier.specs.Weight.{old_weight, OldAccepted, old_refusal}
use Rattle.earlier.specs.WeightAnswers.{old_checked, old_valued, old_bounded, old_tallied, old_rastered, old_listed, old_recorded, old_outcome, old_written_length, old_written_place}

-- ---- the weight is at most the old one on every sheet, and the same where X = Y, as on the page's checked sheets
abbrev pub NoHeavier : Type 0
NoHeavier = (S : Sheet) → weight S ≤ old_weight S

abbrev pub SameOnDiagonal : Type 0
SameOnDiagonal = (S : Sheet) → S.X ≡ S.Y → weight S ≡ old_weight S

-- ---- what was accepted stays so
abbrev pub AcceptedStays : Type 0
AcceptedStays = (S : Sheet) → OldAccepted S → Accepted S

-- and a number other than 6 stays, 0 among them: what another row refused is refused by it
abbrev pub NumberStays : Type 0
NumberStays = (c : Input) → (old_refusal c ≡ 6 → ⊥) → refusal c ≡ old_refusal c

-- and no other number gives way to 6
abbrev pub SixWasSix : Type 0
SixWasSix = (c : Input) → refusal c ≡ 6 → old_refusal c ≡ 6

-- ---- so each call that was not refused by 6 answers what it answered, refusals too; of a text that is with the faults of lines as they are told today (#105)
-- `check` but for weight and spare places: the weight is no larger, and there are no fewer spare places
abbrev pub Lighter : Result Checked Refusal → Result Checked Refusal → Type 0
Lighter (Ok c) (Ok old) = (c.weight ≤ old.weight) × (old.spare ≤ c.spare)
Lighter (Ok c) (Err e) = ⊥
Lighter (Err e) (Ok old) = ⊥
Lighter (Err e) (Err old) = e ≡ old

abbrev pub CheckStays : Type 0
CheckStays = (S : Sheet) (r : Result Checked Refusal) → CheckPromise S r → (old_refusal (to_check S) ≡ 6 → ⊥) → Lighter r (old_checked S)

-- the same value, the same bounds and bend
abbrev pub ValueStays : Type 0
ValueStays = (S : Sheet) (u v : ℤ) (r : Result ℤ Refusal) → ValuePromise S u v r → (old_refusal (at_point S u v) ≡ 6 → ⊥) → r ≡ old_valued S u v

abbrev pub BoundsStays : Type 0
BoundsStays = (S : Sheet) (mode j p q : ℕ) (r : Result Verdict Refusal) → BoundsPromise S mode j p q r → (old_refusal (in_cell S mode j p q) ≡ 6 → ⊥) → r ≡ old_bounded S mode j p q

-- the same tally and bytes, the same length, tally and records, and every entry of the place
abbrev pub RasterStays : Type 0
RasterStays = (S : Sheet) (mode : ℕ) (before : List ℕ) (r : Result Seen Refusal) (now : List ℕ) → RasterPromise S mode before r now → (old_refusal (to_walk S mode (length before)) ≡ 6 → ⊥) →
    (r ≡ old_tallied S mode (length before)) × (now ≡ old_rastered S mode before)

abbrev pub ListingStays : Type 0
ListingStays = (S : Sheet) (mode : ℕ) (before : List ℕ) (r : Result Records Refusal) (now : List ℕ) → ListingPromise S mode before r now → (old_refusal (to_walk S mode (length before)) ≡ 6 → ⊥) →
    (r ≡ old_listed S mode (length before)) × (now ≡ old_recorded S mode before)

-- the same sheet from a text; the same text from the listing program's call, and every byte of the place
abbrev pub ReadStays : Type 0
ReadStays = (text : List ℕ) (r : Result Read Refused) → ReadPromise text r → (number_of (old_outcome text) ≡ 6 → ⊥) → (r ≡ reading_of (old_outcome text)) × (states r ≡ stated_of (old_outcome text))

abbrev pub AnswerStays : Type 0
AnswerStays = (text before : List ℕ) (r : ℕ) (now : List ℕ) → AnswerPromise text before r now → (number_of (old_outcome text) ≡ 6 → ⊥) →
    (r ≡ old_written_length text (length before)) × (now ≡ old_written_place text before)

-- ---- and the request is worth something: its sheet was refused by 6, and now weighs 2^32 with 29 spare places
abbrev pub RefusedForNothing : Type 0
RefusedForNothing = (old_checked far_along_y ≡ Err Refusal.Weight) × (checked far_along_y ≡ Ok (record { weight = 2 ^ 32; spare = 29 }))
