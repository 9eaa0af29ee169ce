-- What the promises of the calls that walk say of an answer and of the place that a call leaves, for every outcome that satisfies them. That they hold is proofs/Facts.
use Rattle.std.specs.Prelude.{◌≡◌, List, [], ◌∷◌, ℕ, ◌+◌, ◌*◌, ◌^◌, ◌≤◌, ◌<◌, ℤ, pos, length, get_or, take, ◌<ℤ◌, Result}
use Rattle.verdicts.specs.Walking.{colour, raster, records}
use Rattle.verdicts.specs.Facts.{unfolded_at, unfolded}
use Rattle.page.specs.Sheet.{Sheet, mode_of}
use Rattle.page.specs.Scaled.{InCell, value_at, MeetsCurve}
use Rattle.page.specs.Bounds.{bend}
use Rattle.page.specs.Cover.{Holder}
use Rattle.page.specs.Label.{Labelled}
use Rattle.page.specs.Refusals.{refusal, to_walk}
use Rattle.page.specs.declared.Refusal.{Refusal}
use Rattle.marks.specs.declared.Seen.{Seen}
use Rattle.walk.specs.declared.Records.{Records}
use Rattle.walk.specs.Answers.{verdicts, states_tally, states_listing}
use Rattle.walk.specs.Promises.{RasterPromise, ListingPromise}

-- ---- the number that an answer states is the table's
abbrev pub RasterNumber : Type 0
RasterNumber = (S : Sheet) (mode : ℕ) (old : List ℕ) (r : Result Seen Refusal) (now : List ℕ) → RasterPromise S mode old r now → (states_tally r).number ≡ refusal (to_walk S mode (length old))

abbrev pub ListingNumber : Type 0
ListingNumber = (S : Sheet) (mode : ℕ) (old : List ℕ) (r : Result Records Refusal) (now : List ℕ) → ListingPromise S mode old r now → (states_listing r).number ≡ refusal (to_walk S mode (length old))

-- ---- where it is not 0, zeros stand beside it: every other number that the answer states is 0
abbrev pub RasterZeros : Type 0
RasterZeros = (S : Sheet) (mode : ℕ) (old : List ℕ) (r : Result Seen Refusal) (now : List ℕ) → RasterPromise S mode old r now → (refusal (to_walk S mode (length old)) ≡ 0 → ⊥) →
    states_tally r ≡ record { number = refusal (to_walk S mode (length old)); visited = 0; coloured = 0; bend = 0 }

abbrev pub ListingZeros : Type 0
ListingZeros = (S : Sheet) (mode : ℕ) (old : List ℕ) (r : Result Records Refusal) (now : List ℕ) → ListingPromise S mode old r now → (refusal (to_walk S mode (length old)) ≡ 0 → ⊥) →
    states_listing r ≡ record { number = refusal (to_walk S mode (length old)); length = 0; visited = 0; coloured = 0; bend = 0 }

-- ---- the bytes that `raster` leaves where nothing is refused: the one at q·2^k + p is for the finest cell at column p, row q
-- it is the raster's byte, the colour of the cell
abbrev pub PrintedByte : Type 0
PrintedByte = (S : Sheet) (mode : ℕ) (old : List ℕ) (r : Result Seen Refusal) (now : List ℕ) → RasterPromise S mode old r now → refusal (to_walk S mode (length old)) ≡ 0 →
    (p q : ℕ) → p < 2 ^ S.k → q < 2 ^ S.k → get_or now (q * 2 ^ S.k + p) 0 ≡ colour (verdicts S mode) S.k p q

-- demand 3: where it is 2 the value is positive at every point of the cell, edges included, and where it is 3 negative
abbrev pub PrintedSigned : Type 0
PrintedSigned = (S : Sheet) (mode : ℕ) (old : List ℕ) (r : Result Seen Refusal) (now : List ℕ) → RasterPromise S mode old r now → refusal (to_walk S mode (length old)) ≡ 0 →
    (p q : ℕ) → p < 2 ^ S.k → q < 2 ^ S.k → (M N : ℤ) (Q : ℕ) → 1 ≤ Q → InCell S S.k p q M N Q →
    (get_or now (q * 2 ^ S.k + p) 0 ≡ 2 → pos 0 <ℤ value_at S M N Q) × (get_or now (q * 2 ^ S.k + p) 0 ≡ 3 → value_at S M N Q <ℤ pos 0)

-- and where it is 1 and the cell has no bend, the cell meets the curve
abbrev pub PrintedMeets : Type 0
PrintedMeets = (S : Sheet) (mode : ℕ) (old : List ℕ) (r : Result Seen Refusal) (now : List ℕ) → RasterPromise S mode old r now → refusal (to_walk S mode (length old)) ≡ 0 →
    (p q : ℕ) → p < 2 ^ S.k → q < 2 ^ S.k → get_or now (q * 2 ^ S.k + p) 0 ≡ 1 → bend S S.k p q ≡ 0 → MeetsCurve S S.k p q

-- every point M/Q, N/Q of the curve in the square lies in a finest cell of which the byte is 1
abbrev pub PrintedCurve : Type 0
PrintedCurve = (S : Sheet) (mode : ℕ) (old : List ℕ) (r : Result Seen Refusal) (now : List ℕ) → RasterPromise S mode old r now → refusal (to_walk S mode (length old)) ≡ 0 →
    (M N : ℤ) (Q : ℕ) → 1 ≤ Q → InCell S 0 0 0 M N Q → value_at S M N Q ≡ pos 0 → (h : Holder S S.k M N Q) × (get_or now (h.row * 2 ^ S.k + h.column) 0 ≡ 1)

-- the bend that the answer states is the largest among the finest cells of which the byte is 1, with all that `Labelled` says (#101)
abbrev pub PrintedLabel : Type 0
PrintedLabel = (S : Sheet) (mode : ℕ) (old : List ℕ) (r : Result Seen Refusal) (now : List ℕ) → RasterPromise S mode old r now → refusal (to_walk S mode (length old)) ≡ 0 →
    Labelled S (mode_of mode) (λ p q. get_or now (q * 2 ^ S.k + p) 0 ≡ 1) (states_tally r).bend

-- ---- the records that `listing` leaves where nothing is refused: as many as it answers, they unfold to the raster
abbrev pub WrittenRecords : Type 0
WrittenRecords = (S : Sheet) (mode : ℕ) (old : List ℕ) (r : Result Records Refusal) (now : List ℕ) → ListingPromise S mode old r now → refusal (to_walk S mode (length old)) ≡ 0 →
    ((states_listing r).length ≡ length (records (verdicts S mode) S.k)) × (unfolded S.k (take (states_listing r).length now) ≡ raster (verdicts S mode) S.k)

-- each finest cell is covered by one of them, which has its colour
abbrev pub ListedColour : Type 0
ListedColour = (S : Sheet) (mode : ℕ) (old : List ℕ) (r : Result Records Refusal) (now : List ℕ) → ListingPromise S mode old r now → refusal (to_walk S mode (length old)) ≡ 0 →
    (p q : ℕ) → p < 2 ^ S.k → q < 2 ^ S.k → unfolded_at S.k (take (states_listing r).length now) p q ≡ colour (verdicts S mode) S.k p q ∷ []

-- demand 3: where that is 2 the value is positive at every point of the cell, edges included, and where it is 3 negative
abbrev pub ListedSigned : Type 0
ListedSigned = (S : Sheet) (mode : ℕ) (old : List ℕ) (r : Result Records Refusal) (now : List ℕ) → ListingPromise S mode old r now → refusal (to_walk S mode (length old)) ≡ 0 →
    (p q : ℕ) → p < 2 ^ S.k → q < 2 ^ S.k → (M N : ℤ) (Q : ℕ) → 1 ≤ Q → InCell S S.k p q M N Q →
    (unfolded_at S.k (take (states_listing r).length now) p q ≡ 2 ∷ [] → pos 0 <ℤ value_at S M N Q)
    × (unfolded_at S.k (take (states_listing r).length now) p q ≡ 3 ∷ [] → value_at S M N Q <ℤ pos 0)

-- and where it is 1 and the cell has no bend, the cell meets the curve
abbrev pub ListedMeets : Type 0
ListedMeets = (S : Sheet) (mode : ℕ) (old : List ℕ) (r : Result Records Refusal) (now : List ℕ) → ListingPromise S mode old r now → refusal (to_walk S mode (length old)) ≡ 0 →
    (p q : ℕ) → p < 2 ^ S.k → q < 2 ^ S.k → unfolded_at S.k (take (states_listing r).length now) p q ≡ 1 ∷ [] → bend S S.k p q ≡ 0 → MeetsCurve S S.k p q

-- every point M/Q, N/Q of the curve in the square lies in a finest cell that a record covers of which the colour is 1
abbrev pub ListedCurve : Type 0
ListedCurve = (S : Sheet) (mode : ℕ) (old : List ℕ) (r : Result Records Refusal) (now : List ℕ) → ListingPromise S mode old r now → refusal (to_walk S mode (length old)) ≡ 0 →
    (M N : ℤ) (Q : ℕ) → 1 ≤ Q → InCell S 0 0 0 M N Q → value_at S M N Q ≡ pos 0
    → (h : Holder S S.k M N Q) × (unfolded_at S.k (take (states_listing r).length now) h.column h.row ≡ 1 ∷ [])

-- the bend that the answer states is the largest among the finest cells that a record of colour 1 covers, with all that `Labelled` says (#101)
abbrev pub ListedLabel : Type 0
ListedLabel = (S : Sheet) (mode : ℕ) (old : List ℕ) (r : Result Records Refusal) (now : List ℕ) → ListingPromise S mode old r now → refusal (to_walk S mode (length old)) ≡ 0 →
    Labelled S (mode_of mode) (λ p q. unfolded_at S.k (take (states_listing r).length now) p q ≡ 1 ∷ []) (states_listing r).bend

-- ---- what stays as it was, of the place lent to `raster` and of the one lent to `listing`
-- everything, where the call is refused
abbrev pub RefusedUnchanged : Type 0
RefusedUnchanged = (S : Sheet) (mode : ℕ) (old now : List ℕ) → (refusal (to_walk S mode (length old)) ≡ 0 → ⊥) →
    ((r : Result Seen Refusal) → RasterPromise S mode old r now → now ≡ old) × ((r : Result Records Refusal) → ListingPromise S mode old r now → now ≡ old)

-- and else how long the place is, and every entry after the last one written: of a raster those from 4^k on, of a listing those from its length on
abbrev pub LaterUnchanged : Type 0
LaterUnchanged = (S : Sheet) (mode : ℕ) (old now : List ℕ) → refusal (to_walk S mode (length old)) ≡ 0 →
    ((r : Result Seen Refusal) → RasterPromise S mode old r now → (length now ≡ length old) × ((i : ℕ) → 4 ^ S.k ≤ i → get_or now i 0 ≡ get_or old i 0))
    × ((r : Result Records Refusal) → ListingPromise S mode old r now → (length now ≡ length old) × ((i : ℕ) → length (records (verdicts S mode) S.k) ≤ i → get_or now i 0 ≡ get_or old i 0))
