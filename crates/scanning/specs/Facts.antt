-- What the promise of `read_pbm` says of an answer and of the place that it leaves, for every outcome that satisfies it, by what the text is. That they hold is proofs/Facts.
use Rattle.std.specs.Prelude.{◌≡◌, List, ℕ, length, take, drop, Result}
use Rattle.pbm.specs.Refusals.{Found, Finds, read_refusal, depth_in, mask_in}
use Rattle.page.specs.declared.Refusal.{Refusal}
use Rattle.scanning.specs.Answers.{states_scan}
use Rattle.scanning.specs.Promises.{ScanPromise}

-- the number that an answer states is the table's
abbrev pub ScanNumber : Type 0
ScanNumber = (text old : List ℕ) (r : Result ℕ Refusal) (now : List ℕ) → ScanPromise text old r now → (f : Found) → Finds text f → (states_scan r).number ≡ read_refusal f (length old)

-- where it is not 0, a zero stands beside it, and no byte of the place changes
abbrev pub ScanRefused : Type 0
ScanRefused = (text old : List ℕ) (r : Result ℕ Refusal) (now : List ℕ) → ScanPromise text old r now → (f : Found) → Finds text f → (read_refusal f (length old) ≡ 0 → ⊥) →
    (states_scan r ≡ record { number = read_refusal f (length old); depth = 0 }) × (now ≡ old)

-- and else the answer is the side's depth, the place begins with the mask, and the later bytes stay
abbrev pub ScanLeft : Type 0
ScanLeft = (text old : List ℕ) (r : Result ℕ Refusal) (now : List ℕ) → ScanPromise text old r now → (f : Found) → Finds text f → read_refusal f (length old) ≡ 0 →
    (states_scan r ≡ record { number = 0; depth = depth_in f }) × (take (length (mask_in f)) now ≡ mask_in f) × (drop (length (mask_in f)) now ≡ drop (length (mask_in f)) old)
