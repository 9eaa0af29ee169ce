-- The promise of `read_pbm`, as a statement about an outcome: the answer r, and the place afterwards. That nothing else satisfies it is proofs/Promises.
use Rattle.std.specs.Prelude.{◌≡◌, List, ℕ, length, Result}
use Rattle.pbm.specs.Refusals.{Found, Finds}
use Rattle.page.specs.declared.Refusal.{Refusal}
use Rattle.scanning.specs.Answers.{scanned, scanned_place, states_scan, sized}

-- what comes of a text that is f
abbrev pub ScanOf : Found → List ℕ → Result ℕ Refusal → List ℕ → Type 0
ScanOf f old r now = (r ≡ scanned f (length old)) × (states_scan r ≡ sized f (length old)) × (now ≡ scanned_place f old)

-- whatever the text is by the grammar, the plain PBM of a picture or none (that it is one of these, and of one alone, is `FindsFound` and `OneFound` of `pbm`): the answer is that of the definition, its case states the request's number and depth, and every byte of the place is the
-- definition's
abbrev pub ScanPromise : List ℕ → List ℕ → Result ℕ Refusal → List ℕ → Type 0
ScanPromise text old r now = (f : Found) → Finds text f → ScanOf f old r now

-- no second outcome satisfies it
abbrev pub OneScan : Type 0
OneScan = (text old : List ℕ) (r t : Result ℕ Refusal) (now after : List ℕ) → ScanPromise text old r now → ScanPromise text old t after → (r ≡ t) × (now ≡ after)
