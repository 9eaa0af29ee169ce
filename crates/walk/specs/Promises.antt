-- The promises of the calls that walk, as statements about an outcome: the answer r, and the place afterwards. That nothing else satisfies them is proofs/Promises.
use Rattle.std.specs.Prelude.{◌≡◌, List, ℕ, length, Result}
use Rattle.page.specs.Sheet.{Sheet}
use Rattle.page.specs.declared.Refusal.{Refusal}
use Rattle.marks.specs.declared.Seen.{Seen}
use Rattle.walk.specs.declared.Records.{Records}
use Rattle.walk.specs.Answers.{tallied, states_tally, reckoned, rastered, listed, states_listing, enumerated, recorded}

-- the answer is that of the definition, its case states the page's number and values, and every entry of the place is the definition's
abbrev pub RasterPromise : Sheet → ℕ → List ℕ → Result Seen Refusal → List ℕ → Type 0
RasterPromise S mode old r now = (r ≡ tallied S mode (length old)) × (states_tally r ≡ reckoned S mode (length old)) × (now ≡ rastered S mode old)

abbrev pub ListingPromise : Sheet → ℕ → List ℕ → Result Records Refusal → List ℕ → Type 0
ListingPromise S mode old r now = (r ≡ listed S mode (length old)) × (states_listing r ≡ enumerated S mode (length old)) × (now ≡ recorded S mode old)

-- no second outcome satisfies a promise
abbrev pub OneRaster : Type 0
OneRaster = (S : Sheet) (mode : ℕ) (old : List ℕ) (r t : Result Seen Refusal) (now after : List ℕ) → RasterPromise S mode old r now → RasterPromise S mode old t after → (r ≡ t) × (now ≡ after)

abbrev pub OneListing : Type 0
OneListing = (S : Sheet) (mode : ℕ) (old : List ℕ) (r t : Result Records Refusal) (now after : List ℕ) → ListingPromise S mode old r now → ListingPromise S mode old t after → (r ≡ t) × (now ≡ after)
