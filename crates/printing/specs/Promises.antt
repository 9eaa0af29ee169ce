-- The promise of `write_pbm`, as a statement about an outcome: the answer r, and the place afterwards. That nothing else satisfies it is proofs/Promises.
use Rattle.std.specs.Prelude.{◌≡◌, List, ℕ, length, Result}
use Rattle.page.specs.declared.Refusal.{Refusal}
use Rattle.printing.specs.Answers.{printed, printed_place, states_printing, counted}

-- the answer is that of the definition, its case states the request's number and count, and every byte of the place is the definition's
abbrev pub PrintPromise : ℕ → List ℕ → List ℕ → Result ℕ Refusal → List ℕ → Type 0
PrintPromise k raster old r now = (r ≡ printed k raster (length old)) × (states_printing r ≡ counted k raster (length old)) × (now ≡ printed_place k raster old)

-- no second outcome satisfies it
abbrev pub OnePrint : Type 0
OnePrint = (k : ℕ) (raster old : List ℕ) (r t : Result ℕ Refusal) (now after : List ℕ) → PrintPromise k raster old r now → PrintPromise k raster old t after → (r ≡ t) × (now ≡ after)
