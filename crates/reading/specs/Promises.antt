-- The promise of `read`, as a statement about its answer r. That nothing else satisfies it is proofs/Promises.
use Rattle.std.specs.Prelude.{◌≡◌, List, ℕ, Result}
use Rattle.reading.specs.declared.Sheet.{Sheet}
use Rattle.reading.specs.declared.Refused.{Refused}
use Rattle.reading.specs.Answers.{reading, states, stated}

-- the answer is that of the definition, with every number in it; and the numbers that it states are the page's
abbrev pub ReadPromise : List ℕ → Result Sheet Refused → Type 0
ReadPromise text r = (r ≡ reading text) × (states r ≡ stated text)

-- no second answer satisfies it
abbrev pub OneReading : Type 0
OneReading = (text : List ℕ) (r t : Result Sheet Refused) → ReadPromise text r → ReadPromise text t → r ≡ t
