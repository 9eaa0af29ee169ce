-- What the contracts of reading say of the bytes that were read.
use Rattle.std.specs.Prelude.{◌<◌, ℕ, List, Option, Result, Ok, Err, length, take, ⊤}
use Rattle.std.specs.Io.KnownBytes.{Consumes, IsAtEnd}

-- how many they are: none where reading failed
abbrev pub counted : {E : Type 0} → Result ℕ E → ℕ
counted (Ok n) = n
counted (Err _) = 0

-- where the bytes that are to come are known: those read are the next of them; the place is full, or nothing is left to come
abbrev pub ReadOn : {E : Type 0} → Result ℕ E → Option (List ℕ) → Option (List ℕ) → List ℕ → Type 0
ReadOn (Ok n) old new place = Consumes old new (take n place) × (n < length place → IsAtEnd new)
ReadOn (Err _) old new place = ⊤
