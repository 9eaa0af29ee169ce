-- What the contract of an inner function says. None of it is the request's.
use Rattle.std.specs.Prelude.{cond, List, [], ◌∷◌, ℕ, ◌+◌}
use Rattle.pbm.specs.Writing.{bit, ends_line}

-- what is written of a raster's byte in column p
abbrev pub digit_bytes : ℕ → ℕ → ℕ → List ℕ
digit_bytes side byte p = (48 + bit byte) ∷ cond (ends_line side p) (10 ∷ []) []
