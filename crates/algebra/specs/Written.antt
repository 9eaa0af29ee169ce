-- A list written over another one.
use Rattle.std.specs.Prelude.{◌≡◌, List, ℕ, ◌+◌, length}
use Rattle.std.proofs.lemmas.List.Edits.{sets}

-- xs is written from `at` on and ends before `end`: no other entry changes
pub record Written (xs : List ℕ) (at : ℕ) (old now : List ℕ) (end : ℕ) : Type 0 where
  pub ends : end ≡ at + length xs
  pub written : now ≡ sets old at xs
