-- The promise of `number`, as a statement about its answer n. That nothing else satisfies it is proofs/Promises.
use Rattle.std.specs.Prelude.{◌≡◌, ℕ}
use Rattle.page.specs.declared.Refusal.{Refusal}
use Rattle.page.specs.Numbers.{number_of}

-- it is the table's
abbrev pub NumberPromise : Refusal → ℕ → Type 0
NumberPromise r n = n ≡ number_of r

-- no second answer satisfies it
abbrev pub OneNumber : Type 0
OneNumber = (r : Refusal) (n m : ℕ) → NumberPromise r n → NumberPromise r m → n ≡ m
