-- What the promise of `write_pbm` says of an answer and of the place that it leaves, for every outcome that satisfies it. That they hold is proofs/Facts.
use Rattle.std.specs.Prelude.{◌≡◌, List, ℕ, length, take, drop, Result}
use Rattle.pbm.specs.Writing.{picture_text, text_length}
use Rattle.pbm.specs.Refusals.{write_refusal}
use Rattle.page.specs.declared.Refusal.{Refusal}
use Rattle.printing.specs.Answers.{states_printing}
use Rattle.printing.specs.Promises.{PrintPromise}

-- the number that an answer states is the table's
abbrev pub PrintNumber : Type 0
PrintNumber = (k : ℕ) (raster old : List ℕ) (r : Result ℕ Refusal) (now : List ℕ) → PrintPromise k raster old r now → (states_printing r).number ≡ write_refusal k (length raster) (length old)

-- where it is not 0, a zero stands beside it, and no byte of the place changes
abbrev pub PrintRefused : Type 0
PrintRefused = (k : ℕ) (raster old : List ℕ) (r : Result ℕ Refusal) (now : List ℕ) → PrintPromise k raster old r now → (write_refusal k (length raster) (length old) ≡ 0 → ⊥) →
    (states_printing r ≡ record { number = write_refusal k (length raster) (length old); bytes = 0 }) × (now ≡ old)

-- and else the answer is the text's length, the one that 7 asks for; so many bytes of the place are the text, and the later ones stay
abbrev pub PrintLeft : Type 0
PrintLeft = (k : ℕ) (raster old : List ℕ) (r : Result ℕ Refusal) (now : List ℕ) → PrintPromise k raster old r now → write_refusal k (length raster) (length old) ≡ 0 →
    (states_printing r ≡ record { number = 0; bytes = text_length k }) × (take (text_length k) now ≡ picture_text k raster) × (drop (text_length k) now ≡ drop (text_length k) old)
