-- The answer of `write_pbm`, and the place afterwards: how many bytes are written, and they; or a refusal, and nothing changed.
use Rattle.std.specs.Prelude.{List, ◌++◌, ℕ, length, drop, Result, Ok, Err}
use Rattle.page.specs.declared.Refusal.{Refusal}
use Rattle.page.specs.Refusals.{unless}
use Rattle.page.specs.Numbers.{number_of, answer}
use Rattle.pbm.specs.Writing.{picture_text}
use Rattle.pbm.specs.Refusals.{write_refusal}

-- onto a place of n bytes
unfoldable pub printed : ℕ → List ℕ → ℕ → Result ℕ Refusal
printed k raster n = answer (write_refusal k (length raster) n) (length (picture_text k raster))

-- the place afterwards: the text, and after it the bytes as they were
unfoldable pub printed_place : ℕ → List ℕ → List ℕ → List ℕ
printed_place k raster old = unless (write_refusal k (length raster) (length old)) (λ n. old) (picture_text k raster ++ drop (length (picture_text k raster)) old)

-- the number and the count that each case states, and those of the request
pub record Counted : Type 0 where
  pub number : ℕ
  pub bytes : ℕ

abbrev pub states_printing : Result ℕ Refusal → Counted
states_printing (Ok n) = record { number = 0; bytes = n }
states_printing (Err e) = record { number = number_of e; bytes = 0 }

unfoldable pub counted : ℕ → List ℕ → ℕ → Counted
counted k raster n = unless (write_refusal k (length raster) n) (λ n. record { number = n; bytes = 0 }) (record { number = 0; bytes = length (picture_text k raster) })
