-- The answer of `read_pbm`, and the place afterwards, by what the text is: the side's depth, and the mask; or a refusal, and nothing changed.
use Rattle.std.specs.Prelude.{List, ◌++◌, ℕ, length, drop, Result, Ok, Err}
use Rattle.page.specs.declared.Refusal.{Refusal}
use Rattle.page.specs.Refusals.{unless}
use Rattle.page.specs.Numbers.{number_of, answer}
use Rattle.pbm.specs.Refusals.{Found, read_refusal, depth_in, mask_in}

-- into a place of n bytes
unfoldable pub scanned : Found → ℕ → Result ℕ Refusal
scanned f n = answer (read_refusal f n) (depth_in f)

-- the place afterwards: the mask, and after it the bytes as they were
unfoldable pub scanned_place : Found → List ℕ → List ℕ
scanned_place f old = unless (read_refusal f (length old)) (λ n. old) (mask_in f ++ drop (length (mask_in f)) old)

-- the number and the depth that each case states, and those of the request
pub record Sized : Type 0 where
  pub number : ℕ
  pub depth : ℕ

abbrev pub states_scan : Result ℕ Refusal → Sized
states_scan (Ok k) = record { number = 0; depth = k }
states_scan (Err e) = record { number = number_of e; depth = 0 }

unfoldable pub sized : Found → ℕ → Sized
sized f n = unless (read_refusal f n) (λ n. record { number = n; depth = 0 }) (record { number = 0; depth = depth_in f })
