-- The answers of the calls that walk, and the places afterwards: the values and what is written, or a refusal and nothing changed. What an answer states is the values, or the refusal's number with zeros.
use Rattle.std.specs.Prelude.{List, ◌++◌, ℕ, ◌^◌, length, drop, Result, Ok, Err}
use Rattle.verdicts.specs.Walking.{Verdicts, raster, records, visited, coloured, largest_bend}
use Rattle.page.specs.Sheet.{Sheet, mode_of}
use Rattle.page.specs.Bounds.{verdict}
use Rattle.page.specs.Refusals.{to_walk, refusal, unless}
use Rattle.page.specs.declared.Refusal.{Refusal}
use Rattle.page.specs.Numbers.{number_of, answer}
use Rattle.marks.specs.declared.Seen.{Seen}
use Rattle.walk.specs.declared.Records.{Records}

-- the verdicts on a sheet's cells in a mode
abbrev pub verdicts : Sheet → ℕ → Verdicts
verdicts S mode = verdict S (mode_of mode)

-- ---- the tally of a walk
abbrev pub tally : Sheet → ℕ → Seen
tally S mode = record { visited = visited (verdicts S mode) S.k; coloured = coloured (verdicts S mode) S.k; bend = largest_bend (verdicts S mode) S.k }

-- ---- raster, with the tally. The place has n entries
unfoldable pub tallied : Sheet → ℕ → ℕ → Result Seen Refusal
tallied S mode n = answer (refusal (to_walk S mode n)) (tally S mode)

-- the place afterwards: the raster's 4^k bytes, and after them the entries as they were
unfoldable pub rastered : Sheet → ℕ → List ℕ → List ℕ
rastered S mode old = unless (refusal (to_walk S mode (length old))) (λ n. old) (raster (verdicts S mode) S.k ++ drop (4 ^ S.k) old)

-- the number and the tally that each case states, and those of the page
pub record Reckoned : Type 0 where
  pub number : ℕ
  pub visited : ℕ
  pub coloured : ℕ
  pub bend : ℕ

abbrev pub states_tally : Result Seen Refusal → Reckoned
states_tally (Ok t) = record { number = 0; visited = t.visited; coloured = t.coloured; bend = t.bend }
states_tally (Err e) = record { number = number_of e; visited = 0; coloured = 0; bend = 0 }

unfoldable pub reckoned : Sheet → ℕ → ℕ → Reckoned
reckoned S mode n =
    unless (refusal (to_walk S mode n)) (λ n. record { number = n; visited = 0; coloured = 0; bend = 0 })
    (record { number = 0; visited = visited (verdicts S mode) S.k; coloured = coloured (verdicts S mode) S.k; bend = largest_bend (verdicts S mode) S.k })

-- ---- listing, with its length and tally
unfoldable pub listed : Sheet → ℕ → ℕ → Result Records Refusal
listed S mode n = answer (refusal (to_walk S mode n)) (record { length = length (records (verdicts S mode) S.k); seen = tally S mode })

-- the place afterwards: the records, and after them the entries as they were
unfoldable pub recorded : Sheet → ℕ → List ℕ → List ℕ
recorded S mode old =
    unless (refusal (to_walk S mode (length old))) (λ n. old) (records (verdicts S mode) S.k ++ drop (length (records (verdicts S mode) S.k)) old)

-- the number, the length and the tally that each case states, and those of the page
pub record Enumerated : Type 0 where
  pub number : ℕ
  pub length : ℕ
  pub visited : ℕ
  pub coloured : ℕ
  pub bend : ℕ

abbrev pub states_listing : Result Records Refusal → Enumerated
states_listing (Ok l) = record { number = 0; length = l.length; visited = l.seen.visited; coloured = l.seen.coloured; bend = l.seen.bend }
states_listing (Err e) = record { number = number_of e; length = 0; visited = 0; coloured = 0; bend = 0 }

unfoldable pub enumerated : Sheet → ℕ → ℕ → Enumerated
enumerated S mode n =
    unless (refusal (to_walk S mode n)) (λ n. record { number = n; length = 0; visited = 0; coloured = 0; bend = 0 })
    (record { number = 0; length = length (records (verdicts S mode) S.k); visited = visited (verdicts S mode) S.k; coloured = coloured (verdicts S mode) S.k; bend = largest_bend (verdicts S mode) S.k })
