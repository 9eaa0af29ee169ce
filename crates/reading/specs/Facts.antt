-- What the promise of `read` says of its answer, for every answer that satisfies it. That it holds is proofs/Facts.
use Rattle.std.specs.Prelude.{◌≡◌, List, ℕ, ◌-◌, ◌≤◌, pos, length, take, drop, replicate, Result}
use Rattle.page.specs.Sheet.{count}
use Rattle.page.specs.Refusals.{first}
use Rattle.page.specs.Numbers.{number_of, by_number}
use Rattle.page.specs.SheetLine.{lines, fault}
use Rattle.page.specs.SheetText.{Said, sheet_in, refused, accepted, outcome}
use Rattle.page.specs.ReadFacts.{text_table}
use Rattle.page.specs.FaultFacts.{FaultAt}
use Rattle.reading.specs.declared.Sheet.{Sheet}
use Rattle.reading.specs.declared.Refused.{Refused}
use Rattle.reading.specs.Answers.{reading, states, stated}
use Rattle.reading.specs.Promises.{ReadPromise}

-- every number that reading a text gives, 11, 14 to 20 and those of the table, names a refusal with that number
abbrev pub ReadingNamed : Type 0
ReadingNamed = (text : List ℕ) (n line field : ℕ) → outcome text ≡ refused n line field → number_of (by_number n) ≡ n

-- so the answer of the definition states the page's numbers, all of them, which the promise says beside it
abbrev pub ReadingStates : Type 0
ReadingStates = (text : List ℕ) (r : Result Sheet Refused) → r ≡ reading text → states r ≡ stated text

-- the number is that of the first row that holds, 11 and then 14 to 20 before the rest
abbrev pub ReadingNumber : Type 0
ReadingNumber = (text : List ℕ) (r : Result Sheet Refused) → ReadPromise text r → (states r).refusal ≡ first (text_table text)

-- where it is not 0, zeros stand beside it: every number that the answer states but the line and the field is 0, and all 45 coefficients are
abbrev pub ReadingZeros : Type 0
ReadingZeros = (text : List ℕ) (r : Result Sheet Refused) → ReadPromise text r → ((states r).refusal ≡ 0 → ⊥) →
    states r ≡ record { refusal = (states r).refusal; line = (states r).line; field = (states r).field; d = 0; x = pos 0; y = pos 0; s = 0; k = 0; mode = 0; coefficients = replicate 45 (pos 0) }

-- the line is counted from 1 where the number is 14 to 20, and everywhere else it is 0, as the field is; the number is never 10
abbrev pub ReadingLine : Type 0
ReadingLine = (text : List ℕ) (r : Result Sheet Refused) → ReadPromise text r →
    (14 ≤ (states r).refusal → 1 ≤ (states r).line) × ((states r).refusal ≤ 11 → ((states r).line ≡ 0) × ((states r).field ≡ 0)) × ((states r).refusal ≡ 10 → ⊥)

-- the number, the line and the field go together as the request has them: which of them that is, FaultFound of page/specs/FaultFacts says
abbrev pub ReadingField : Type 0
ReadingField = (text : List ℕ) (r : Result Sheet Refused) → ReadPromise text r → 14 ≤ (states r).refusal → FaultAt (length (lines text)) (states r).line (fault (states r).refusal (states r).field)

-- where the text is accepted, the coefficients of its sheet stand first, and zeros in all places that are not used
abbrev pub ReadingSheet : Type 0
ReadingSheet = (text : List ℕ) (r : Result Sheet Refused) (w : Said) → ReadPromise text r → outcome text ≡ accepted w →
    (take (count (states r).d) (states r).coefficients ≡ (sheet_in w).coefficients) × (drop (count (states r).d) (states r).coefficients ≡ replicate (45 - count (states r).d) (pos 0))
