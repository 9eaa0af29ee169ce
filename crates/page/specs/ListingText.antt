-- The listing program: the text that it writes for the text that it reads. Its lines end in LF, fields parted by one tab.
use Rattle.std.specs.Prelude.{cond, ℕ, zero, suc, ◌+◌, ◌/◌, ◌%◌, ltb, eqb}
use mathlib.Core.List.{List, [], ◌∷◌, ◌++◌, flat_map}
use Rattle.verdicts.specs.Walking.{Verdicts, Cell, colour_of, those, is_listed, walking_order, visited, coloured}
use Rattle.page.specs.Sheet.{mode_of}
use Rattle.page.specs.Bounds.{verdict}
use Rattle.page.specs.SheetText.{sheet_in, Outcome, refused, accepted, outcome}

-- ---- a number in decimal, no leading zero: n has at most n + 1 digits
unfoldable pub digits_within : ℕ → ℕ → List ℕ
digits_within zero n = []
digits_within (suc most) n = cond (ltb n 10) ((48 + n) ∷ []) (digits_within most (n / 10) ++ ((48 + n % 10) ∷ []))

unfoldable pub decimal : ℕ → List ℕ
decimal n = digits_within (n + 1) n

-- ---- a line: its fields, a tab (byte 9) between two of them, and LF (byte 10)
abbrev pub line_text : List (List ℕ) → List ℕ
line_text [] = 10 ∷ []
line_text (f ∷ []) = f ++ (10 ∷ [])
line_text (f ∷ g ∷ fs) = f ++ (9 ∷ line_text (g ∷ fs))

-- `0` coloured, `+` above or `-` below, by the colour 1, 2 or 3
abbrev pub mark : ℕ → ℕ
mark colour = cond (eqb colour 2) 43 (cond (eqb colour 3) 45 48)

-- per record level, p, q, and the mark
unfoldable pub record_line : ℕ → ℕ → ℕ → ℕ → List ℕ
record_line colour level p q = line_text (decimal level ∷ decimal p ∷ decimal q ∷ (mark colour ∷ []) ∷ [])

abbrev pub cell_line : Verdicts → Cell → List ℕ
cell_line v c = record_line (colour_of (v c.level c.column c.row ∷ [])) c.level c.column c.row

-- last `total`, visited, coloured
unfoldable pub total_line : ℕ → ℕ → List ℕ
total_line visited coloured = line_text ((116 ∷ 111 ∷ 116 ∷ 97 ∷ 108 ∷ []) ∷ decimal visited ∷ decimal coloured ∷ [])

-- a refusal is the single line `refused`, number, line, field (0 where no line or no field is meant)
unfoldable pub refused_line : ℕ → ℕ → ℕ → List ℕ
refused_line number line field = line_text ((114 ∷ 101 ∷ 102 ∷ 117 ∷ 115 ∷ 101 ∷ 100 ∷ []) ∷ decimal number ∷ decimal line ∷ decimal field ∷ [])

-- ---- a line for each record of the listing, in its order, and the total
unfoldable pub listing_text : Verdicts → ℕ → List ℕ
listing_text v k = flat_map (cell_line v) (those (is_listed v k) (walking_order k 0 0 0)) ++ total_line (visited v k) (coloured v k)

-- ---- the text that is written
abbrev pub text_after : Outcome → List ℕ
text_after (refused n line field) = refused_line n line field
text_after (accepted w) = listing_text (verdict (sheet_in w) (mode_of w.mode)) w.k

unfoldable pub written_text : List ℕ → List ℕ
written_text text = text_after (outcome text)
