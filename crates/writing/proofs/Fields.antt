-- Fields and lines: the room that they take, and lines put field by field.
use mathlib.Core.Path.{◌≡◌, refl, sym, ◌∙◌, ap, subst}
use mathlib.Core.List.{List, [], ◌∷◌, ◌++◌, map, flat_map, append_assoc}
use Prim.Native.Nat.{ℕ, ◌+◌, ◌/◌, ◌%◌, ◌^◌, ◌≤◌, ◌<◌}
use native.Mathlib.Omega.{arith}
use lib.Dec.{lit≤}
use lib.ListN.{length, length-append}
use Rattle.page.specs.ListingText.{decimal, line_text, mark, record_line}
use Rattle.page.proofs.Decimals.{decimal_short}
use Rattle.writing.specs.Steps.{record_text, tabbed, Put}
use Rattle.writing.proofs.Puts.{put_two}

-- ---- at most ten digits, five for a level, three for a column or a row
pub number_short : (n : ℕ) → n < 2 ^ 32 → length (decimal n) ≤ 10
number_short n h = decimal_short 10 n (lit≤ tt) (omega arith)

pub level_short : (r : ℕ) → r < 2 ^ 32 → length (decimal (r / 65_536)) ≤ 5
level_short r h = decimal_short 5 (r / 65_536) (lit≤ tt) (omega arith)

pub column_short : (n : ℕ) → length (decimal (n % 128)) ≤ 3
column_short n = decimal_short 3 (n % 128) (lit≤ tt) (omega arith)

-- a field is a number and the byte that ends it
pub field_room : (at n m : ℕ) {room : ℕ} → length (decimal n) ≤ m → at + m + 1 ≤ room → at + length (decimal n) + 1 ≤ room
field_room at n m l h = omega arith

pub field_end : (n e m : ℕ) {at r : ℕ} {old now : List ℕ} → length (decimal n) ≤ m → Put at (decimal n ++ (e ∷ [])) old now r → r ≤ at + m + 1
field_end n e m l h = omega (arith, h.put.ends, length-append (decimal n) (e ∷ []))

-- where a level ends, and a column or a row
pub level_end : (r : ℕ) {at a : ℕ} {old now : List ℕ} → r < 2 ^ 32 → Put at (decimal (r / 65_536) ++ (9 ∷ [])) old now a → a ≤ at + 6
level_end r h p = omega (arith, field_end _ _ _ (level_short r h) p)

pub column_end : (n : ℕ) {at a : ℕ} {old now : List ℕ} → Put at (decimal (n % 128) ++ (9 ∷ [])) old now a → a ≤ at + 4
column_end n p = omega (arith, field_end _ _ _ (column_short n) p)

pub record_short : (r : ℕ) → r < 2 ^ 32 → length (record_text r) ≤ 16
unfolding record_line
record_short r h = simp length-append (omega (arith, level_short r h, column_short (r / 4), column_short (r / 512)))

-- ---- a line of a record is three fields, the mark and LF
pub put_cells : (colour level p q : ℕ) {l₀ l₁ l₂ l₃ l₄ l₅ : List ℕ} {a₀ a₁ a₂ a₃ a₄ a₅ : ℕ}
    → Put a₀ (decimal level ++ (9 ∷ [])) l₀ l₁ a₁ → Put a₁ (decimal p ++ (9 ∷ [])) l₁ l₂ a₂ → Put a₂ (decimal q ++ (9 ∷ [])) l₂ l₃ a₃
    → Put a₃ (mark colour ∷ []) l₃ l₄ a₄ → Put a₄ (10 ∷ []) l₄ l₅ a₅ → Put a₀ (record_line colour level p q) l₀ l₅ a₅
unfolding record_line
put_cells colour level p q h₁ h₂ h₃ h₄ h₅ = simp append_assoc at (put_two h₁ (put_two h₂ (put_two h₃ (put_two h₄ h₅))))

-- ---- a line of a word and numbers is the word, each number after a tab, and LF
line_is : (word ns : List ℕ) → line_text (word ∷ map decimal ns) ≡ word ++ (tabbed ns ++ (10 ∷ []))
unfolding tabbed flat_map
line_is word [] = refl
line_is word (n ∷ ns) = ap (λ l. word ++ (9 ∷ l)) (line_is (decimal n) ns ∙ sym (append_assoc (decimal n) (tabbed ns) (10 ∷ [])))

pub put_parts : (word ns : List ℕ) {l₀ l₁ l₂ l₃ : List ℕ} {a₀ a₁ a₂ a₃ : ℕ}
    → Put a₀ word l₀ l₁ a₁ → Put a₁ (tabbed ns) l₁ l₂ a₂ → Put a₂ (10 ∷ []) l₂ l₃ a₃ → Put a₀ (line_text (word ∷ map decimal ns)) l₀ l₃ a₃
put_parts word ns {l₀} {l₃ = l₃} {a₀} {a₃ = a₃} h₁ h₂ h₃ = subst (λ bytes. Put a₀ bytes l₀ l₃ a₃) (sym (line_is word ns)) (put_two h₁ (put_two h₂ h₃))
