-- No line of the text of a picture is longer than 70, and each is ended.
use mathlib.Core.Path.{◌≡◌, refl, sym, ◌∙◌}
use mathlib.Core.Bool.{Bool, true, ◌&&◌}
use mathlib.Core.List.{List, [], ◌∷◌, ◌++◌, flat_map, Memᴰ}
use Prim.Native.Nat.{ℕ, zero, suc, ◌+◌, ◌-◌, ◌%◌, ◌^◌, ◌≤◌, ◌<◌}
use native.Mathlib.Nat as Nat
use native.Mathlib.Decide.{ℕ_discrete}
use native.Mathlib.Omega.{arith}
use lib.Dec.{leb, lit≤}
use lib.ListN.{length}
use lib.Pow.{pow_pos}
use borrow.Author.Tests.{leb-true, le-leb, eq-eqb, ne_eqb}
use Rattle.algebra.specs.Sum.{span}
use Rattle.algebra.proofs.Choice.{and_left, and_right, and_both}
use Rattle.page.specs.SheetLine.{Line, before_line, lines, is_digit, all_digits}
use Rattle.page.specs.ListingText.{decimal}
use Rattle.pbm.specs.Writing.{head_text, digit, digit_text, row_text, rows_text, picture_text}
use Rattle.pbm.specs.Reading.{each}
use Rattle.pbm.specs.Facts.{NoLongLine}
use Rattle.pbm.proofs.Lengths.{below_none, below_next, ends_full, ends_not, column_ended, column_plain, row_parts}
use Rattle.pbm.proofs.Sides.{decimal_digits, side_short}

-- ---- bytes that make no line longer than m: c bytes of a line stand before them, and after them d bytes of a line stand
pub data Lined (m : ℕ) : ℕ → List ℕ → ℕ → Type 0 where
  none : {c d : ℕ} → c ≡ d → Lined m c [] d
  ends : {b c d : ℕ} {bs : List ℕ} → b ≡ 10 → Lined m 0 bs d → Lined m c (b ∷ bs) d
  goes : {b c d : ℕ} {bs : List ℕ} → (b ≡ 10 → ⊥) → c < m → Lined m (c + 1) bs d → Lined m c (b ∷ bs) d

-- a larger byte is no LF
pub no_LF : (b : ℕ) → 10 < b → b ≡ 10 → ⊥
no_LF b h e = omega arith

module _ {m : ℕ} where
  pub lined_++ : {c d e : ℕ} {xs ys : List ℕ} → Lined m c xs d → Lined m d ys e → Lined m c (xs ++ ys) e
  lined_++ (none h) j = rw h j
  lined_++ (ends h i) j = ends h (lined_++ i j)
  lined_++ (goes h l i) j = goes h l (lined_++ i j)

  -- texts of whole lines, one after the other
  pub lined_each : {X : Type 0} (f : X → List ℕ) (xs : List X) → ((x : X) → Memᴰ x xs → Lined m 0 (f x) 0) → Lined m 0 (flat_map f xs) 0
  unfolding flat_map
  lined_each f [] h = none refl
  lined_each f (x ∷ xs) h = lined_++ (h x (Memᴰ.head refl)) (lined_each f xs (λ y i. h y (Memᴰ.tail i)))

  -- digits end no line
  pub lined_digits : (c : ℕ) (bs : List ℕ) → all_digits bs ≡ true → c + length bs ≤ m → Lined m c bs (c + length bs)
  unfolding all_digits
  lined_digits c [] h l = none (sym (Nat.add-zero c))
  lined_digits c (b ∷ bs) h l =
      let low = leb-true 48 b (and_left (leb 48 b) (leb b 57) (and_left (is_digit b) (all_digits bs) h)) in
      let e : c + 1 + length bs ≡ c + suc (length bs) = omega arith in
      let room : c < m = omega arith in
      goes (no_LF b (omega arith)) room (rw e at (lined_digits (c + 1) bs (and_right (is_digit b) (all_digits bs) h) (omega arith)))

-- ---- the lines of such a text: the first with the c bytes that stand before it, and the others
abbrev is_short : ℕ → Line → Bool
is_short m l = leb (length l.bytes) m && l.ended

abbrev Short : ℕ → ℕ → List Line → Type 0
Short m c [] = c ≡ 0
Short m c (l ∷ ls) = (c + length l.bytes ≤ m) × (l.ended ≡ true) × (each (is_short m) ls ≡ true)

each_short : (m : ℕ) (ls : List Line) → Short m 0 ls → each (is_short m) ls ≡ true
unfolding each
each_short m [] h = refl
each_short m (l ∷ ls) h = let (s, e, r) = h in and_both (is_short m l) _ (and_both (leb (length l.bytes) m) _ (le-leb _ m (omega arith)) e) r

short_lines : {m c : ℕ} {xs : List ℕ} {d : ℕ} → Lined m c xs d → d ≡ 0 → c ≤ m → Short m c (lines xs)
unfolding lines
short_lines (none h) z l = h ∙ z
short_lines {m} (ends {b} {bs = bs} h i) z l = rw (eq-eqb b 10 h) (omega arith, refl, each_short m (lines bs) (short_lines i z (omega arith)))
short_lines {m} {c} (goes {b} {bs = bs} h l i) z _ = rw (ne_eqb b 10 h) (before (lines bs) (short_lines i z (omega arith)))
  where
    before : (ls : List Line) → Short m (c + 1) ls → Short m c (before_line b ls)
    before [] s = absurd (omega arith)
    before (l ∷ ls) s = let (n, e, r) = s in (omega arith, e, r)

-- no line of whole lines is longer than m, and each is ended
pub lined_short : (m : ℕ) (xs : List ℕ) → Lined m 0 xs 0 → each (λ l. leb (length l.bytes) m && l.ended) (lines xs) ≡ true
lined_short m xs h = each_short m (lines xs) (short_lines h refl (omega arith))

-- ---- a row: m digits are some lines of 70 and m % 70 digits more, and the last digit ends a line
module _ (k : ℕ) (raster : List ℕ) (q : ℕ) where
  lined_column : (p : ℕ) → p + 1 < 2 ^ k → Lined 70 (p % 70) (digit_text (2 ^ k) raster q p) (suc p % 70)
  lined_column p h =
      let byte = no_LF (digit (2 ^ k) raster q p) (omega arith) in
      let room : p % 70 < 70 = omega arith in
      elim (ℕ_discrete ((p + 1) % 70) 0) [
        | yes e ↦
            let next : 0 ≡ suc p % 70 = omega arith in
            rw (column_ended k raster q p (ends_full k p e)) (goes byte room (ends refl (none next)))
        | no n ↦
            let next : p % 70 + 1 ≡ suc p % 70 = omega arith in
            rw (column_plain k raster q p (ends_not k p n (λ e. omega arith))) (goes byte room (none next))
      ]

  lined_below : (m : ℕ) → m < 2 ^ k → Lined 70 0 (flat_map (digit_text (2 ^ k) raster q) (span 0 m)) (m % 70)
  lined_below zero h = rw (below_none (digit_text (2 ^ k) raster q)) (none refl)
  lined_below (suc m) h = rw (below_next (digit_text (2 ^ k) raster q) m) (lined_++ (lined_below m (omega arith)) (lined_column m (omega arith)))

  pub lined_row : Lined 70 0 (row_text (2 ^ k) raster q) 0
  lined_row =
      let some = pow_pos k in
      let room : (2 ^ k - 1) % 70 < 70 = omega arith in
      rw (row_parts k raster q) (lined_++ (lined_below (2 ^ k - 1) (omega arith)) (goes (no_LF _ (omega arith)) room (ends refl (none refl))))

-- ---- the head: `P1`, and a line of two sizes, at most 7 bytes
lined_head : (k : ℕ) → k ≤ 7 → Lined 70 0 (head_text (2 ^ k)) 0
unfolding head_text
lined_head k h =
    let n = length (decimal (2 ^ k)) in
    let few = side_short k h in
    let all = decimal_digits (2 ^ k) in
    let first : 0 < 70 = lit≤ tt in
    let second : 0 + 1 < 70 = lit≤ tt in
    let room : 0 + n < 70 = omega arith in
    goes (no_LF 80 (lit≤ tt)) first (goes (no_LF 49 (lit≤ tt)) second (ends refl
    (lined_++ (lined_digits 0 (decimal (2 ^ k)) all (omega arith))
    (goes (no_LF 32 (lit≤ tt)) room
    (lined_++ (lined_digits (0 + n + 1) (decimal (2 ^ k)) all (omega arith)) (ends refl (none refl)))))))

lined_text : (k : ℕ) (raster : List ℕ) → k ≤ 7 → Lined 70 0 (picture_text k raster) 0
unfolding picture_text rows_text
lined_text k raster h = lined_++ (lined_head k h) (lined_each _ (span 0 (2 ^ k)) (λ n m. lined_row k raster _))

pub no_long_line : NoLongLine
no_long_line k raster h = lined_short 70 (picture_text k raster) (lined_text k raster h)
