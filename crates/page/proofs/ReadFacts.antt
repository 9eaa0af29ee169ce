-- What the page says of reading a text holds.
use mathlib.Core.Path.{◌≡◌, refl, sym, ◌∙◌, ap, subst}
use mathlib.Core.Bool.{Bool, true, false, ◌||◌, cond}
use mathlib.Core.List.{List, [], ◌∷◌, ◌++◌, map, append-nil, Memᴰ}
use Prim.Native.Nat.{ℕ, zero, suc, ◌^◌, ◌≤◌, ◌<◌}
use native.Mathlib.Omega.{arith}
use borrow.Author.Tests.{eqb-true, eq-eqb, ltb-true, ltb-false, lt-ltb}
use lib.Dec.{leb, ltb, eqb}
use lib.ListN.{length, take}
use lib.Seq.{take_all, length-take-le}
use Rattle.algebra.specs.Sum.{run, span, ◌⋯◌}
use Rattle.algebra.proofs.Run.{member_⋯}
use Rattle.page.specs.Sheet.{count}
use Rattle.page.specs.Weight.{weight}
use Rattle.page.specs.Refusals.{outside_range, ◌when◌, table, first, refusal, unless}
use Rattle.page.specs.SheetLine.{Line, ended_line, before_line, lines, before_field, fields, Fault}
use Rattle.page.specs.SheetText.{coefficient_of, Said, Text, bad_line, well_formed, text_of, sheet_in, to_read, refused, accepted, outcome_of, outcome}
use Rattle.page.specs.ReadFacts.{TermsAre, AsManyCoefficients, ReadNumber, ReadNever, number_of, rows_of, ReadTable, BadWithin, BadStays, LinesJoin, FieldsJoin, FourLines, FirstDecide}
use Rattle.page.proofs.Rows.{unless_number}
use Rattle.page.proofs.Order.{order_long, in_order_at}
use Rattle.page.proofs.TextWalk.{fault_numbered, Walked, text_walked, bad_at}

pub terms_are : TermsAre
terms_are w i j h = in_order_at w.d (coefficient_of w.terms) i j h

pub as_many_coefficients : AsManyCoefficients
as_many_coefficients w = order_long w.d (coefficient_of w.terms)

-- ---- the rows of a well-formed text: 1, 3, 4, 5, 6
rows_held : (a c d e f : Bool) → let n : ℕ = cond a 1 (cond c 3 (cond d 4 (cond e 5 (cond f 6 0)))) in (n ≤ 6) × (n ≡ 2 → ⊥)
rows_held true c d e f = (omega arith, λ z. omega arith)
rows_held false true d e f = (omega arith, λ z. omega arith)
rows_held false false true e f = (omega arith, λ z. omega arith)
rows_held false false false true f = (omega arith, λ z. omega arith)
rows_held false false false false true = (omega arith, λ z. omega arith)
rows_held false false false false false = (omega arith, λ z. omega arith)

text_rows : (w : Said) → (refusal (to_read w) ≤ 6) × (refusal (to_read w) ≡ 2 → ⊥)
unfolding table first
text_rows w =
    let S = sheet_in w in
    rw (eq-eqb (length S.coefficients) (count S.d) (as_many_coefficients w))
    (rows_held (ltb 8 S.d) (ltb 7 S.k) (outside_range S.X || outside_range S.Y || ltb 10 S.s) (ltb 1 w.mode) (leb (2 ^ 62) (weight S)))

-- ---- where the bad line is, and that it stays
pub bad_within : BadWithin
bad_within ls n f e = (bad_at ls [] n f e).0.within

pub bad_stays : BadStays
bad_stays ls more n f e = (bad_at ls more n f e).1

-- ---- the fault of a bad line is one of 14 to 20, and the line is counted from 1
abbrev Numbered : Text → Type 0
Numbered t = (n : ℕ) (f : Fault) → t ≡ bad_line n f → (14 ≤ f.number) × (f.number ≤ 20) × (1 ≤ n)

numbered : (ls : List Line) → Numbered (text_of ls)
numbered ls n f e = fault_numbered (bad_at ls [] n f e).0.placed

-- ---- the first row that holds
-- of the rows 14 to 20 it is that of the fault
fault_row : (n : ℕ) (rows : List ℕ) → Memᴰ n rows → first (map (λ row. row when eqb n row) rows) ≡ n
unfolding first
fault_row n [] x = elim x [ ]
fault_row n (r ∷ rs) (Memᴰ.head e) = rw (eq-eqb n r e) (sym e)
fault_row n (r ∷ rs) (Memᴰ.tail m) = by (eqb n r) (eqb-true n r) (fault_row n rs m)
  where
    by : (b : Bool) {x : ℕ} → (b ≡ true → n ≡ r) → x ≡ n → cond b r x ≡ n
    by true t k = sym (t refl)
    by false t k = k

in_table : (long : Bool) (t : Text) → Numbered t → number_of (cond long (refused 11 0 0) (outcome_of t)) ≡ cond long 11 (first (rows_of t))
unfolding first ◌⋯◌ span run
in_table true t c = refl
in_table false (bad_line n f) c = let (a, b, _) = c n f refl in sym (fault_row f.number (14 ⋯ 20) (member_⋯ 14 20 f.number a b))
in_table false (well_formed w) c = unless_number number_of (refusal (to_read w)) (λ n. refl) refl refl

pub read_table : ReadTable
unfolding outcome first
read_table text = in_table (ltb 8_192 (length text)) (text_of (lines text)) (numbered (lines text))

-- ---- which numbers reading gives
-- by the rows of a well-formed text: without a line or a field
pub by_rows : (m : ℕ) (w : Said) {n line field : ℕ} → unless m (λ n. refused n 0 0) (accepted w) ≡ refused n line field → (n ≡ m) × (m ≡ 0 → ⊥) × (line ≡ 0) × (field ≡ 0)
by_rows zero w e = let z : ◌≡◌ {A = ℕ} 0 1 = cc in absurd (omega arith)
by_rows (suc m) w e = ((cc), λ z. omega arith, (cc), (cc))

told : (long : Bool) (t : Text) → Numbered t → {n line field : ℕ} → cond long (refused 11 0 0) (outcome_of t) ≡ refused n line field → ReadNumber n line field
told true t c {n} {line} {field} e = let p : n ≡ 11 = cc in let q : line ≡ 0 = cc in let r : field ≡ 0 = cc in search arith
told false (bad_line m f) c {n} {line} {field} e = let (a, b, l) = c m f refl in let p : n ≡ f.number = cc in let q : line ≡ m = cc in search arith
told false (well_formed w) c {n} {line} {field} e =
    let (p, o, q, r) = by_rows (refusal (to_read w)) w e in let (l, k) = text_rows w in
    let a : n ≡ 0 → ⊥ = λ z. o (sym p ∙ z) in let b : n ≡ 2 → ⊥ = λ z. k (sym p ∙ z) in search arith

pub read_never : ReadNever
unfolding outcome
read_never text n line field e = told (ltb 8_192 (length text)) (text_of (lines text)) (numbered (lines text)) e

-- ---- bytes in parts, of which c ends one: what stands up to a c, closed as the last bytes of all are, has a part at least, which takes the byte before it
module _ {X : Type 0} (c : ℕ) (closed : List ℕ) (parts : List ℕ → List X) (empty : X) (before : ℕ → List X → List X)
    (law : (b : ℕ) (bs : List ℕ) → parts (b ∷ bs) ≡ cond (eqb b c) (empty ∷ parts bs) (before b (parts bs)))
    (takes : (b : ℕ) (p : X) (ps qs : List X) → before b ((p ∷ ps) ++ qs) ≡ before b (p ∷ ps) ++ qs)
    (grows : (b : ℕ) (p : X) (ps : List X) → 1 ≤ length (before b (p ∷ ps)))
    (alone : parts closed ≡ empty ∷ []) where
  joined : (bytes more : List ℕ) → (parts (bytes ++ (c ∷ more)) ≡ parts (bytes ++ closed) ++ parts more) × (1 ≤ length (parts (bytes ++ closed)))
  joined [] more = (law c more ∙ rw (eq-eqb c c refl, alone), rw alone (omega arith))
  joined (b ∷ bytes) more = rw (law b (bytes ++ (c ∷ more)), law b (bytes ++ closed)) (by (eqb b c) (parts (bytes ++ closed)) (joined bytes more))
    where
      by : (e : Bool) (ps : List X) {longer : List X} → (longer ≡ ps ++ parts more) × (1 ≤ length ps)
          → let l = cond e (empty ∷ ps) (before b ps) in (cond e (empty ∷ longer) (before b longer) ≡ l ++ parts more) × (1 ≤ length l)
      by true ps h = (ap (λ l. empty ∷ l) h.0, omega arith)
      by false [] h = absurd (omega arith)
      by false (p ∷ ps) h = (ap (before b) h.0 ∙ takes b p ps (parts more), grows b p ps)

-- lines end at an LF, fields at a tab; a last line has its LF, a last field no tab
pub lines_join : LinesJoin
unfolding lines
lines_join text more = (joined 10 (10 ∷ []) lines (ended_line []) before_line (λ b bs. refl) (λ b p ps qs. refl) (λ b p ps. omega arith) refl text more).0

pub fields_join : FieldsJoin
unfolding fields
fields_join bytes more = (joined 9 [] fields [] before_field (λ b bs. refl) (λ b p ps qs. refl) (λ b p ps. omega arith) refl bytes more).0 ∙ ap (λ l. fields l ++ fields more) (append-nil bytes)

-- ---- a well-formed text has each of the first four lines
pub four_lines : FourLines
four_lines ls w e = subst (λ t. Walked ls t (text_of (ls ++ []))) e (text_walked ls [])

-- ---- the first 8,193 bytes decide
too_long : (text : List ℕ) → 8_192 < length text → outcome text ≡ refused 11 0 0
unfolding outcome
too_long text h = let l : ltb 8_192 (length text) ≡ true = lt-ltb 8_192 (length text) h in rw l

pub first_decide : FirstDecide
first_decide text = by (ltb 8_192 (length text)) refl
  where
    by : (b : Bool) → ltb 8_192 (length text) ≡ b → outcome (take 8_193 text) ≡ outcome text
    by true e =
        let h = ltb-true 8_192 (length text) e in let l : length (take 8_193 text) ≡ 8_193 = length-take-le 8_193 text h in
        too_long (take 8_193 text) (omega (arith, l)) ∙ sym (too_long text h)
    by false e = let h = ltb-false 8_192 (length text) e in ap outcome (take_all 8_193 text (omega arith))
