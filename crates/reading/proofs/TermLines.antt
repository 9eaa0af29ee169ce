-- A term's line: what it comes to as a line of the letter `T` and three numbers, and the two term faults before a fault of the coefficient.
use mathlib.Core.Path.{◌≡◌, refl, ap, subst}
use mathlib.Core.Bool.{Bool, true, false, not, ◌&&◌, cond}
use mathlib.Core.List.{List, [], ◌∷◌, ◌++◌}
use Prim.Native.Nat.{ℕ, suc, ◌<◌}
use native.Mathlib.Omega.{arith}
use borrow.Author.Tests.{eqb-true, eq-eqb}
use lib.Dec.{leb, eqb}
use lib.IntN.{ℤ}
use lib.ListN.{length, get_or, drop}
use Rattle.page.specs.SheetLine.{Line, unsigned, signed, is_written, is_within, worth, letter_field, number_fields, is_letter, reads_well, fault, ◌at_field◌when◌, field_faults, number_faults, Numbers, faulty, good, first_fault, worths, line_numbers}
use Rattle.page.specs.SheetText.{Term, term_of, is_named, is_beyond, term_numbers}
use Rattle.page.specs.FaultFacts.{Means}
use Rattle.page.proofs.LineFaults.{line_means, good_means}
use Rattle.lines.specs.Steps.{well_before, read_in}

-- the three numbers of a term: only the coefficient may be negative
abbrev pub term_signs : List Bool
term_signs = unsigned ∷ unsigned ∷ signed ∷ []

-- both exponents are read: letter and count are right, and the first two numbers read well
abbrev pub both_read : Line → Bool
both_read l = leb 2 (read_in 84 term_signs l)

-- what a line comes to as a term, by what it comes to as a line
abbrev pub as_term : Bool → Bool → Bool → Numbers → Numbers
as_term both beyond twice r = cond (both && beyond) (faulty (fault 18 2)) (cond (both && twice) (faulty (fault 19 2)) r)

-- ---- by the tests of a line, w whether a number is written well and i whether it is within its range
-- letter and count
abbrev letter_count : Bool → Bool → Numbers → Numbers
letter_count letter count r = cond (not letter) (faulty (fault 14 1)) (cond (not count) (faulty (fault 15 0)) r)

-- the first two numbers, and c whether the third reads well
module _ (beyond twice : Bool) (rest : Numbers) where
  abbrev first_field : Bool → Bool → Numbers → Numbers
  first_field w i r = cond (not w) (faulty (fault 16 2)) (cond (not i) (faulty (fault 17 2)) r)

  abbrev second_field : Bool → Bool → Numbers
  second_field w i = cond (not w) (faulty (fault 16 3)) (cond (not i) (faulty (fault 17 3)) rest)

  by_fields : (w0 i0 w1 i1 c : Bool) →
      first_field w0 i0 (cond ((w0 && i0) && (w1 && i1) && beyond) (faulty (fault 18 2)) (cond ((w0 && i0) && (w1 && i1) && twice) (faulty (fault 19 2)) (second_field w1 i1)))
      ≡ as_term (leb 2 (cond (w0 && i0) (suc (cond (w1 && i1) (suc (cond c 1 0)) 0)) 0)) beyond twice (first_field w0 i0 (second_field w1 i1))
  by_fields true true true true true = refl
  by_fields true true true true false = refl
  by_fields true true true false c = refl
  by_fields true true false i1 c = refl
  by_fields true false w1 i1 c = refl
  by_fields false i0 w1 i1 c = refl

-- where letter or count is wrong, nothing is read
by_count : (letter count beyond twice : Bool) (n : ℕ) (x y : Numbers) → (count ≡ true → x ≡ as_term (leb 2 n) beyond twice y)
    → letter_count letter count x ≡ as_term (leb 2 (cond (letter && count) n 0)) beyond twice (letter_count letter count y)
by_count true true beyond twice n x y h = h refl
by_count true false beyond twice n x y h = refl
by_count false count beyond twice n x y h = refl

-- ---- a line of the letter `T` and three numbers, and then a term
pub term_numbers_are : (d : ℕ) (ts : List Term) (l : Line) → let t = term_of (worths l) in
    term_numbers d ts l ≡ as_term (both_read l) (is_beyond d t.i t.j) (is_named t.i t.j ts) (line_numbers 84 term_signs l)
unfolding term_numbers line_numbers read_in
term_numbers_are d ts l = by_count (is_letter 84 (letter_field l)) (eqb (length (number_fields l)) 3) _ _ (well_before term_signs (number_fields l)) _ _
    (λ e. by (number_fields l) (eqb-true (length (number_fields l)) 3 e) _ _)
  where
    by : (fs : List (List ℕ)) → length fs ≡ 3 → (beyond twice : Bool) →
        let both = reads_well unsigned (get_or fs 0 []) && reads_well unsigned (get_or fs 1 []) in let end = (20 at_field 0 when not l.ended) ∷ [] in
        first_fault (field_faults 2 unsigned (get_or fs 0 []) ++ ((18 at_field 2 when both && beyond) ∷ (19 at_field 2 when both && twice) ∷ []) ++ number_faults 3 (unsigned ∷ signed ∷ []) (drop 1 fs) ++ end) (worths l)
        ≡ as_term (leb 2 (well_before term_signs fs)) beyond twice (first_fault (number_faults 2 term_signs fs ++ end) (worths l))
    by [] e beyond twice = absurd (omega arith)
    by (f ∷ []) e beyond twice = absurd (omega arith)
    by (f ∷ g ∷ []) e beyond twice = absurd (omega arith)
    by (f ∷ g ∷ h ∷ []) e beyond twice = by_fields beyond twice _ (is_written f) (is_within unsigned (worth f)) (is_written g) (is_within unsigned (worth g)) (reads_well signed h)
    by (f ∷ g ∷ h ∷ k ∷ fs) e beyond twice = absurd (omega arith)

-- ---- a line that has no fault has all its numbers read
pub all_read : (letter : ℕ) (ns : List Bool) (l : Line) (zs : List ℤ) → line_numbers letter ns l ≡ good zs → read_in letter ns l ≡ length ns
unfolding read_in
all_read letter ns l zs e =
    let (_, r, _) = good_means (subst (λ r. Means letter ns (length ns) false false l r) e (line_means letter ns l)) in
    rw (r.letter_right, eq-eqb (length (number_fields l)) (length ns) r.count_right) (by ns (number_fields l) r.count_right r.each_read)
  where
    by : (ns : List Bool) (fs : List (List ℕ)) → length fs ≡ length ns → ((m : ℕ) → m < length ns → reads_well (get_or ns m unsigned) (get_or fs m []) ≡ true) → well_before ns fs ≡ length ns
    by [] fs c a = refl
    by (s ∷ ns) [] c a = absurd (omega arith)
    by (s ∷ ns) (f ∷ fs) c a = rw (a 0 (omega arith)) (ap suc (by ns fs (omega arith) (λ m h. a (suc m) (omega arith))))
