-- One line of a text taken, and the lines after it.
use mathlib.Core.Path.{◌≡◌, refl, sym, ◌∙◌, ap}
use mathlib.Core.Bool.{Bool, true, false}
use mathlib.Core.List.{List, ◌∷◌}
use mathlib.Core.Logic.{inl, inr}
use Prim.Native.Nat.{ℕ, ◌+◌, ◌-◌, ◌≤◌, ◌<◌}
use native.Mathlib.Nat as Nat
use native.Mathlib.Omega.{arith}
use borrow.Author.Tests.{ltb-true}
use lib.Dec.{ltb}
use lib.IntN.{ℤ}
use lib.ListN.{length, take, drop, drop_of_length-le}
use Rattle.page.specs.SheetLine.{Line, lines, fault, good, line_numbers}
use Rattle.page.specs.SheetText.{Text, bad_line, with_line, line_then}
use Rattle.std.specs.Prelude.{Option, Some, None}
use Rattle.page.specs.Numbers.{number_of}
use Rattle.lines.specs.declared.Fault.{Fault}
use Rattle.lines.specs.declared.Numbers as Read
use Rattle.lines.specs.declared.Taken.{Taken}
use Rattle.lines.specs.Steps.{line_of, unless_fault, LineRead, none_at, taken_as, or_unended, closed_at, LineTaken}
use Rattle.lines.specs.Steps.{Finds}
use Rattle.lines.proofs.Parting.{next_line}

-- it is missing
pub taken_none : (text : List ℕ) (at letter n : ℕ) (signs : List Bool) → at ≡ length text → LineTaken text at letter n signs (none_at at)
taken_none text at letter n signs e = record { none = λ q. refl; some = λ h. absurd (omega arith); three = refl; within = omega arith }

-- it is read, up to its end
module _ (text : List ℕ) (at letter n : ℕ) (signs : List Bool) {end : ℕ} (f : Finds 10 text at end) (h : at < length text) {r : Read.Numbers} (l : LineRead (take (end - at) (drop at text)) letter n signs r) where
  -- by whether an LF stands there, and the fault that it comes to
  closing : {b : Bool} → ltb end (length text) ≡ b → {p : Option Fault} {next : ℕ} → line_numbers letter (take n signs) (line_of (take (end - at) (drop at text)) b) ≡ unless_fault p (good (take n r.values))
      → next ≤ length text → (p ≡ None → next ≡ end + 1) → LineTaken text at letter n signs (taken_as p next r)
  closing {b} e told m g = record {
    none = λ q. absurd (omega arith);
    some = λ s. record {
      line = line_of (take (end - at) (drop at text)) b;
      more = lines (drop (end + 1) text);
      here = next_line text at end f h ∙ ap (λ c. line_of (take (end - at) (drop at text)) c ∷ lines (drop (end + 1) text)) e;
      told = told;
      read = l.read b;
      values = l.values b;
      after = λ z. ap (λ c. lines (drop c text)) (sym (g z));
      further = λ z. omega (arith, g z, f.at);
    };
    three = l.three;
    within = m;
  }

  -- no LF: it is unended, unless it has another fault
  unended : (p : Option Fault) → r.fault ≡ p → ltb end (length text) ≡ false → LineTaken text at letter n signs (taken_as (or_unended p) end r)
  unended None z e = closing e (l.told false ∙ rw z) f.within (λ q. cc)
  unended (Some g) z e = closing e (l.told false ∙ rw z) f.within (λ q. cc)

  pub taken_some : LineTaken text at letter n signs (closed_at r end (length text))
  taken_some = by (ltb end (length text)) refl
    where
      by : (b : Bool) → ltb end (length text) ≡ b → LineTaken text at letter n signs (closed_at r end (length text))
      by true e = let g = ltb-true end (length text) e in rw e (closing e (l.told true) (omega arith) (λ z. refl))
      by false e = rw e (unended r.fault refl e)

-- ---- what is done with the line and those after it
-- the text is bad at the line by the fault, where there is one
abbrev pub unless_bad : ℕ → Option Fault → Text → Text
unless_bad number None rest = rest
unless_bad number (Some f) rest = bad_line number (fault (number_of f.refusal) f.field)

-- by the first fault of the line, or its numbers
by_fault : (number : ℕ) (p : Option Fault) (zs : List ℤ) (rest : List ℤ → Text) → with_line number (unless_fault p (good zs)) rest ≡ unless_bad number p (rest zs)
by_fault number None zs rest = refl
by_fault number (Some f) zs rest = refl

-- what follows matters only where there is no fault
where_good : (number : ℕ) (p : Option Fault) {x y : Text} → (p ≡ None → x ≡ y) → unless_bad number p x ≡ unless_bad number p y
where_good number None e = e refl
where_good number (Some f) e = refl

module _ {text : List ℕ} {at letter n : ℕ} {signs : List Bool} {r : Taken} (t : LineTaken text at letter n signs r) (h : at ≤ length text) where
  -- after a line without fault the next one begins further on
  pub further : r.fault ≡ None → at < r.next
  further z = elim (Nat.eq-or-lt_of_le h) [
    | inl e ↦ let q = t.none e in cc
    | inr s ↦ (t.some s).further z
  ]

  module _ (number : ℕ) (rest : List ℤ → List Line → Text) where
    -- the text is bad at this line by its fault, or its numbers and the lines after it decide
    abbrev told : Type 0
    told = line_then number letter (take n signs) (lines (drop at text)) rest ≡ unless_bad number r.fault (rest (take n r.values) (lines (drop r.next text)))

    missing_taken : at ≡ length text → told
    unfolding lines
    missing_taken e = let q = t.none e in rw (q, drop_of_length-le text {i = at} (omega arith))

    some_taken : at < length text → told
    some_taken s =
        let k = t.some s in
        ap (λ ls. line_then number letter (take n signs) ls rest) k.here
        ∙ ap (λ ns. with_line number ns (λ zs. rest zs k.more)) k.told
        ∙ by_fault number r.fault (take n r.values) (λ zs. rest zs k.more)
        ∙ where_good number r.fault (λ z. ap (rest (take n r.values)) (k.after z))

    pub then_taken : line_then number letter (take n signs) (lines (drop at text)) rest ≡ unless_bad number r.fault (rest (take n r.values) (lines (drop r.next text)))
    then_taken = elim (Nat.eq-or-lt_of_le h) [
      | inl e ↦ missing_taken e
      | inr s ↦ some_taken s
    ]
