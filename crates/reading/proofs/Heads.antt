-- The first four lines of a text, one after the other.
use mathlib.Core.Path.{◌≡◌, ◌∙◌, ap}
use mathlib.Core.Bool.{Bool}
use mathlib.Core.List.{List, [], ◌∷◌}
use Prim.Native.Nat.{ℕ, ◌≤◌}
use native.Mathlib.Omega.{arith}
use lib.IntN.{ℤ, pos}
use lib.ListN.{length, take, drop}
use lib.Seq.{get_or-take}
use Rattle.std.specs.Prelude.{Some, None, Ok, Err}
use Rattle.page.specs.SheetLine.{signed, unsigned, Line, lines, number_at, whole_at}
use Rattle.page.specs.SheetText.{Text, line_then, terms_from, text_of}
use Rattle.lines.specs.declared.Fault.{Fault}
use Rattle.lines.specs.declared.Taken.{Taken}
use Rattle.lines.specs.Steps.{LineTaken}
use Rattle.lines.proofs.Taking.{unless_bad, then_taken}
use Rattle.reading.specs.declared.Head.{Head}
use Rattle.reading.specs.declared.Refused.{Refused}
use Rattle.reading.specs.Steps.{refused_at, LineGood, HeadLine, head_by, HeadRead}

-- ---- a line that is taken has a fault, or it has none
module _ (text : List ℕ) (at line letter n : ℕ) (signs : List Bool) {t : Taken} (l : LineTaken text at letter n signs t) (inside : at ≤ length text) where
  pub head_bad : {f : Fault} → t.fault ≡ Some f → {e : Refused} → e ≡ refused_at line f → HeadLine text at line letter n signs (Err e)
  head_bad q p rest = rw p (then_taken l inside line rest ∙ ap (λ x. unless_bad line x (rest (take n t.values) (lines (drop t.next text)))) q)

  pub head_good : t.fault ≡ None → HeadLine text at line letter n signs (Ok t)
  head_good q = record {
    then = λ rest. then_taken l inside line rest ∙ ap (λ x. unless_bad line x (rest (take n t.values) (lines (drop t.next text)))) q;
    three = l.three;
    within = l.within;
  }

-- ---- the signs of a line's three numbers: none may be negative; or only the first two
abbrev pub one : List Bool
one = unsigned ∷ unsigned ∷ unsigned ∷ []

abbrev pub three : List Bool
three = signed ∷ signed ∷ unsigned ∷ []

-- ---- what follows each of the four
module _ (text : List ℕ) where
  abbrev mode_then : List ℤ → List ℤ → List ℤ → List ℤ → List Line → Text
  mode_then d b k m ls = terms_from 5 (record { d = whole_at d 0; X = number_at b 0; Y = number_at b 1; s = whole_at b 2; k = whole_at k 0; mode = whole_at m 0; terms = [] }) ls

  abbrev depth_then : List ℤ → List ℤ → List ℤ → List Line → Text
  depth_then d b k ls = line_then 4 77 (unsigned ∷ []) ls (mode_then d b k)

  abbrev square_then : List ℤ → List ℤ → List Line → Text
  square_then d b ls = line_then 3 75 (unsigned ∷ []) ls (depth_then d b)

  abbrev degree_then : List ℤ → List Line → Text
  degree_then d ls = line_then 2 66 (signed ∷ signed ∷ unsigned ∷ []) ls (square_then d)

  -- a line's numbers are the first of its three
  among : (d b k m : List ℤ) (ls : List Line) → mode_then (take 1 d) (take 3 b) (take 1 k) (take 1 m) ls ≡ mode_then d b k m ls
  among d b k m ls = rw (
    get_or-take 1 d 0 (pos 0) (omega arith),
    get_or-take 3 b 0 (pos 0) (omega arith),
    get_or-take 3 b 1 (pos 0) (omega arith),
    get_or-take 3 b 2 (pos 0) (omega arith),
    get_or-take 1 k 0 (pos 0) (omega arith),
    get_or-take 1 m 0 (pos 0) (omega arith),
  )

  -- line after line: each is bad, or the next decides
  pub bad_1 : (e : Refused) → HeadLine text 0 1 68 1 one (Err e) → HeadRead text (Err e)
  unfolding text_of
  bad_1 e h = h degree_then

  module _ {r1 : Taken} (t1 : LineGood text 0 1 68 1 one r1) where
    to_2 : text_of (lines text) ≡ degree_then (take 1 r1.values) (lines (drop r1.next text))
    unfolding text_of
    to_2 = t1.then degree_then

    pub bad_2 : (e : Refused) → HeadLine text r1.next 2 66 3 three (Err e) → HeadRead text (Err e)
    bad_2 e h = to_2 ∙ h (square_then (take 1 r1.values))

    module _ {r2 : Taken} (t2 : LineGood text r1.next 2 66 3 three r2) where
      to_3 : text_of (lines text) ≡ square_then (take 1 r1.values) (take 3 r2.values) (lines (drop r2.next text))
      to_3 = to_2 ∙ t2.then (square_then (take 1 r1.values))

      pub bad_3 : (e : Refused) → HeadLine text r2.next 3 75 1 one (Err e) → HeadRead text (Err e)
      bad_3 e h = to_3 ∙ h (depth_then (take 1 r1.values) (take 3 r2.values))

      module _ {r3 : Taken} (t3 : LineGood text r2.next 3 75 1 one r3) where
        to_4 : text_of (lines text) ≡ depth_then (take 1 r1.values) (take 3 r2.values) (take 1 r3.values) (lines (drop r3.next text))
        to_4 = to_3 ∙ t3.then (depth_then (take 1 r1.values) (take 3 r2.values))

        pub bad_4 : (e : Refused) → HeadLine text r3.next 4 77 1 one (Err e) → HeadRead text (Err e)
        bad_4 e h = to_4 ∙ h (mode_then (take 1 r1.values) (take 3 r2.values) (take 1 r3.values))

        pub all_four : {r4 : Taken} → LineGood text r3.next 4 77 1 one r4 → {h : Head} → h ≡ head_by r4.next r1.values r2.values r3.values r4.values → HeadRead text (Ok h)
        all_four {r4} t4 e = rw e (record {
          read = to_4 ∙ t4.then (mode_then (take 1 r1.values) (take 3 r2.values) (take 1 r3.values)) ∙ among r1.values r2.values r3.values r4.values (lines (drop r4.next text));
          within = t4.within;
        })
