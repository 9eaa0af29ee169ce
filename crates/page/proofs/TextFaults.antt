-- What the request says of a text's fault holds: which field goes with which number, that an unended line is the last one, and that the first bad line decides.
use mathlib.Core.Path.{◌≡◌, refl, ◌∙◌, ap}
use mathlib.Core.Bool.{Bool, true, false, cond, true≢false}
use mathlib.Core.List.{List, [], ◌∷◌, ◌++◌}
use Prim.Native.Nat.{ℕ, ◌≤◌}
use native.Mathlib.Omega.{arith}
use borrow.Author.Tests.{le-ltb}
use lib.Dec.{ltb, eqb}
use lib.ListN.{length}
use Rattle.page.specs.Refusals.{refusal}
use Rattle.page.specs.SheetLine.{Line, ended_line, before_line, lines, fault}
use Rattle.page.specs.SheetText.{Text, bad_line, well_formed, text_of, to_read, refused, outcome_of, outcome}
use Rattle.page.specs.FaultFacts.{FaultPlaced, UnendedLast, FaultFound, FirstBad, FaultStays}
use Rattle.page.proofs.TextWalk.{Ended, bad_at}
use Rattle.page.proofs.ReadFacts.{bad_stays, by_rows, read_never, lines_join}

-- ---- of a text's lines only the last may be unended
lines_ended : (text : List ℕ) → Ended (lines text)
unfolding lines
lines_ended [] = tt
lines_ended (b ∷ bs) = by (eqb b 10) (lines bs) (lines_ended bs)
  where
    by : (e : Bool) (ls : List Line) → Ended ls → Ended (cond e (ended_line [] ∷ ls) (before_line b ls))
    by true ls h = (λ z. absurd (true≢false z), h)
    by false [] h = (λ z. refl, h)
    by false (l ∷ ls) h = h

-- ---- which field goes with which number
pub fault_placed : FaultPlaced
fault_placed ls n f e = (bad_at ls [] n f e).0.placed

-- ---- the fault of the text is that of the bad line, and that line is the first bad one
pub fault_found : FaultFound
fault_found ls n f e h = ((bad_at ls [] n f e).0.found h).comes

pub first_bad : FirstBad
first_bad ls n f e h = let found = (bad_at ls [] n f e).0.found h in (found.before, found.alone)

-- ---- a refusal that has a line is that of a bad line
bad_of : (long : Bool) (t : Text) (n line field : ℕ) → cond long (refused 11 0 0) (outcome_of t) ≡ refused n line field → 1 ≤ line → t ≡ bad_line line (fault n field)
bad_of true t n line field e h = let z : line ≡ 0 = cc in absurd (omega arith)
bad_of false (bad_line m f) n line field e h =
    let p : m ≡ line = cc in let q : f.number ≡ n = cc in let r : f.field ≡ field = cc in λ i. bad_line (p i) (fault (q i) (r i))
bad_of false (well_formed w) n line field e h = let (_, _, z, _) = by_rows (refusal (to_read w)) w e in absurd (omega arith)

bad_text : (text : List ℕ) (n line field : ℕ) → outcome text ≡ refused n line field → 1 ≤ line → text_of (lines text) ≡ bad_line line (fault n field)
unfolding outcome
bad_text text n line field e h = bad_of (ltb 8_192 (length text)) (text_of (lines text)) n line field e h

-- a text that is not too long comes to what its lines do
not_long : (text : List ℕ) → length text ≤ 8_192 → outcome text ≡ outcome_of (text_of (lines text))
unfolding outcome
not_long text h = rw (le-ltb 8_192 (length text) h)

-- ---- so an unended line is the last one, and the first bad line decides, whatever bytes come after its LF
pub unended_last : UnendedLast
unended_last text line field e =
    let h : 1 ≤ line = (read_never text 20 line field e).counted (omega arith) in
    (bad_at (lines text) [] line (fault 20 field) (bad_text text 20 line field e h)).0.last (lines_ended text) refl

pub fault_stays : FaultStays
fault_stays text more n line field e h i j =
    let bad = bad_text (text ++ (10 ∷ [])) n line field e h in
    not_long (text ++ (10 ∷ more)) j ∙ ap outcome_of (ap text_of (lines_join text more) ∙ bad_stays (lines (text ++ (10 ∷ []))) (lines more) line (fault n field) bad i)
