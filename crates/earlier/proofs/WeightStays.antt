-- Request #102: the weight by axis is at most the old one, so nothing but 6 gives way, and the answers stay.
use mathlib.Core.Path.{◌≡◌, refl, sym, ◌∙◌, ap}
use mathlib.Core.Bool.{Bool, true, false, cond}
use mathlib.Core.List.{List, [], ◌∷◌, ◌++◌}
use Prim.Native.Nat.{ℕ, zero, suc, ◌^◌, ◌≤◌}
use native.Mathlib.Nat as Nat
use native.Mathlib.Omega.{arith}
use borrow.Author.Tests.{leb-false, lt-leb, eqb-true, eqb-false}
use lib.Dec.{leb, ltb, eqb}
use lib.ListN.{length, take, drop}
use Rattle.algebra.proofs.Digits.{digits_mono}
use Rattle.forms.specs.Weight.{weight as plane-weight}
use Rattle.forms.proofs.Plane.{both, weight_plane}
use Rattle.forms.proofs.Size.{weight_mono}
use Rattle.page.specs.Sheet.{Sheet, A}
use Rattle.page.specs.Weight.{weight, spare}
use Rattle.page.specs.Refusals.{Input, Row, ◌when◌, table, first, refusal, unless, to_check, at_point, in_cell, to_walk}
use Rattle.page.specs.SheetLine.{lines}
use Rattle.page.specs.SheetText.{Text, bad_line, well_formed, text_of, to_read, refused, outcome_of, outcome}
use Rattle.page.specs.ListingText.{text_after, written_text}
use Rattle.page.specs.ReadFacts.{number_of}
use Rattle.page.proofs.Page.{polynomial}
use Rattle.page.proofs.Weights.{limits, weight_is}
use Rattle.page.specs.Numbers.{answer}
use Rattle.page.proofs.Rows.{unless_number}
use Rattle.probe.specs.Answers.{checked, valued, bounded}
use Rattle.walk.specs.Answers.{tallied, rastered, listed, recorded}
use Rattle.reading.specs.Answers.{reading_of, reading, stated_of, stated}
use Rattle.reply.specs.Answers.{room, length_with, place_with}
use Rattle.earlier.specs.Weight.{old_R, old_weight, old_spare, old_refusal}
use Rattle.earlier.specs.WeightAnswers.{old_outcome_of, old_outcome}
use Rattle.earlier.specs.WeightStays.{NoHeavier, SameOnDiagonal, AcceptedStays, NumberStays, SixWasSix, Lighter, CheckStays, ValueStays, BoundsStays, RasterStays, ListingStays, ReadStays, AnswerStays}

-- ---- the weights
-- the old one is that of the polynomial in the plane, with R for both variables
old_weight_is : (S : Sheet) → old_weight S ≡ plane-weight (polynomial S) (λ v. old_R S)
unfolding old_weight
old_weight_is S = sym (weight_plane S.d S.k (λ i j. A S i j) (old_R S))

pub no_heavier : NoHeavier
no_heavier S = rw (weight_is S, old_weight_is S) (weight_mono (polynomial S) (limits S) (λ v. old_R S) (both (λ v. limits S v ≤ old_R S) (omega arith) (omega arith)))

pub same_on_diagonal : SameOnDiagonal
same_on_diagonal S e = Nat.le_antisymm (no_heavier S)
    (rw (weight_is S, old_weight_is S) (weight_mono (polynomial S) (λ v. old_R S) (limits S) (both (λ v. old_R S ≤ limits S v) (rw e (omega arith)) (rw e (omega arith)))))

pub accepted_stays : AcceptedStays
accepted_stays S a = record { ranges = a.ranges; light = Nat.lt_of_le_of_lt (no_heavier S) a.light }

-- ---- the table: where the number is not 6, it stays if row 6 is taken to hold less often
-- a row that stands before
row_before : (b : Bool) (n : ℕ) {x y : ℕ} → ((y ≡ 6 → ⊥) → x ≡ y) → (cond b n y ≡ 6 → ⊥) → cond b n x ≡ cond b n y
row_before true n s m = refl
row_before false n s m = s m

-- h is the condition of row 6 in place of o, whatever rows stand before and after
among_rows : (before : List Row) (h o : Bool) (after : List Row) → (o ≡ false → h ≡ false) → (first (before ++ ((6 when o) ∷ after)) ≡ 6 → ⊥) →
    first (before ++ ((6 when h) ∷ after)) ≡ first (before ++ ((6 when o) ∷ after))
unfolding first
among_rows [] h true after i n = absurd (n refl)
among_rows [] h false after i n = rw (i refl)
among_rows (r ∷ rs) h o after i n = row_before r.holds r.number (among_rows rs h o after i) n

pub number_stays : NumberStays
unfolding table
number_stays c n =
    let S = c.sheet in
    let seldom : leb (2 ^ 62) (old_weight S) ≡ false → leb (2 ^ 62) (weight S) ≡ false = λ e. let l = leb-false (2 ^ 62) (old_weight S) e in let w = no_heavier S in lt-leb (2 ^ 62) (weight S) (omega arith) in
    among_rows (take 5 (table c)) (leb (2 ^ 62) (weight S)) (leb (2 ^ 62) (old_weight S)) (drop 6 (table c)) seldom n

pub six_was_six : SixWasSix
six_was_six c e = by_test (eqb (old_refusal c) 6) refl
  where
    by_test : (b : Bool) → eqb (old_refusal c) 6 ≡ b → old_refusal c ≡ 6
    by_test true t = eqb-true (old_refusal c) 6 t
    by_test false t = let n = eqb-false (old_refusal c) 6 t in absurd (n (sym (number_stays c n) ∙ e))

-- ---- the calls: an answer by the number is that by the old number
unless_stays : (c : Input) → (old_refusal c ≡ 6 → ⊥) → {X : Type 0} (refuses : ℕ → X) (values : X) → unless (refusal c) refuses values ≡ unless (old_refusal c) refuses values
unless_stays c n refuses values = ap (λ m. unless m refuses values) (number_stays c n)

lighter : (S : Sheet) (m : ℕ) → Lighter (answer m (record { weight = weight S; spare = spare S })) (answer m (record { weight = old_weight S; spare = old_spare S }))
lighter S zero = (no_heavier S, let h = digits_mono (no_heavier S) in omega arith)
lighter S (suc m) = refl

pub check_stays : CheckStays
unfolding checked
check_stays S r h n = rw (h.0, unless_stays (to_check S) n) (lighter S (old_refusal (to_check S)))

pub value_stays : ValueStays
unfolding valued
value_stays S u v r h n = h.0 ∙ unless_stays (at_point S u v) n _ _

pub bounds_stays : BoundsStays
unfolding bounded
bounds_stays S mode j p q r h n = h.0 ∙ unless_stays (in_cell S mode j p q) n _ _

pub raster_stays : RasterStays
unfolding tallied rastered
raster_stays S mode before r now h n = (h.0 ∙ unless_stays (to_walk S mode _) n _ _, h.2 ∙ unless_stays (to_walk S mode _) n _ _)

pub listing_stays : ListingStays
unfolding listed recorded
listing_stays S mode before r now h n = (h.0 ∙ unless_stays (to_walk S mode _) n _ _, h.2 ∙ unless_stays (to_walk S mode _) n _ _)

-- ---- texts
outcome_of_stays : (long : Bool) (t : Text) → (number_of (cond long (refused 11 0 0) (old_outcome_of t)) ≡ 6 → ⊥) → cond long (refused 11 0 0) (outcome_of t) ≡ cond long (refused 11 0 0) (old_outcome_of t)
outcome_of_stays true t n = refl
outcome_of_stays false (bad_line m f) n = refl
outcome_of_stays false (well_formed w) n = unless_stays (to_read w) (λ e. n (unless_number number_of (old_refusal (to_read w)) (λ m. refl) refl refl ∙ e)) _ _

outcome_stays : (text : List ℕ) → (number_of (old_outcome text) ≡ 6 → ⊥) → outcome text ≡ old_outcome text
unfolding outcome
outcome_stays text n = outcome_of_stays (ltb 8_192 (length text)) (text_of (lines text)) n

pub read_stays : ReadStays
unfolding reading stated
read_stays text r h n = let o = outcome_stays text n in (h.0 ∙ ap reading_of o, h.1 ∙ ap stated_of o)

pub answer_stays : AnswerStays
unfolding written_text length_with place_with
answer_stays text before r now h n =
    let written : List ℕ → ℕ = λ bytes. cond (ltb (length before) room) 0 (length bytes) in
    let place : List ℕ → List ℕ = λ bytes. cond (ltb (length before) room) before (bytes ++ drop (length bytes) before) in
    (h.0 ∙ ap (λ o. written (text_after o)) (outcome_stays text n), h.1 ∙ ap (λ o. place (text_after o)) (outcome_stays text n))
