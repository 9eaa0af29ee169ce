-- Runs of digits, sizes after a gap, and the piece that opens the digits: each is passed by a scan, and where a scan goes on past it, it stood there.
use mathlib.Core.Path.{◌≡◌, refl, sym, ◌∙◌, ap, subst}
use mathlib.Core.Bool.{Bool, true, false, not, ◌&&◌, true≢false}
use mathlib.Core.List.{List, [], ◌∷◌, ◌++◌, append_assoc}
use Prim.Native.Nat.{ℕ}
use lib.Dec.{T, eqb}
use borrow.Author.Tests.{eqb-true, not-true}
use Rattle.algebra.proofs.Choice.{and_left, and_right, and_both, cond_first}
use Rattle.page.specs.SheetLine.{is_digit, all_digits, is_empty, amount}
use Rattle.pbm.specs.Reading.{each, is_white, ends_comment, Piece, white, comment, is_piece, piece_text, Gap, is_gap, gap_text, is_size, Picture}
use Rattle.pbm.specs.Refusals.{Found, not_plain, plain, is_not_plain}
use Rattle.pbm.specs.Steps.{leading, beyond, after_gap, is_parted, size_then, after_comment, opening_then}
use Rattle.pbm.proofs.Gaps.{digit_low, high_stands, parted_low, gap_passed, gap_parts, parted}

-- ---- a picture is not the want of one
pub not_other : {P : Picture} → not_plain ≡ plain P → ⊥
not_other e = subst T (ap is_not_plain e) tt

-- ---- a run of digits, up to what parts it from the next thing
run_stops : (u : List ℕ) → is_parted u ≡ true → (leading is_digit u ≡ []) × (beyond is_digit u ≡ u)
unfolding leading beyond
run_stops [] h = (refl, refl)
run_stops (b ∷ u) h = (rw (parted_low b h), rw (parted_low b h))

run_passed : (w u : List ℕ) → all_digits w ≡ true → is_parted u ≡ true → (leading is_digit (w ++ u) ≡ w) × (beyond is_digit (w ++ u) ≡ u)
unfolding leading beyond all_digits
run_passed [] u d h = run_stops u h
run_passed (b ∷ w) u d h =
    let t = and_left (is_digit b) (all_digits w) d in let (e, f) = run_passed w u (and_right (is_digit b) (all_digits w) d) h in
    (rw t (ap (λ v. b ∷ v) e), rw t f)

-- any text is the run of digits that it begins with, and what is beyond it
run_parts : (u : List ℕ) → u ≡ leading is_digit u ++ beyond is_digit u
unfolding leading beyond
run_parts [] = refl
run_parts (b ∷ u) = by (is_digit b) refl (run_parts u)
  where
    by : (t : Bool) → is_digit b ≡ t → u ≡ leading is_digit u ++ beyond is_digit u → b ∷ u ≡ leading is_digit (b ∷ u) ++ beyond is_digit (b ∷ u)
    by true e i = rw e (ap (λ v. b ∷ v) i)
    by false e i = rw e

pub run_digits : (u : List ℕ) → all_digits (leading is_digit u) ≡ true
unfolding leading all_digits
run_digits [] = refl
run_digits (b ∷ u) = by (is_digit b) refl (run_digits u)
  where
    by : (t : Bool) → is_digit b ≡ t → all_digits (leading is_digit u) ≡ true → all_digits (leading is_digit (b ∷ u)) ≡ true
    by true e i = rw e (and_both (is_digit b) _ e i)
    by false e i = rw e

-- it has none where there is nothing
run_some : (u : List ℕ) → is_empty (leading is_digit u) ≡ false → is_empty u ≡ false
unfolding leading
run_some [] h = h
run_some (b ∷ u) h = refl

-- ---- a size after a gap
-- the gap ends where the size begins
gap_ends : (w u : List ℕ) → is_empty w ≡ false → all_digits w ≡ true → after_gap false (w ++ u) ≡ w ++ u
unfolding after_gap all_digits
gap_ends [] u h d = absurd (true≢false h)
gap_ends (b ∷ w) u h d = rw (high_stands b (digit_low b (and_left (is_digit b) (all_digits w) d)))

pub size_passed : (g : Gap) (w u : List ℕ) (rest : ℕ → List ℕ → Found) → is_gap g ≡ true → is_size w ≡ true → is_parted u ≡ true
    → size_then (gap_text g ++ (w ++ u)) rest ≡ rest (amount 0 w) u
size_passed g w u rest h s p =
    let written = and_left (not (is_empty w) && all_digits w) _ s in
    let some : is_empty w ≡ false = not-true _ (and_left (not (is_empty w)) _ written) in
    let all : all_digits w ≡ true = and_right (not (is_empty w)) _ written in
    let here : after_gap false (gap_text g ++ (w ++ u)) ≡ w ++ u = gap_passed g (w ++ u) h ∙ gap_ends w u some all in
    let (run, rest_is) = run_passed w u all p in
    rw (here, gap_parts g (w ++ u) h, run, rest_is, some, and_right (not (is_empty w) && all_digits w) _ s)

-- where a scan finds a picture past a size, there is a gap, and a size, and what follows them is of that picture
pub record Sized (text : List ℕ) (rest : ℕ → List ℕ → Found) (P : Picture) : Type 0 where
  pub gap : Gap
  pub digits : List ℕ
  pub after : List ℕ
  pub parts : is_gap gap ≡ true
  pub written : is_size digits ≡ true
  pub made : text ≡ gap_text gap ++ (digits ++ after)
  pub told : rest (amount 0 digits) after ≡ plain P

pub size_found : (text : List ℕ) (rest : ℕ → List ℕ → Found) {P : Picture} → size_then text rest ≡ plain P → Sized text rest P
size_found text rest e =
    let here = after_gap false text in let digits = leading is_digit here in
    let (tests, told) = cond_first (is_parted text && not (is_empty digits) && not (eqb (amount 0 digits) 0)) e not_other in
    let first = and_left (is_parted text && not (is_empty digits)) _ tests in
    let some = and_right (is_parted text) (not (is_empty digits)) first in
    let g = parted text (and_left (is_parted text) _ first) (run_some here (not-true _ some)) in
    record {
      gap = g.gap;
      digits = digits;
      after = beyond is_digit here;
      parts = g.good;
      written = and_both (not (is_empty digits) && all_digits digits) _ (and_both (not (is_empty digits)) _ some (run_digits here)) (and_right (is_parted text && not (is_empty digits)) _ tests);
      made = g.made ∙ ap (λ u. gap_text g.gap ++ u) (run_parts here);
      told = told;
    }

-- ---- the piece that opens the digits
comment_opens : (inside : List ℕ) (end : ℕ) (u : List ℕ) (rest : List ℕ → Found) → each (λ b. not (ends_comment b)) inside ≡ true → ends_comment end ≡ true
    → after_comment (inside ++ (end ∷ u)) rest ≡ rest u
unfolding each after_comment
comment_opens [] end u rest h e = rw e
comment_opens (b ∷ inside) end u rest h e =
    rw (not-true (ends_comment b) (and_left (not (ends_comment b)) _ h)) (comment_opens inside end u rest (and_right (not (ends_comment b)) _ h) e)

pub opening_passed : (p : Piece) (u : List ℕ) (rest : List ℕ → Found) → is_piece p ≡ true → opening_then (piece_text p ++ u) rest ≡ rest u
opening_passed (white b) u rest h = rw h
opening_passed (comment inside end) u rest h =
    ap (λ v. after_comment v rest) (append_assoc inside (end ∷ []) u)
    ∙ comment_opens inside end u rest (and_left (each (λ b. not (ends_comment b)) inside) _ h) (and_right (each (λ b. not (ends_comment b)) inside) _ h)

-- where a scan finds a picture past it, it stood there
pub record Opened (text : List ℕ) (rest : List ℕ → Found) (P : Picture) : Type 0 where
  pub piece : Piece
  pub after : List ℕ
  pub good : is_piece piece ≡ true
  pub made : text ≡ piece_text piece ++ after
  pub told : rest after ≡ plain P

record Commented (text : List ℕ) (rest : List ℕ → Found) (P : Picture) : Type 0 where
  inside : List ℕ
  end : ℕ
  after : List ℕ
  quiet : each (λ b. not (ends_comment b)) inside ≡ true
  ends : ends_comment end ≡ true
  made : text ≡ inside ++ (end ∷ after)
  told : rest after ≡ plain P

comment_found : (text : List ℕ) (rest : List ℕ → Found) {P : Picture} → after_comment text rest ≡ plain P → Commented text rest P
unfolding each after_comment
comment_found [] rest e = absurd (not_other e)
comment_found (b ∷ u) rest {P} e = by (ends_comment b) refl (comment_found u rest)
  where
    by : (t : Bool) → ends_comment b ≡ t → (after_comment u rest ≡ plain P → Commented u rest P) → Commented (b ∷ u) rest P
    by true f i = record { inside = []; end = b; after = u; quiet = refl; ends = f; made = refl; told = rw f at e }
    by false f i =
        let c = i (rw f at e) in
        record { inside = b ∷ c.inside; end = c.end; after = c.after; quiet = rw f c.quiet; ends = c.ends; made = ap (λ v. b ∷ v) c.made; told = c.told }

pub opening_found : (text : List ℕ) (rest : List ℕ → Found) {P : Picture} → opening_then text rest ≡ plain P → Opened text rest P
opening_found [] rest e = absurd (not_other e)
opening_found (b ∷ u) rest {P} e = by (is_white b) refl (eqb b 35) refl
  where
    by : (w : Bool) → is_white b ≡ w → (c : Bool) → eqb b 35 ≡ c → Opened (b ∷ u) rest P
    by true f c g = record { piece = white b; after = u; good = f; made = refl; told = rw f at e }
    by false f true g =
        let c = comment_found u rest (rw (f, g) at e) in
        record {
          piece = comment c.inside c.end;
          after = c.after;
          good = and_both _ _ c.quiet c.ends;
          made = ap (λ a. a ∷ u) (eqb-true b 35 g) ∙ ap (λ v. 35 ∷ v) (c.made ∙ sym (append_assoc c.inside (c.end ∷ []) c.after));
          told = c.told;
        }
    by false f false g = absurd (not_other (rw (f, g) at e))
