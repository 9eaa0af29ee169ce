-- What parts one thing from the next: a scan passes all of a gap and nothing else, and what a scan passed is a gap.
use mathlib.Core.Logic.{◌⊎◌, inl, inr}
use mathlib.Core.Path.{◌≡◌, refl, sym, ◌∙◌, ap}
use mathlib.Core.Bool.{Bool, true, false, not, false≢true, true≢false}
use mathlib.Core.List.{List, [], ◌∷◌, ◌++◌, append_assoc}
use Prim.Native.Nat.{ℕ, ◌≤◌}
use native.Mathlib.Omega.{arith}
use lib.Dec.{leb, eqb}
use borrow.Author.Tests.{leb-true, eqb-true, ne_eqb}
use Rattle.algebra.proofs.Choice.{and_left, and_right, and_both}
use Rattle.page.specs.SheetLine.{is_digit, is_empty}
use Rattle.pbm.specs.Reading.{each, is_white, ends_comment, Piece, white, comment, is_piece, piece_text, Gap, last, then, is_gap, gap_text}
use Rattle.pbm.specs.Steps.{in_gap, after_gap, is_parted}

-- ---- bytes: no digit is white space or begins a comment, since both are below 48
pub digit_low : (b : ℕ) → is_digit b ≡ true → 48 ≤ b
digit_low b h = leb-true 48 b (and_left (leb 48 b) (leb b 57) h)

pub high_stands : (b : ℕ) → 48 ≤ b → in_gap false b ≡ false
high_stands b h = rw (ne_eqb b 32 (λ e. omega arith), ne_eqb b 9 (λ e. omega arith), ne_eqb b 10 (λ e. omega arith), ne_eqb b 13 (λ e. omega arith), ne_eqb b 35 (λ e. omega arith))

-- so what begins a gap is no digit
pub parted_low : (b : ℕ) → in_gap false b ≡ true → is_digit b ≡ false
parted_low b h = by (is_digit b) refl
  where
    by : (t : Bool) → is_digit b ≡ t → is_digit b ≡ false
    by true e = absurd (false≢true (sym (high_stands b (digit_low b e)) ∙ h))
    by false e = e

-- white space begins no comment
white_plain : (b : ℕ) → is_white b ≡ true → eqb b 35 ≡ false
white_plain b h = by (eqb b 35) refl
  where
    by : (t : Bool) → eqb b 35 ≡ t → eqb b 35 ≡ false
    by true e = absurd (false≢true (rw (eqb-true b 35 e) at h))
    by false e = e

-- ---- a gap is passed
-- what is inside a comment, and the end of its line
comment_passed : (inside : List ℕ) (end : ℕ) (u : List ℕ) → each (λ b. not (ends_comment b)) inside ≡ true → ends_comment end ≡ true
    → after_gap true (inside ++ (end ∷ u)) ≡ after_gap false u
unfolding each after_gap
comment_passed [] end u h e = rw e
comment_passed (b ∷ inside) end u h e =
    rw (and_left (not (ends_comment b)) (each (λ b. not (ends_comment b)) inside) h) (comment_passed inside end u (and_right (not (ends_comment b)) _ h) e)

piece_passed : (p : Piece) (u : List ℕ) → is_piece p ≡ true → after_gap false (piece_text p ++ u) ≡ after_gap false u
unfolding after_gap
piece_passed (white b) u h = rw (h, white_plain b h)
piece_passed (comment inside end) u h =
    rw (append_assoc inside (end ∷ []) u) (comment_passed inside end u (and_left (each (λ b. not (ends_comment b)) inside) _ h) (and_right (each (λ b. not (ends_comment b)) inside) _ h))

pub gap_passed : (g : Gap) (u : List ℕ) → is_gap g ≡ true → after_gap false (gap_text g ++ u) ≡ after_gap false u
gap_passed (last p) u h = piece_passed p u h
gap_passed (then p g) u h =
    ap (after_gap false) (append_assoc (piece_text p) (gap_text g) u) ∙ piece_passed p (gap_text g ++ u) (and_left (is_piece p) _ h) ∙ gap_passed g u (and_right (is_piece p) _ h)

-- it is seen at its first byte
pub piece_parts : (p : Piece) (u : List ℕ) → is_piece p ≡ true → is_parted (piece_text p ++ u) ≡ true
piece_parts (white b) u h = rw h
piece_parts (comment inside end) u h = refl

pub gap_parts : (g : Gap) (u : List ℕ) → is_gap g ≡ true → is_parted (gap_text g ++ u) ≡ true
gap_parts (last p) u h = piece_parts p u h
gap_parts (then p g) u h = ap is_parted (append_assoc (piece_text p) (gap_text g) u) ∙ piece_parts p (gap_text g ++ u) (and_left (is_piece p) _ h)

-- ---- what was passed is a gap, where something follows it
pub record Parted (text after : List ℕ) : Type 0 where
  pub gap : Gap
  pub good : is_gap gap ≡ true
  pub made : text ≡ gap_text gap ++ after

-- nothing was passed, or a gap
abbrev Outside : List ℕ → List ℕ → Type 0
Outside text after = (text ≡ after) ⊎ Parted text after

-- the rest of a comment was passed, and then nothing or a gap
record Inside (text after : List ℕ) : Type 0 where
  inside : List ℕ
  end : ℕ
  rest : List ℕ
  quiet : each (λ b. not (ends_comment b)) inside ≡ true
  ends : ends_comment end ≡ true
  made : text ≡ inside ++ (end ∷ rest)
  passed : Outside rest after

abbrev Passed : Bool → List ℕ → List ℕ → Type 0
Passed false text after = Outside text after
Passed true text after = Inside text after

-- one piece more
piece_before : (p : Piece) {u after : List ℕ} → is_piece p ≡ true → Outside u after → Parted (piece_text p ++ u) after
piece_before p h (inl e) = record { gap = last p; good = h; made = ap (λ v. piece_text p ++ v) e }
piece_before p h (inr g) = record {
  gap = then p g.gap;
  good = and_both (is_piece p) _ h g.good;
  made = ap (λ v. piece_text p ++ v) g.made ∙ sym (append_assoc (piece_text p) (gap_text g.gap) _);
}

comment_before : {u after : List ℕ} → Inside u after → Parted (35 ∷ u) after
comment_before c = rw (c.made, ← append_assoc c.inside (c.end ∷ []) c.rest) (piece_before (comment c.inside c.end) (and_both _ _ c.quiet c.ends) c.passed)

-- one byte more inside a comment
end_before : {b : ℕ} {u after : List ℕ} → ends_comment b ≡ true → Outside u after → Inside (b ∷ u) after
unfolding each
end_before {b} {u} h o = record { inside = []; end = b; rest = u; quiet = refl; ends = h; made = refl; passed = o }

quiet_before : {b : ℕ} {u after : List ℕ} → not (ends_comment b) ≡ true → Inside u after → Inside (b ∷ u) after
unfolding each
quiet_before {b} h c = record {
  inside = b ∷ c.inside;
  end = c.end;
  rest = c.rest;
  quiet = and_both (not (ends_comment b)) _ h c.quiet;
  ends = c.ends;
  made = ap (λ v. b ∷ v) c.made;
  passed = c.passed;
}

-- the same of what a scan passes from here on, outside a comment and inside one, where it leaves something
abbrev Following : List ℕ → Type 0
Following u = (inside : Bool) → is_empty (after_gap inside u) ≡ false → Passed inside u (after_gap inside u)

-- a gap that begins here, from what follows its first byte
gap_begun : (b : ℕ) (u : List ℕ) → in_gap false b ≡ true → is_empty (after_gap false (b ∷ u)) ≡ false
    → Following u → Parted (b ∷ u) (after_gap false (b ∷ u))
unfolding after_gap
gap_begun b u g h after = by (is_white b) refl (eqb b 35) refl
  where
    by : (w : Bool) → is_white b ≡ w → (c : Bool) → eqb b 35 ≡ c → Parted (b ∷ u) (after_gap false (b ∷ u))
    by true e c f = rw (e, white_plain b e) (piece_before (white b) e (after false (rw (e, white_plain b e) at h)))
    by false e true f = rw (e, f, eqb-true b 35 f) (comment_before (after true (rw (e, f) at h)))
    by false e false f = absurd (false≢true (rw (e, f) at g))

-- and so of every text
passed : (inside : Bool) (u : List ℕ) → is_empty (after_gap inside u) ≡ false → Passed inside u (after_gap inside u)
unfolding after_gap
passed false [] h = absurd (true≢false h)
passed false (b ∷ u) h = by (in_gap false b) refl (λ inside. passed inside u)
  where
    by : (g : Bool) → in_gap false b ≡ g → Following u → Outside (b ∷ u) (after_gap false (b ∷ u))
    by true e after = inr (gap_begun b u e h after)
    by false e after = inl (rw e)
passed true [] h = absurd (true≢false h)
passed true (b ∷ u) h = by (ends_comment b) refl (λ inside. passed inside u)
  where
    by : (g : Bool) → ends_comment b ≡ g → Following u → Inside (b ∷ u) (after_gap true (b ∷ u))
    by true e after = rw e (end_before e (after false (rw e at h)))
    by false e after = rw e (quiet_before (rw e) (after true (rw e at h)))

-- where a gap begins, and something follows it, what was passed is the gap
pub parted : (text : List ℕ) → is_parted text ≡ true → is_empty (after_gap false text) ≡ false → Parted text (after_gap false text)
parted [] g h = absurd (false≢true g)
parted (b ∷ u) g h = gap_begun b u g h (λ inside. passed inside u)
