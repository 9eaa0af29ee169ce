-- The coefficient that a term gives is the one that the sheet has.
use mathlib.Core.Path.{◌≡◌, refl, sym, ◌∙◌, ap}
use mathlib.Core.Bool.{Bool, true, false, false≢true}
use mathlib.Core.List.{List, [], ◌∷◌, ◌++◌}
use Prim.Native.Nat.{ℕ, ◌+◌, ◌≤◌}
use native.Mathlib.Omega.{arith}
use borrow.Author.Tests.{eq-eqb}
use lib.IntN.{ℤ}
use Rattle.page.specs.Sheet.{A}
use Rattle.page.specs.SheetLine.{Line, worths, Fault}
use Rattle.page.specs.SheetText.{Term, term_of, is_term, is_named, coefficient_of, Said, Text, bad_line, well_formed, with_terms, terms_from, sheet_in}
use Rattle.page.specs.ReadFacts.{TermGiven}
use Rattle.page.proofs.ReadFacts.{terms_are}
use Rattle.page.proofs.TextWalk.{text_both}
use Rattle.page.proofs.TermLines.{Admitted, term_line, place_of}

module _ (i j : ℕ) (c : ℤ) where
  -- the text, where it is well-formed, has the coefficient c at i, j
  abbrev Gives : Text → Type 0
  Gives t = (v : Said) → t ≡ well_formed v → A (sheet_in v) i j ≡ c

  bad_gives : (n : ℕ) (f : Fault) → Gives (bad_line n f)
  bad_gives n f v e = let z : ◌≡◌ {A = ℕ} 0 1 = cc in absurd (omega arith)

  -- ---- what has been said names i, j with c
  record Names (w : Said) : Type 0 where
    within : i + j ≤ w.d
    named : is_named i j w.terms ≡ true
    given : coefficient_of w.terms i j ≡ c

  -- a later term does not name it again
  not_again : (ts : List Term) (t : Term) → is_named i j ts ≡ true → is_named t.i t.j ts ≡ false → is_term i j t ≡ false
  not_again ts t n a = by (is_term i j t) refl
    where
      by : (b : Bool) → is_term i j t ≡ b → is_term i j t ≡ false
      by true e = let (x, y) = place_of i j t e in absurd (false≢true (sym (rw (x, y) at a) ∙ n))
      by false e = e

  next_names : (w : Said) (t : Term) → Names w → is_named t.i t.j w.terms ≡ false → Names (with_terms w (t ∷ w.terms))
  next_names w t k a = let o = not_again w.terms t k.named a in record { within = k.within; named = rw (o, k.named); given = rw o k.given }

  names_gives : (ls : List Line) (n : ℕ) (w : Said) → Names w → Gives (terms_from n w ls)
  unfolding terms_from
  names_gives [] n w k = λ v e. let z : w ≡ v = cc in ap (λ s. A (sheet_in s) i j) (sym z) ∙ terms_are w i j k.within ∙ k.given
  names_gives (l ∷ ls) n w k = term_line Gives bad_gives n w.d w.terms l _ (λ a. names_gives ls (n + 1) (with_terms w (term_of (worths l) ∷ w.terms)) (next_names w (term_of (worths l)) k a.new))

-- ---- the line that names it, after the lines before it
module _ (l : Line) (more : List Line) where
  abbrev t : Term
  t = term_of (worths l)

  abbrev GivesTerm : Text → Type 0
  GivesTerm x = Gives t.i t.j t.coefficient x

  -- it is admitted, so i + j is within the degree, and it is the first that names its place
  first_names : (w : Said) → Admitted w.d w.terms l → Names t.i t.j t.coefficient (with_terms w (t ∷ w.terms))
  first_names w a =
      let here : is_term t.i t.j t ≡ true = rw (eq-eqb t.i t.i refl, eq-eqb t.j t.j refl) in
      record { within = a.within; named = rw here; given = rw here }

  line_given : (ls : List Line) (n : ℕ) (w : Said) → GivesTerm (terms_from n w (ls ++ (l ∷ more)))
  unfolding terms_from
  line_given [] n w = term_line GivesTerm (bad_gives _ _ _) n w.d w.terms l _ (λ a. names_gives t.i t.j t.coefficient more (n + 1) (with_terms w (t ∷ w.terms)) (first_names w a))
  line_given (m ∷ ls) n w = term_line GivesTerm (bad_gives _ _ _) n w.d w.terms m _ (λ _. line_given ls (n + 1) (with_terms w (term_of (worths m) ∷ w.terms)))

pub term_given : TermGiven
term_given ls more l v h w = text_both (λ x _. GivesTerm l more x) (bad_gives _ _ _) (l ∷ more) (l ∷ more) ls h (line_given l more) v w
