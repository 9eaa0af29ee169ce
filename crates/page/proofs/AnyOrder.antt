-- Terms may come in any order: two lines of a well-formed text exchanged.
use mathlib.Core.Path.{◌≡◌, refl, sym, ◌∙◌, ap}
use mathlib.Core.Bool.{Bool, true, false, ◌||◌, cond, false≢true}
use mathlib.Core.List.{List, [], ◌∷◌, ◌++◌}
use Prim.Native.Nat.{ℕ, ◌+◌}
use native.Mathlib.Omega.{arith}
use borrow.Author.Tests.{eqb-true, eq-eqb}
use lib.Dec.{eqb}
use lib.IntN.{ℤ}
use Rattle.algebra.proofs.Choice.{same_test}
use Rattle.page.specs.Sheet.{sheet_of}
use Rattle.page.specs.SheetLine.{Line, worths, Fault, good}
use Rattle.page.specs.SheetText.{Term, term_of, is_term, is_named, coefficient_of, Said, Text, bad_line, well_formed, with_terms, with_line, term_numbers, terms_from, sheet_in}
use Rattle.page.specs.ReadFacts.{SameSheet, AnyOrder}
use Rattle.page.proofs.Rows.{or_both}
use Rattle.page.proofs.Order.{order_cong}
use Rattle.page.proofs.TextWalk.{text_both}
use Rattle.page.proofs.TermLines.{Admitted, only_its_place, term_line, place_of}

-- ---- of two terms each names the place of the other, or neither does
eqb_sym : (m n : ℕ) → eqb m n ≡ eqb n m
eqb_sym m n = same_test (eqb m n) (eqb n m) (λ e. eq-eqb n m (sym (eqb-true m n e))) (λ e. eq-eqb m n (sym (eqb-true n m e)))

term_sym : (s t : Term) → is_term t.i t.j s ≡ is_term s.i s.j t
term_sym s t = rw (eqb_sym s.i t.i, eqb_sym s.j t.j)

-- where neither does, no place is named by both
not_both : (s t : Term) (i j : ℕ) → is_term t.i t.j s ≡ false → is_term i j s ≡ true → is_term i j t ≡ true → ⊥
not_both s t i j h a b = let (x, y) = place_of i j t b in false≢true (sym (rw (x, y) at h) ∙ a)

-- ---- terms that name the same places, and give the same coefficients
record SameTerms (ts us : List Term) : Type 0 where
  named : (i j : ℕ) → is_named i j ts ≡ is_named i j us
  given : (i j : ℕ) → coefficient_of ts i j ≡ coefficient_of us i j

-- two more, one before the other or after it
same_two : (s t : Term) (ts : List Term) → is_term t.i t.j s ≡ false → SameTerms (t ∷ s ∷ ts) (s ∷ t ∷ ts)
same_two s t ts h = record { named = λ i j. either (is_term i j t) (is_term i j s) _; given = λ i j. pick (is_term i j t) (is_term i j s) _ _ _ (λ a b. not_both s t i j h b a) }
  where
    either : (a b c : Bool) → a || (b || c) ≡ b || (a || c)
    either true true c = refl
    either true false c = refl
    either false b c = refl

    pick : (a b : Bool) (x y z : ℤ) → (a ≡ true → b ≡ true → ⊥) → cond a x (cond b y z) ≡ cond b y (cond a x z)
    pick true true x y z n = absurd (n refl refl)
    pick true false x y z n = refl
    pick false b x y z n = refl

-- one more
same_next : (t : Term) {ts us : List Term} → SameTerms ts us → SameTerms (t ∷ ts) (t ∷ us)
same_next t s = record { named = λ i j. simp s.named; given = λ i j. simp s.given }

-- ---- where the one text is well-formed, so is the other, with the same sheet and mode
abbrev Alike : Text → Text → Type 0
Alike t u = (v : Said) → t ≡ well_formed v → SameSheet v u

bad_alike : (n : ℕ) (f : Fault) (u : Text) → Alike (bad_line n f) u
bad_alike n f u v e = let z : ◌≡◌ {A = ℕ} 0 1 = cc in absurd (omega arith)

-- a term's line in the one, and in the other a line that is good after the terms before it there
term_alike : (n d : ℕ) (ts : List Term) (l : Line) (rest : List ℤ → Text) (u : Text) → (Admitted d ts l → Alike (rest (worths l)) u) → Alike (with_line n (term_numbers d ts l) rest) u
term_alike n d ts l rest u h = term_line (λ t. Alike t u) (λ n f. bad_alike n f u) n d ts l rest h

held : (n d : ℕ) (ts : List Term) (l : Line) (rest : List ℤ → Text) (t : Text) → term_numbers d ts l ≡ good (worths l) → Alike t (rest (worths l)) → Alike t (with_line n (term_numbers d ts l) rest)
held n d ts l rest t e h = rw e h

-- ---- the same terms, and the same lines after them
end_same : (w : Said) (ts us : List Term) → SameTerms ts us → Alike (well_formed (with_terms w ts)) (well_formed (with_terms w us))
end_same w ts us s v e =
    let z : with_terms w ts ≡ v = cc in
    let c = order_cong w.d (λ i j _. s.given i j) in
    record { said = with_terms w us; well = refl; sheet = sym (ap (λ l. sheet_of w.d l w.X w.Y w.s w.k) c) ∙ ap (λ v. sheet_in v) z; mode = ap (λ v. v.mode) z }

after_same : (ls : List Line) (n : ℕ) (w : Said) (ts us : List Term) → SameTerms ts us → Alike (terms_from n (with_terms w ts) ls) (terms_from n (with_terms w us) ls)
unfolding terms_from
after_same [] n w ts us s = end_same w ts us s
after_same (l ∷ ls) n w ts us s = let t = term_of (worths l) in
    term_alike n w.d ts l _ _ (λ a. held n w.d us l _ _ (sym (only_its_place w.d l ts us (s.named t.i t.j)) ∙ a.numbers) (after_same ls (n + 1) w (t ∷ ts) (t ∷ us) (same_next t s)))

-- ---- two lines exchanged, after the lines before them
module _ (a b : Line) (more : List Line) where
  abbrev s : Term
  s = term_of (worths a)

  abbrev t : Term
  t = term_of (worths b)

  -- neither term names the place of the other, so both are good in the other order too
  two_lines : (n : ℕ) (w : Said) → Alike (terms_from n w (a ∷ b ∷ more)) (terms_from n w (b ∷ a ∷ more))
  unfolding terms_from
  two_lines n w =
      let ts = w.terms in
      term_alike n w.d ts a _ _ (λ x. term_alike (n + 1) w.d (s ∷ ts) b _ _ (λ y.
      let (e, k) = or_both (is_term t.i t.j s) (is_named t.i t.j ts) y.new in
      let b-first : term_numbers w.d ts b ≡ good (worths b) = only_its_place w.d b ts (s ∷ ts) (k ∙ sym y.new) ∙ y.numbers in
      let a_second : term_numbers w.d (t ∷ ts) a ≡ good (worths a) = only_its_place w.d a (t ∷ ts) ts (ap (λ c. c || is_named s.i s.j ts) (sym (term_sym s t) ∙ e)) ∙ x.numbers in
      held n w.d ts b _ _ b-first (held (n + 1) w.d (t ∷ ts) a _ _ a_second (after_same more (n + 1 + 1) w (t ∷ s ∷ ts) (s ∷ t ∷ ts) (same_two s t ts e)))))

  terms_alike : (ls : List Line) (n : ℕ) (w : Said) → Alike (terms_from n w (ls ++ (a ∷ b ∷ more))) (terms_from n w (ls ++ (b ∷ a ∷ more)))
  unfolding terms_from
  terms_alike [] n w = two_lines n w
  terms_alike (l ∷ ls) n w = term_alike n w.d w.terms l _ _ (λ x. held n w.d w.terms l _ _ x.numbers (terms_alike ls (n + 1) (with_terms w (term_of (worths l) ∷ w.terms))))

pub any_order : AnyOrder
any_order ls more a b v h e = text_both Alike (λ n f. bad_alike n f _) (a ∷ b ∷ more) (b ∷ a ∷ more) ls h (terms_alike a b more) v e
