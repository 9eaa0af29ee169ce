-- A term's line: what is known of the term where the line has no fault, and that of the terms before it only those of its own place matter.
use mathlib.Core.Path.{◌≡◌, sym, ◌∙◌, ap, subst}
use mathlib.Core.Bool.{Bool, true, false, ◌||◌}
use mathlib.Core.List.{List}
use Prim.Native.Nat.{ℕ, ◌+◌, ◌≤◌}
use native.Mathlib.Omega.{arith}
use borrow.Author.Tests.{eqb-true, ltb-false}
use lib.Dec.{ltb, eqb}
use lib.IntN.{ℤ}
use Rattle.algebra.proofs.Choice.{and_left, and_right}
use Rattle.page.specs.SheetLine.{Line, worths, Fault, good}
use Rattle.page.specs.SheetText.{Term, term_of, is_term, is_named, Text, bad_line, with_line, term_numbers}
use Rattle.page.specs.FaultFacts.{TermFor}
use Rattle.page.proofs.Rows.{or_both}
use Rattle.page.proofs.LineFaults.{term_means, good_means}
use Rattle.page.proofs.TextWalk.{line_both}

-- whether one of them has its place is all that matters of the terms before it
pub only_its_place : (d : ℕ) (l : Line) (ts us : List Term) → let t = term_of (worths l) in is_named t.i t.j ts ≡ is_named t.i t.j us → term_numbers d ts l ≡ term_numbers d us l
unfolding term_numbers
only_its_place d l ts us e = rw e

-- ---- a line of a term that is within the degree, and new
pub record Admitted (d : ℕ) (ts : List Term) (l : Line) : Type 0 where
  pub numbers : term_numbers d ts l ≡ good (worths l)
  pub within : (term_of (worths l)).i + (term_of (worths l)).j ≤ d
  pub new : is_named (term_of (worths l)).i (term_of (worths l)).j ts ≡ false

-- what is not beyond the degree is within it: the first of three tests
first_false : (m n : ℕ) (b c : Bool) → ltb m n || b || c ≡ false → n ≤ m
first_false m n b c e = ltb-false m n (or_both (ltb m n) b (or_both (ltb m n || b) c e).0).0

pub admitted : (d : ℕ) (ts : List Term) (l : Line) (zs : List ℤ) → term_numbers d ts l ≡ good zs → (zs ≡ worths l) × Admitted d ts l
admitted d ts l zs e =
    let (i, _, t) = good_means (subst (λ r. TermFor d ts l r) e (term_means d ts l)) in
    (i, record { numbers = e ∙ ap good i; within = let b = t.within_degree (omega arith) in omega (arith, first_false); new = t.new (omega arith) })

-- what follows from a term's line, bad or admitted
pub term_line : (P : Text → Type 0) → ((n : ℕ) (f : Fault) → P (bad_line n f)) → (n d : ℕ) (ts : List Term) (l : Line) (rest : List ℤ → Text)
    → (Admitted d ts l → P (rest (worths l))) → P (with_line n (term_numbers d ts l) rest)
term_line P bad n d ts l rest h =
    line_both (λ t _. P t) n (term_numbers d ts l) rest rest (λ f _. bad n f) (λ zs e. let (i, a) = admitted d ts l zs e in subst (λ zs. P (rest zs)) (sym i) (h a))

-- ---- a term of i, j
pub place_of : (i j : ℕ) (t : Term) → is_term i j t ≡ true → (t.i ≡ i) × (t.j ≡ j)
place_of i j t e = (eqb-true t.i i (and_left (eqb t.i i) (eqb t.j j) e), eqb-true t.j j (and_right (eqb t.i i) (eqb t.j j) e))
