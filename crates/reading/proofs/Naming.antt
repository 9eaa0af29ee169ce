-- The lines after the fourth: each names a term, and the tables hold those named so far.
use mathlib.Core.Path.{◌≡◌, refl, sym, ◌∙◌, ap, ap₂}
use mathlib.Core.Bool.{Bool, true, false, cond, false≢true}
use mathlib.Core.List.{List, [], ◌∷◌}
use Prim.Native.Nat.{ℕ, ◌+◌, ◌≤◌, ◌<◌}
use native.Mathlib.Omega.{arith}
use borrow.Author.Tests.{leb-true, le-leb}
use lib.Dec.{leb}
use lib.IntN.{ℤ, pos, nat_abs}
use lib.ListN.{length, get_or, set, take, drop, length-set}
use lib.Seq.{drop-length, get_or-take, take_all}
use Rattle.std.specs.Prelude.{Option, Some, None, Result, Ok, Err}
use Rattle.page.specs.declared.Refusal.{Refusal}
use Rattle.page.specs.Numbers.{number_of}
use Rattle.page.specs.SheetLine.{lines, fault, Numbers, faulty, good, worths, line_numbers, number_at, whole_at}
use Rattle.page.specs.SheetText.{Term, term_of, is_named, is_beyond, Said, Text, with_line, term_numbers, with_terms, terms_from}
use Rattle.lines.specs.declared.Fault.{Fault}
use Rattle.lines.specs.declared.Taken.{Taken}
use Rattle.lines.specs.Steps.{unless_fault, TakenLine, LineTaken}
use Rattle.reading.specs.declared.Refused.{Refused}
use Rattle.reading.specs.Steps.{refused_at, place_of, term_fault_in, or_line, fault_by, Tables, TermTaken, TermsRead}
use Rattle.reading.proofs.Tables.{fault_told, faultless, fault_in_text, enter_kept}
use Rattle.reading.proofs.TermLines.{term_signs, as_term, term_numbers_are, all_read}

-- ---- what is wrong with a term's line, by what was taken of it
-- the fault of its term
abbrev fault_of_term : Taken → ℕ → List ℕ → Result Unit Refusal
fault_of_term r d named = term_fault_in d (whole_at r.values 0) (whole_at r.values 1) named

module _ (r : Taken) (d : ℕ) (named : List ℕ) where
  -- where nothing is wrong, the line has no fault, and its term has none, if both exponents are read
  well : fault_by r d named ≡ Ok tt → (r.fault ≡ None) × (2 ≤ r.read → fault_of_term r d named ≡ Ok tt)
  well e = (faultless_line (cond (leb 2 r.read) (fault_of_term r d named) (Ok tt)) r.fault e, λ h. faultless_term (leb 2 r.read) r.fault (le-leb 2 r.read h) e)
    where
      faultless_line : (x : Result Unit Refusal) (f : Option Fault) → or_line x f ≡ Ok tt → f ≡ None
      faultless_line (Err q) f e = cc
      faultless_line (Ok u) None e = refl
      faultless_line (Ok u) (Some f) e = cc

      passes : (x : Result Unit Refusal) (f : Option Fault) → or_line x f ≡ Ok tt → x ≡ Ok tt
      passes (Err q) f e = cc
      passes (Ok u) f e = refl

      faultless_term : (b : Bool) (f : Option Fault) → b ≡ true → or_line (cond b (fault_of_term r d named) (Ok tt)) f ≡ Ok tt → fault_of_term r d named ≡ Ok tt
      faultless_term true f h e = passes (fault_of_term r d named) f e
      faultless_term false f h e = absurd (false≢true h)

-- ---- what the line comes to as a term: by the term's fault, and else by the line's
abbrev told_by : Result Unit Fault → Numbers → Numbers
told_by (Ok u) zs = zs
told_by (Err f) zs = faulty (fault (number_of f.refusal) f.field)

as_told : (both beyond twice : Bool) (x : Result Unit Refusal) (p : Option Fault) (zs : Numbers) → (both ≡ true → x ≡ fault_told beyond twice)
    → as_term both beyond twice (unless_fault p zs) ≡ told_by (or_line (cond both x (Ok tt)) p) zs
as_told true true twice x p zs h = rw (h refl)
as_told true false true x p zs h = rw (h refl)
as_told true false false x None zs h = rw (h refl)
as_told true false false x (Some f) zs h = rw (h refl)
as_told false beyond twice x None zs h = refl
as_told false beyond twice x (Some f) zs h = refl

module _ (text : List ℕ) (at : ℕ) (inside : at < length text) (d : ℕ) {r : Taken} (t : LineTaken text at 84 3 term_signs r) (values : List ℤ) (named : List ℕ) where
  abbrev here : TakenLine text at 84 3 term_signs r
  here = t.some inside

  abbrev the_term : Term
  the_term = term_of r.values

  -- the numbers that were read are the line's
  same_number : (i : ℕ) → i < r.read → number_at (worths here.line) i ≡ number_at r.values i
  same_number i h = sym (get_or-take r.read (worths here.line) i (pos 0) h) ∙ ap (λ l. get_or l i (pos 0)) (sym here.values) ∙ get_or-take r.read r.values i (pos 0) h

  -- the line as a term, where the tables hold the terms before it
  term_told : (ts : List Term) → Tables ts values named → term_numbers d ts here.line ≡ told_by (fault_by r d named) (good r.values)
  term_told ts tables =
      let w : Term = term_of (worths here.line) in let beyond = is_beyond d w.i w.j in let twice = is_named w.i w.j ts in
      let n : take 3 r.values ≡ r.values = take_all 3 r.values (omega (arith, t.three)) in
      term_numbers_are d ts here.line ∙ ap (λ m. as_term (leb 2 m) beyond twice (line_numbers 84 term_signs here.line)) (sym here.read)
      ∙ ap (as_term (leb 2 r.read) beyond twice) (here.told ∙ ap (λ zs. unless_fault r.fault (good zs)) n)
      ∙ as_told (leb 2 r.read) beyond twice (fault_of_term r d named) r.fault (good r.values)
      (λ e. let h = leb-true 2 r.read e in fault_in_text tables d the_term.i the_term.j
      ∙ ap₂ (λ i j. fault_told (is_beyond d i j) (is_named i j ts)) (sym (ap nat_abs (same_number 0 (omega arith)))) (sym (ap nat_abs (same_number 1 (omega arith)))))

  -- a line with nothing wrong has all three numbers, and its term has a place in the tables
  placed : fault_by r d named ≡ Ok tt → (whole_at r.values 0 ≤ 8) × (whole_at r.values 1 ≤ 8)
  placed z =
      let (f, g) = well r d named z in
      let a : line_numbers 84 term_signs here.line ≡ good (take 3 r.values) = here.told ∙ ap (λ m. unless_fault m (good (take 3 r.values))) f in
      let n = all_read 84 term_signs here.line (take 3 r.values) a in let m = here.read in
      faultless d the_term.i the_term.j named (g (omega arith))

  -- ---- so it is taken: the text is bad at it, or its numbers are a term and the lines after it decide
  term_step : (n : ℕ) (w : Said) → w.d ≡ d → Tables w.terms values named
      → terms_from n w (lines (drop at text)) ≡ with_line n (told_by (fault_by r d named) (good r.values)) (λ zs. terms_from (n + 1) (with_terms w (term_of zs ∷ w.terms)) here.more)
  unfolding terms_from
  term_step n w q tables =
      let rest : List ℤ → Text = λ zs. terms_from (n + 1) (with_terms w (term_of zs ∷ w.terms)) here.more in
      ap (terms_from n w) here.here ∙ ap (λ m. with_line n (term_numbers m w.terms here.line) rest) q ∙ ap (λ ns. with_line n ns rest) (term_told w.terms tables)

  module _ (long : length values ≡ 81) (marks : length named ≡ 81) where
    -- something is wrong: nothing is entered
    pub term_refused : {f : Fault} → fault_by r d named ≡ Err f → TermTaken text at d values values named named (Err f)
    term_refused e = record {
      told = λ n w q tables. term_step n w q tables ∙ ap (λ b. with_line n (told_by b (good r.values)) (λ zs. terms_from (n + 1) (with_terms w (term_of zs ∷ w.terms)) here.more)) e;
      long = (long, marks);
    }

    module _ (z : fault_by r d named ≡ Ok tt) where
      -- the term may be entered, where nothing is wrong
      pub term_placed : (whole_at r.values 0 ≤ 8) × (whole_at r.values 1 ≤ 8)
      term_placed = placed z

      -- and it is: the tables hold it then
      pub term_entered : {values' : List ℤ} {named' : List ℕ} → let p = place_of the_term.i the_term.j in values' ≡ set values p the_term.coefficient → named' ≡ set named p 1
          → TermTaken text at d values values' named named' (Ok r.next)
      term_entered v m =
          let p = place_of the_term.i the_term.j in let (f, _) = well r d named z in let (i, j) = placed z in
          record {
            told = record {
              term = the_term;
              step = λ n w q tables.
                  term_step n w q tables ∙ ap (λ b. with_line n (told_by b (good r.values)) (λ zs. terms_from (n + 1) (with_terms w (term_of zs ∷ w.terms)) here.more)) z
                  ∙ ap (terms_from (n + 1) (with_terms w (the_term ∷ w.terms))) (here.after f);
              kept = λ ts tables. rw (v, m) (enter_kept tables the_term i j);
              within = t.within;
              further = here.further f;
            };
            long = (ap length v ∙ length-set values p the_term.coefficient ∙ long, ap length m ∙ length-set named p 1 ∙ marks);
          }

-- ---- line after line: the terms so far, and the line that comes next
pub record Naming (text : List ℕ) (from d : ℕ) (values : List ℤ) (named : List ℕ) (at line : ℕ) : Type 0 where
  pub terms : List Term
  pub within : at ≤ length text
  pub most : line ≤ at + 5
  pub held : Tables terms values named
  pub told : (w : Said) → w.d ≡ d → w.terms ≡ [] → terms_from 5 w (lines (drop from text)) ≡ terms_from line (with_terms w terms) (lines (drop at text))

module _ (text : List ℕ) (from d : ℕ) where
  pub naming_start : (values : List ℤ) (named : List ℕ) → Tables [] values named → from ≤ length text → Naming text from d values named from 5
  naming_start values named tables h = record {
    terms = [];
    within = h;
    most = omega arith;
    held = tables;
    told = λ w _ e. ap (λ ts. terms_from 5 (with_terms w ts) (lines (drop from text))) e;
  }

  module _ {values values' : List ℤ} {named named' : List ℕ} {at line : ℕ} (k : Naming text from d values named at line) where
    -- one more term
    pub naming_next : {next : ℕ} → TermTaken text at d values values' named named' (Ok next) → Naming text from d values' named' next (line + 1)
    naming_next t =
        let g = t.told in let f = g.further in let m = k.most in
        record {
          terms = g.term ∷ k.terms;
          within = g.within;
          most = omega arith;
          held = g.kept k.terms k.held;
          told = λ w p q. k.told w p q ∙ g.step line (with_terms w k.terms) p k.held;
        }

    -- a bad line
    pub naming_bad : {f : Fault} → TermTaken text at d values values' named named' (Err f) → {e : Refused} → e ≡ refused_at line f → TermsRead text from d values' (Err e)
    naming_bad t o = rw o (record { told = λ w p q. k.told w p q ∙ t.told line (with_terms w k.terms) p k.held; long = t.long.0 })

  -- the end of the text
  pub naming_end : {values : List ℤ} {named : List ℕ} {at line : ℕ} → Naming text from d values named at line → at ≡ length text → TermsRead text from d values (Ok tt)
  unfolding lines terms_from
  naming_end {line = line} k e = record {
    told = record {
      terms = k.terms;
      read = λ w p q. k.told w p q ∙ ap (λ n. terms_from line (with_terms w k.terms) (lines (drop n text))) e ∙ ap (λ l. terms_from line (with_terms w k.terms) (lines l)) (drop-length text);
      held = k.held.each;
    };
    long = k.held.long;
  }
