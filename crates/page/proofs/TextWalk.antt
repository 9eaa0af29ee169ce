-- Two texts that begin with the same lines, walked side by side, line by line: where what the lines come to has its fault, and what of it stays with other lines after them.
use mathlib.Core.Path.{◌≡◌, refl, sym, ◌∙◌, ap, subst}
use mathlib.Core.Bool.{Bool, true, false, false≢true}
use mathlib.Core.List.{List, [], ◌∷◌, ◌++◌, append-nil, append_assoc}
use Prim.Native.Nat.{ℕ, ◌+◌, ◌-◌, ◌≤◌}
use native.Mathlib.Omega.{arith}
use borrow.Author.Tests.{ne_eqb}
use lib.IntN.{ℤ}
use lib.ListN.{length, take, length-append}
use lib.Seq.{take-append_seam, take-append-add, get_or-append_seam}
use Rattle.page.specs.SheetLine.{Line, ended_line, Fault, missing, Numbers, faulty, good, line_numbers}
use Rattle.page.specs.SheetText.{term_of, Said, Text, bad_line, well_formed, with_terms, with_line, line_then, term_numbers, terms_from, text_of}
use Rattle.page.specs.FaultFacts.{Means, wrong_letter, wrong_count, badly_written, out_of_range, beyond_degree, given_twice, unended, TermFor, numbers_on, FaultAt, at_letter, at_no_line, at_count, at_badly_written, at_out_of_range, at_beyond, at_twice, at_end, line_at, letter_on, signs_on, ComesTo, as_head, as_term}
use Rattle.page.proofs.LineFaults.{line_means, term_means}

-- ---- the fault of a line is one of 14 to 20, and lines are counted from 1
pub fault_numbered : {m n : ℕ} {f : Fault} → FaultAt m n f → (14 ≤ f.number) × (f.number ≤ 20) × (1 ≤ n)
fault_numbered (at_letter h _) = (omega arith, omega arith, h)
fault_numbered (at_no_line h _) = (omega arith, omega arith, omega arith)
fault_numbered (at_count h _) = (omega arith, omega arith, h)
fault_numbered (at_badly_written _ h _ _ _) = (omega arith, omega arith, h)
fault_numbered (at_out_of_range _ h _ _ _) = (omega arith, omega arith, h)
fault_numbered (at_beyond h _) = (omega arith, omega arith, omega arith)
fault_numbered (at_twice h _) = (omega arith, omega arith, omega arith)
fault_numbered (at_end h _) = (omega arith, omega arith, h)

-- ---- through a line of both, good or bad
pub line_both : (P : Text → Text → Type 0) (n : ℕ) (l : Numbers) (s t : List ℤ → Text) → ((f : Fault) → l ≡ faulty f → P (bad_line n f) (bad_line n f))
    → ((zs : List ℤ) → l ≡ good zs → P (s zs) (t zs)) → P (with_line n l s) (with_line n l t)
line_both P n (faulty f) s t b h = b f refl
line_both P n (good zs) s t b h = h zs refl

-- ---- the fault of the n-th line of m, by what that line means: where it stands, and that 20 is the fault of an unended line
module _ (m n : ℕ) (l : Line) (from-1 : 1 ≤ n) (within : n ≤ m) where
  fault_at : {letter : ℕ} {ns : List Bool} {e : ℕ} {beyond twice : Bool} {f : Fault} → numbers_on n ≡ length ns → (beyond ≡ true → 5 ≤ n) → (twice ≡ true → 5 ≤ n)
      → Means letter ns e beyond twice l (faulty f) → FaultAt m n f × (f.number ≡ 20 → l.ended ≡ false)
  fault_at c b t (wrong_letter _) = (at_letter from-1 within, λ z. absurd (omega arith))
  fault_at c b t (wrong_count _ _) = (at_count from-1 within, λ z. absurd (omega arith))
  fault_at c b t (badly_written k i _ _ _) = (at_badly_written (k + 2) from-1 within (omega arith) (omega arith), λ z. absurd (omega arith))
  fault_at c b t (out_of_range k i _ _ _ _) = (at_out_of_range (k + 2) from-1 within (omega arith) (omega arith), λ z. absurd (omega arith))
  fault_at c b t (beyond_degree _ _ y) = (at_beyond (b y) within, λ z. absurd (omega arith))
  fault_at c b t (given_twice _ _ _ y) = (at_twice (t y) within, λ z. absurd (omega arith))
  fault_at c b t (unended _ _ u) = (at_end from-1 within, λ _. u)

-- ---- lines of which only the last may be unended
abbrev pub Ended : List Line → Type 0
Ended [] = Unit {0}
Ended (l ∷ ls) = (l.ended ≡ false → length ls ≡ 0) × Ended ls

-- a text that is well-formed, or bad only because its n-th line is missing
abbrev MissingOnly : ℕ → Text → Type 0
MissingOnly n t = (m : ℕ) (g : Fault) → t ≡ bad_line m g → (m ≡ n) × (g ≡ missing)

-- the n-th of these lines is the first bad one: it comes to this fault, no line before it has one, and with it alone after them the text is bad there
pub record FoundAt (all : List Line) (n : ℕ) (f : Fault) : Type 0 where
  pub comes : ComesTo all n f
  pub before : MissingOnly n (text_of (take (n - 1) all))
  pub alone : text_of (take n all) ≡ bad_line n f

-- the n-th of these lines has this fault, or it is the first one after their end; an unended one is the last, where only that may be unended
pub record BadAt (all : List Line) (n : ℕ) (f : Fault) : Type 0 where
  pub within : n ≤ length all + 1
  pub placed : FaultAt (length all) n f
  pub last : Ended all → f.number ≡ 20 → n ≡ length all
  pub found : n ≤ length all → FoundAt all n f

-- ls are those left of them from the n-th on, after those in front; with any lines after the front, the text comes to what `then` makes of these
record Left (all : List Line) (n : ℕ) (ls : List Line) (then : List Line → Text) : Type 0 where
  front : List Line
  parts : all ≡ front ++ ls
  next : n ≡ length front + 1
  count : n + length ls ≡ length all + 1
  ended : Ended all → Ended ls
  said : (zs : List Line) → text_of (front ++ zs) ≡ then zs

module _ (all : List Line) where
  left_next : (n : ℕ) (l : Line) (ls : List Line) (then after : List Line → Text) → ((zs : List Line) → then (l ∷ zs) ≡ after zs) → Left all n (l ∷ ls) then → Left all (n + 1) ls after
  left_next n l ls then after e h = record {
    front = h.front ++ (l ∷ []);
    parts = h.parts ∙ sym (append_assoc h.front (l ∷ []) ls);
    next = omega (arith, h.next, length-append h.front (l ∷ []));
    count = omega (arith, h.count);
    ended = λ a. (h.ended a).1;
    said = λ zs. ap text_of (append_assoc h.front (l ∷ []) zs) ∙ h.said (l ∷ zs) ∙ e zs;
  }

  -- the first of those left is faulty
  module _ (n : ℕ) (l : Line) (ls : List Line) (then : List Line → Text) (h : Left all n (l ∷ ls) then) where
    -- it is the n-th; what the lines before it come to, and these lines with it
    before_it : text_of (take (n - 1) all) ≡ then []
    before_it =
        let e : n - 1 ≡ length h.front = omega (arith, h.next) in
        let t : take (n - 1) all ≡ h.front = rw (e, h.parts) (take-append_seam h.front (l ∷ ls)) in
        ap text_of (t ∙ sym (append-nil h.front)) ∙ h.said []

    with_it : text_of (take n all) ≡ then (l ∷ [])
    with_it = let t : take n all ≡ h.front ++ (l ∷ []) = rw (h.next, h.parts) (take-append-add h.front (l ∷ ls) 1) in ap text_of t ∙ h.said (l ∷ [])

    line_is : line_at all n ≡ l
    line_is = let e : n - 1 ≡ length h.front = omega (arith, h.next) in rw (e, h.parts) (get_or-append_seam h.front l ls (ended_line []))

    bad_here : {letter : ℕ} {ns : List Bool} {e : ℕ} {beyond twice : Bool} {f : Fault} → numbers_on n ≡ length ns → (beyond ≡ true → 5 ≤ n) → (twice ≡ true → 5 ≤ n)
        → Means letter ns e beyond twice l (faulty f) → ComesTo all n f → MissingOnly n (then []) → then (l ∷ []) ≡ bad_line n f → BadAt all n f
    bad_here c b t m comes before alone =
        let (p, u) = fault_at (length all) n l (omega (arith, h.next)) (omega (arith, h.count)) c b t m in
        record {
          within = omega (arith, h.count);
          placed = p;
          last = λ a z. let e = (h.ended a).0 (u z) in omega (arith, h.count);
          found = λ _. record { comes = comes; before = λ m g e. before m g (sym before_it ∙ e); alone = with_it ∙ alone };
        }

  -- one of the first four lines, or a term's
  bad_head : (n : ℕ) (l : Line) (ls : List Line) (letter : ℕ) (ns : List Bool) (rest : List ℤ → List Line → Text) → Left all n (l ∷ ls) (λ zs. line_then n letter ns zs rest)
      → n ≤ 4 → letter_on n ≡ letter → signs_on n ≡ ns → numbers_on n ≡ length ns → (f : Fault) → line_numbers letter ns l ≡ faulty f → BadAt all n f
  bad_head n l ls letter ns rest h i a b c f e =
      bad_here n l ls _ h c (λ y. absurd (false≢true y)) (λ y. absurd (false≢true y)) (subst (λ r. Means letter ns (length ns) false false l r) e (line_means letter ns l))
      (as_head i (rw (a, b, line_is n l ls _ h) e)) (λ m g z. (cc, cc)) (rw e)

  bad_term : (n : ℕ) (l : Line) (ls : List Line) (w : Said) → Left all n (l ∷ ls) (terms_from n w) → 5 ≤ n → (f : Fault) → term_numbers w.d w.terms l ≡ faulty f → BadAt all n f
  unfolding terms_from
  bad_term n l ls w h i f e =
      let three : numbers_on n ≡ 3 = rw (ne_eqb n 1 (omega arith), ne_eqb n 3 (omega arith), ne_eqb n 4 (omega arith)) in
      bad_here n l ls _ h three (λ _. i) (λ _. i) (subst (λ r. TermFor w.d w.terms l r) e (term_means w.d w.terms l))
      (as_term w i (before_it n l ls _ h) (rw (line_is n l ls _ h) e))
      (λ m g z. let q : ◌≡◌ {A = ℕ} 0 1 = cc in absurd (omega arith)) (rw e)

  -- ---- through the first four lines: xs come after all the lines in the one text, ys in the other
  module _ (xs ys : List Line) (P : Text → Text → Type 0) (bad-both : (n : ℕ) (f : Fault) → BadAt all n f → P (bad_line n f) (bad_line n f))
      (none_left : (n letter : ℕ) (ns : List Bool) (rest : List ℤ → List Line → Text) → n ≤ 4 → n ≡ length all + 1 → P (line_then n letter ns xs rest) (line_then n letter ns ys rest)) where
    then_both : (n letter : ℕ) (ns : List Bool) (ls : List Line) (rest : List ℤ → List Line → Text) → n ≤ 4 → letter_on n ≡ letter → signs_on n ≡ ns → numbers_on n ≡ length ns
        → Left all n ls (λ zs. line_then n letter ns zs rest) → ((zs : List ℤ) (ls : List Line) → Left all (n + 1) ls (rest zs) → P (rest zs (ls ++ xs)) (rest zs (ls ++ ys)))
        → P (line_then n letter ns (ls ++ xs) rest) (line_then n letter ns (ls ++ ys) rest)
    then_both n letter ns [] rest i a b c h f = none_left n letter ns rest i (omega (arith, h.count))
    then_both n letter ns (l ∷ ls) rest i a b c h f =
        line_both P n (line_numbers letter ns l) _ _ (λ g e. bad-both n g (bad_head n l ls letter ns rest h i a b c g e))
        (λ zs e. f zs ls (left_next n l ls _ (rest zs) (λ _. rw e) h))

    heads_both : ((ls : List Line) (w : Said) → Left all 5 ls (terms_from 5 w) → P (terms_from 5 w (ls ++ xs)) (terms_from 5 w (ls ++ ys))) → P (text_of (all ++ xs)) (text_of (all ++ ys))
    unfolding text_of
    heads_both f =
        then_both _ _ _ all _ (omega arith) refl refl refl (record { front = []; parts = refl; next = omega arith; count = omega arith; ended = λ a. a; said = λ zs. refl })
        (λ d ls h. then_both _ _ _ ls _ (omega arith) refl refl refl h (λ b ls h. then_both _ _ _ ls _ (omega arith) refl refl refl h (λ k ls h.
        then_both _ _ _ ls _ (omega arith) refl refl refl h (λ m ls h. f ls _ h))))

-- ---- two texts that differ only after their first four lines: what holds of the terms of both holds of both, if it holds where both are bad at one line by one fault
pub text_both : (P : Text → Text → Type 0) → ((n : ℕ) (f : Fault) → P (bad_line n f) (bad_line n f)) → (xs ys ls : List Line) → 4 ≤ length ls
    → ((ls : List Line) (n : ℕ) (w : Said) → P (terms_from n w (ls ++ xs)) (terms_from n w (ls ++ ys))) → P (text_of (ls ++ xs)) (text_of (ls ++ ys))
text_both P b xs ys ls h f = heads_both ls xs ys P (λ n f _. b n f) (λ n letter ns rest i e. absurd (omega arith)) (λ ls w _. f ls 5 w)

-- ---- what lines come to, and what they come to with more lines after them: a bad line that is one of them is the bad one in the longer text too, by the same fault
abbrev pub Walked : List Line → Text → Text → Type 0
Walked ls (bad_line n f) longer = BadAt ls n f × (n ≤ length ls → longer ≡ bad_line n f)
Walked ls (well_formed w) longer = 4 ≤ length ls

module _ (all more : List Line) where
  terms_walked : (ls : List Line) (n : ℕ) (w : Said) → 5 ≤ n → Left all n ls (terms_from n w) → Walked all (terms_from n w (ls ++ [])) (terms_from n w (ls ++ more))
  unfolding terms_from
  terms_walked [] n w i h = omega (arith, h.count)
  terms_walked (l ∷ ls) n w i h =
      line_both (Walked all) n (term_numbers w.d w.terms l) _ _ (λ f e. (bad_term all n l ls w h i f e, λ _. refl))
      (λ zs e. terms_walked ls (n + 1) (with_terms w (term_of zs ∷ w.terms)) (omega arith) (left_next all n l ls _ _ (λ _. rw e) h))

  missing_walked : (n letter : ℕ) (ns : List Bool) (rest : List ℤ → List Line → Text) → n ≤ 4 → n ≡ length all + 1 → Walked all (line_then n letter ns [] rest) (line_then n letter ns more rest)
  missing_walked n letter ns rest i e =
      let none : n ≤ length all → ⊥ = λ j. omega arith in
      (record { within = omega arith; placed = at_no_line (omega arith) (omega arith); last = λ _ z. absurd (omega arith); found = λ j. absurd (none j) }, λ j. absurd (none j))

  pub text_walked : Walked all (text_of all) (text_of (all ++ more))
  text_walked =
      subst (λ ls. Walked all (text_of ls) (text_of (all ++ more))) (append-nil all)
      (heads_both all [] more (Walked all) (λ n f b. (b, λ _. refl)) missing_walked (λ ls w h. terms_walked ls 5 w (omega arith) h))

-- so the bad line of a text is one of its lines, or the first one after the end, and as one of its lines it stays
pub bad_at : (ls more : List Line) (n : ℕ) (f : Fault) → text_of ls ≡ bad_line n f → BadAt ls n f × (n ≤ length ls → text_of (ls ++ more) ≡ bad_line n f)
bad_at ls more n f e = subst (λ t. Walked ls t (text_of (ls ++ more))) e (text_walked ls more)
