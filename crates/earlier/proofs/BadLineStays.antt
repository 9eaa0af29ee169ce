-- What was a good line before #105 is a line without a fault, and the accepted texts are the same.
use mathlib.Core.Path.{◌≡◌, refl, sym, ◌∙◌, ap}
use mathlib.Core.Bool.{Bool, true, false, not, ◌&&◌, ◌||◌, cond}
use mathlib.Core.List.{List, [], ◌∷◌, ◌++◌, map}
use Prim.Native.Nat.{ℕ, zero, suc, ◌+◌}
use native.Mathlib.Omega.{arith}
use borrow.Author.Tests.{eqb-true, eqb-false, eq-eqb, ne_eqb, ltb-true, ltb-false, leb-true, le-leb, lt-leb}
use lib.Dec.{leb, ltb, eqb}
use lib.IntN.{ℤ}
use lib.ListN.{length, get_or, drop}
use Rattle.page.specs.Refusals.{refusal, unless}
use Rattle.page.specs.SheetLine.{Line, lines, fields, is_written, is_within, worth, signed, unsigned, is_letter, letter_field, number_fields, reads_well, Trial, ◌at_field◌when◌, field_faults, number_faults, line_faults, Numbers, faulty, good, first_fault, worths, line_numbers}
use Rattle.page.specs.SheetText.{Term, term_of, is_named, is_beyond, Said, Text, bad_line, well_formed, with_line, line_then, with_terms, term_numbers, terms_from, text_of, to_read, Outcome, refused, accepted, outcome_of, outcome}
use Rattle.page.proofs.ReadFacts.{read_never}
use Rattle.page.proofs.TextWalk.{fault_numbered}
use Rattle.page.proofs.TextFaults.{fault_placed}
use Rattle.reading.specs.Answers.{reading_of, reading, stated_of, stated}
use Rattle.earlier.specs.BadLine.{TenNumbers, ten_bad, ten_good, with_first, ten_numbers, ten_after_letter, is_admitted, ten_term_numbers, TenText, ten_bad_line, ten_with_line, ten_line_then, ten_terms_from, ten_text_of, ten_refused, ten_accepted, ten_outcome_of, ten_outcome}
use Rattle.earlier.specs.BadLineStays.{line_as_ten, SameLine, when_admitted, SameTerm, text_as_ten, SameText, as_ten, SameOutcome, SheetSame, AcceptedBefore, RefusedSame, RefusalSame}

-- ---- whether no trial holds: then the line has its numbers
abbrev clear : List Trial → Bool
clear [] = true
clear (t ∷ ts) = not t.holds && clear ts

abbrev good_when : Bool → List ℤ → TenNumbers
good_when b zs = cond b (ten_good zs) ten_bad

trials_told : (ts : List Trial) (zs : List ℤ) → line_as_ten (first_fault ts zs) ≡ good_when (clear ts) zs
trials_told [] zs = refl
trials_told (t ∷ ts) zs = by t.holds (trials_told ts zs)
  where
    by : (b : Bool) → line_as_ten (first_fault ts zs) ≡ good_when (clear ts) zs → line_as_ten (cond b (faulty t.tried) (first_fault ts zs)) ≡ good_when (not b && clear ts) zs
    by true e = refl
    by false e = e

clear_++ : (ss ts : List Trial) → clear (ss ++ ts) ≡ clear ss && clear ts
clear_++ [] ts = refl
clear_++ (s ∷ ss) ts = by (not s.holds) (clear_++ ss ts)
  where
    by : (b : Bool) → clear (ss ++ ts) ≡ clear ss && clear ts → b && clear (ss ++ ts) ≡ (b && clear ss) && clear ts
    by true e = e
    by false e = refl

-- ---- fields that were good are as many as the numbers, and none has a fault
same_count : (a b : ℕ) → eqb (suc a) (suc b) ≡ eqb a b
same_count a b = by (eqb a b) refl
  where
    by : (t : Bool) → eqb a b ≡ t → eqb (suc a) (suc b) ≡ t
    by true e = let h = eqb-true a b e in eq-eqb (suc a) (suc b) (omega arith)
    by false e = let h = eqb-false a b e in ne_eqb (suc a) (suc b) (λ z. h (omega arith))

fields_told : (n : ℕ) (ns : List Bool) (fs : List (List ℕ)) → ten_numbers ns fs ≡ good_when (eqb (length fs) (length ns) && clear (number_faults n ns fs)) (map worth fs)
fields_told n [] [] = refl
fields_told n [] (f ∷ fs) = rw (ne_eqb (length (f ∷ fs)) 0 (λ z. omega arith))
fields_told n (s ∷ ss) [] = rw (ne_eqb 0 (length (s ∷ ss)) (λ z. omega arith))
fields_told n (s ∷ ss) (f ∷ fs) =
    rw (same_count (length fs) (length ss)) (by (is_written f) (is_within s (worth f)) (eqb (length fs) (length ss)) (clear (number_faults (n + 1) ss fs)) (fields_told (n + 1) ss fs))
  where
    by : (a b c e : Bool) {r : TenNumbers} → r ≡ good_when (c && e) (map worth fs) → cond (a && b) (with_first (worth f) r) ten_bad ≡ good_when (c && (not (not a) && (not (not b) && e))) (worth f ∷ map worth fs)
    by true true true true h = ap (with_first (worth f)) h
    by true true true false h = ap (with_first (worth f)) h
    by true true false e h = ap (with_first (worth f)) h
    by true false true e h = refl
    by true false false e h = refl
    by false b true e h = refl
    by false b false e h = refl

-- ---- a line: letter, count, what stands between, and its end
line_told : (letter n : ℕ) (between : List Trial) (l : Line) (zs : List ℤ)
    → line_as_ten (first_fault (line_faults letter n between l) zs) ≡ good_when (is_letter letter (letter_field l) && (eqb (length (number_fields l)) n && (clear between && l.ended))) zs
line_told letter n between l zs =
    trials_told (line_faults letter n between l) zs
    ∙ rw (clear_++ between ((20 at_field 0 when not l.ended) ∷ [])) (by (is_letter letter (letter_field l)) (eqb (length (number_fields l)) n) (clear between) l.ended)
  where
    by : (a b c e : Bool) → good_when (not (not a) && (not (not b) && (c && (not (not e) && true)))) zs ≡ good_when (a && (b && (c && e))) zs
    by true true true true = refl
    by true true true false = refl
    by true true false e = refl
    by true false c e = refl
    by false b c e = refl

-- a line that was good, by its fields gs
was_good : (letter : ℕ) (ns : List Bool) (gs : List (List ℕ)) (e : Bool) → let fs = drop 1 gs in
    cond e (ten_after_letter letter ns gs) ten_bad ≡ good_when (is_letter letter (get_or gs 0 []) && (eqb (length fs) (length ns) && (clear (number_faults 2 ns fs) && e))) (map worth fs)
was_good letter ns [] true = refl
was_good letter ns [] false = refl
was_good letter ns (g ∷ fs) e = by (is_letter letter g) (eqb (length fs) (length ns)) (clear (number_faults 2 ns fs)) e (fields_told 2 ns fs)
  where
    by : (a b c e : Bool) {r : TenNumbers} → r ≡ good_when (b && c) (map worth fs) → cond e (cond a r ten_bad) ten_bad ≡ good_when (a && (b && (c && e))) (map worth fs)
    by true true true true h = h
    by true true false true h = h
    by true false c true h = h
    by false b c true h = refl
    by true true true false h = refl
    by true true false false h = refl
    by true false c false h = refl
    by false b c false h = refl

pub same_line : SameLine
unfolding line_numbers
same_line letter ns l = was_good letter ns (fields l.bytes) l.ended ∙ sym (line_told letter (length ns) (number_faults 2 ns (number_fields l)) l (worths l))

-- ---- a term's line: admitted was what is neither beyond the degree nor given before
within : (a b : ℕ) → leb a b ≡ not (ltb b a)
within a b = by (ltb b a) refl
  where
    by : (t : Bool) → ltb b a ≡ t → leb a b ≡ not t
    by true e = lt-leb a b (ltb-true b a e)
    by false e = le-leb a b (ltb-false b a e)

admitted : (d : ℕ) (ts : List Term) (t : Term) → is_admitted d ts t ≡ (not (is_beyond d t.i t.j) && not (is_named t.i t.j ts))
admitted d ts t = rw (within (t.i + t.j) d, within t.i 8, within t.j 8) (by (ltb d (t.i + t.j)) (ltb 8 t.i) (ltb 8 t.j))
  where
    by : (a b c : Bool) → let n = not (is_named t.i t.j ts) in (not a && not b && not c && n) ≡ (not (a || b || c) && n)
    by true b c = refl
    by false true c = refl
    by false false true = refl
    by false false false = refl

last_two : (c e x : Bool) → ((c && e) && x) ≡ ((c && x) && e)
last_two true true true = refl
last_two true true false = refl
last_two true false true = refl
last_two true false false = refl
last_two false e x = refl

-- what is tried of a term's fields fs between its count and its end
module _ (d : ℕ) (ts : List Term) where
  abbrev between : List (List ℕ) → List Trial
  between fs =
      let t = term_of (map worth fs) in let read = reads_well unsigned (get_or fs 0 []) && reads_well unsigned (get_or fs 1 []) in
      field_faults 2 unsigned (get_or fs 0 []) ++ ((18 at_field 2 when read && is_beyond d t.i t.j) ∷ (19 at_field 2 when read && is_named t.i t.j ts) ∷ [])
      ++ number_faults 3 (unsigned ∷ signed ∷ []) (drop 1 fs)

  abbrev uus : List Bool
  uus = unsigned ∷ unsigned ∷ signed ∷ []

  abbrev both_clear : List (List ℕ) → Type 0
  both_clear fs = (clear (number_faults 2 uus fs) && is_admitted d ts (term_of (map worth fs))) ≡ clear (between fs)

  three_clear : (f g h : List ℕ) → both_clear (f ∷ g ∷ h ∷ [])
  three_clear f g h =
      let t = term_of (map worth (f ∷ g ∷ h ∷ [])) in
      rw (admitted d ts t) (by (is_written f) (is_within unsigned (worth f)) (is_written g) (is_within unsigned (worth g)) (is_beyond d t.i t.j) (is_named t.i t.j ts) (is_written h) (is_within signed (worth h)))
    where
      by : (a b c e x y u v : Bool) → ((not (not a) && (not (not b) && (not (not c) && (not (not e) && (not (not u) && (not (not v) && true)))))) && (not x && not y))
          ≡ (not (not a) && (not (not b) && (not (((a && b) && (c && e)) && x) && (not (((a && b) && (c && e)) && y) && (not (not c) && (not (not e) && (not (not u) && (not (not v) && true))))))))
      by false b c e x y u v = refl
      by true false c e x y u v = refl
      by true true false e true y u v = refl
      by true true false e false true u v = refl
      by true true false e false false u v = refl
      by true true true false x y u v = refl
      by true true true true true y true true = refl
      by true true true true true y true false = refl
      by true true true true true y false v = refl
      by true true true true false true true true = refl
      by true true true true false true true false = refl
      by true true true true false true false v = refl
      by true true true true false false true true = refl
      by true true true true false false true false = refl
      by true true true true false false false v = refl

  three_fields : (fs : List (List ℕ)) → eqb (length fs) 3 ≡ true → both_clear fs
  three_fields [] e = let z = eqb-true 0 3 e in absurd (omega arith)
  three_fields (f ∷ []) e = let z = eqb-true 1 3 e in absurd (omega arith)
  three_fields (f ∷ g ∷ []) e = let z = eqb-true 2 3 e in absurd (omega arith)
  three_fields (f ∷ g ∷ h ∷ []) e = three_clear f g h
  three_fields (f ∷ g ∷ h ∷ k ∷ fs) e = let z = eqb-true (length (f ∷ g ∷ h ∷ k ∷ fs)) 3 e in absurd (omega arith)

  when_good : (b : Bool) (zs : List ℤ) → when_admitted d ts (good_when b zs) ≡ good_when (b && is_admitted d ts (term_of zs)) zs
  when_good true zs = refl
  when_good false zs = refl

  pub term_was_good : (gs : List (List ℕ)) (e : Bool) → let fs = drop 1 gs in
      when_admitted d ts (cond e (ten_after_letter 84 uus gs) ten_bad) ≡ good_when (is_letter 84 (get_or gs 0 []) && (eqb (length fs) 3 && (clear (between fs) && e))) (map worth fs)
  term_was_good gs e =
      let fs = drop 1 gs in
      ap (when_admitted d ts) (was_good 84 uus gs e) ∙ when_good (is_letter 84 (get_or gs 0 []) && (eqb (length fs) 3 && (clear (number_faults 2 uus fs) && e))) (map worth fs)
      ∙ by (is_letter 84 (get_or gs 0 [])) (eqb (length fs) 3) (clear (number_faults 2 uus fs)) (is_admitted d ts (term_of (map worth fs))) e (three_fields fs)
    where
      by : (a b c x e : Bool) {r : Bool} → (b ≡ true → (c && x) ≡ r) → good_when ((a && (b && (c && e))) && x) (map worth (drop 1 gs)) ≡ good_when (a && (b && (r && e))) (map worth (drop 1 gs))
      by false b c x e h = refl
      by true false c x e h = refl
      by true true c x e h = let zs = map worth (drop 1 gs) in ap (λ r. good_when r zs) (last_two c e x) ∙ ap (λ r. good_when (r && e) zs) (h refl)

pub same_term : SameTerm
unfolding term_numbers
same_term d ts l = term_was_good d ts (fields l.bytes) l.ended ∙ sym (line_told 84 3 (between d ts (number_fields l)) l (worths l))

-- ---- a text, line by line
record Same (t : TenText) (u : Text) : Type 0 where
  same : t ≡ text_as_ten u

line_same : (n : ℕ) {t : TenNumbers} (m : Numbers) {f : List ℤ → TenText} {g : List ℤ → Text} → t ≡ line_as_ten m → ((zs : List ℤ) → Same (f zs) (g zs)) → Same (ten_with_line n t f) (with_line n m g)
line_same n (faulty e) {f} h k = record { same = ap (λ t. ten_with_line n t f) h }
line_same n (good zs) {f} h k = record { same = ap (λ t. ten_with_line n t f) h ∙ (k zs).same }

-- a term that was not admitted made its line bad
admitted_later : (n d : ℕ) (ts : List Term) (t : TenNumbers) (f : List ℤ → TenText) → ten_with_line n t (λ zs. cond (is_admitted d ts (term_of zs)) (f zs) (ten_bad_line n)) ≡ ten_with_line n (when_admitted d ts t) f
admitted_later n d ts ten_bad f = refl
admitted_later n d ts (ten_good zs) f = by (is_admitted d ts (term_of zs))
  where
    by : (b : Bool) → cond b (f zs) (ten_bad_line n) ≡ ten_with_line n (cond b (ten_good zs) ten_bad) f
    by true = refl
    by false = refl

then_same : (n letter : ℕ) (ns : List Bool) (ls : List Line) {f : List ℤ → List Line → TenText} {g : List ℤ → List Line → Text}
    → ((zs : List ℤ) (ls : List Line) → Same (f zs ls) (g zs ls)) → Same (ten_line_then n letter ns ls f) (line_then n letter ns ls g)
then_same n letter ns [] k = record { same = refl }
then_same n letter ns (l ∷ ls) k = line_same n (line_numbers letter ns l) (same_line letter ns l) (λ zs. k zs ls)

terms_same : (ls : List Line) (n : ℕ) (w : Said) → Same (ten_terms_from n w ls) (terms_from n w ls)
unfolding terms_from ten_terms_from
terms_same [] n w = record { same = refl }
terms_same (l ∷ ls) n w =
    record {
      same = admitted_later n w.d w.terms (ten_term_numbers l) (λ zs. ten_terms_from (n + 1) (with_terms w (term_of zs ∷ w.terms)) ls)
          ∙ (line_same n (term_numbers w.d w.terms l) (same_term w.d w.terms l) (λ zs. terms_same ls (n + 1) (with_terms w (term_of zs ∷ w.terms)))).same;
    }

four_same : (ls : List Line) → Same (ten_text_of ls) (text_of ls)
unfolding text_of ten_text_of
four_same ls = then_same 1 68 _ ls (λ d ls. then_same 2 66 _ ls (λ b ls. then_same 3 75 _ ls (λ k ls. then_same 4 77 _ ls (λ m ls. terms_same ls 5 _))))

pub same_text : SameText
same_text ls = (four_same ls).same

-- ---- what reading comes to: a fault's number is 14 at least, and no row's is
short_text : (text : List ℕ) (w : Said) → ltb 8_192 (length text) ≡ false → text_of (lines text) ≡ well_formed w → outcome text ≡ unless (refusal (to_read w)) (λ n. refused n 0 0) (accepted w)
unfolding outcome
short_text text w h e = rw (h, e)

below_14 : (text : List ℕ) (n : ℕ) → outcome text ≡ refused n 0 0 → leb 14 n ≡ false
below_14 text n e = by (leb 14 n) refl
  where
    by : (b : Bool) → leb 14 n ≡ b → b ≡ false
    by false h = refl
    by true h = let c = (read_never text n 0 0 e).counted (leb-true 14 n h) in absurd (omega arith)

pub same_outcome : SameOutcome
unfolding outcome ten_outcome
same_outcome text = rw (same_text (lines text)) (by (ltb 8_192 (length text)) (text_of (lines text)) refl refl)
  where
    by : (long : Bool) (t : Text) → ltb 8_192 (length text) ≡ long → text_of (lines text) ≡ t
        → cond long (ten_refused 11 0) (ten_outcome_of (text_as_ten t)) ≡ as_ten (cond long (refused 11 0 0) (outcome_of t))
    by true t h e = refl
    by false (bad_line n f) h e = ap (λ t. ten_refused (cond t 10 f.number) n) (sym (le-leb 14 f.number (fault_numbered (fault_placed (lines text) n f e)).0))
    by false (well_formed w) h e = judged (refusal (to_read w)) (λ n k. below_14 text n (short_text text w h e ∙ k))
      where
        judged : (m : ℕ) → ((n : ℕ) → unless m (λ n. refused n 0 0) (accepted w) ≡ refused n 0 0 → leb 14 n ≡ false)
            → unless m (λ n. ten_refused n 0) (ten_accepted w) ≡ as_ten (unless m (λ n. refused n 0 0) (accepted w))
        judged zero k = refl
        judged (suc m) k = rw (k (suc m) refl)

-- ---- `read`: the sheet of a text that was accepted, and the refusal of one that was not
sheet_by : (o : Outcome) (w : Said) → ten_accepted w ≡ as_ten o → o ≡ accepted w
sheet_by (refused n line field) w e = let z : ◌≡◌ {A = ℕ} 0 1 = cc in absurd (omega arith)
sheet_by (accepted v) w e = let z : v ≡ w = cc in ap accepted z

pub sheet_same : SheetSame
unfolding reading
sheet_same text r w h e = h.0 ∙ ap reading_of (sheet_by (outcome text) w (sym e ∙ same_outcome text))

pub accepted_before : AcceptedBefore
unfolding reading stated
accepted_before text r h z = by (outcome text) refl (sym (ap (λ r. r.refusal) h.1) ∙ z)
  where
    by : (o : Outcome) → outcome text ≡ o → (stated_of o).refusal ≡ 0 → (w : Said) × (ten_outcome text ≡ ten_accepted w) × (r ≡ reading_of (accepted w))
    by (refused n line field) e z = absurd ((read_never text n line field e).not_0 z)
    by (accepted w) e z = (w, same_outcome text ∙ ap as_ten e, h.0 ∙ ap reading_of e)

refused_by : (text : List ℕ) (o : Outcome) (n line : ℕ) → outcome text ≡ o → ten_refused n line ≡ as_ten o → RefusedSame n line (stated_of o)
refused_by text (accepted v) n line h e = let z : ◌≡◌ {A = ℕ} 0 1 = cc in absurd (omega arith)
refused_by text (refused m at field) n line h e = by (leb 14 m) refl (let z : n ≡ cond (leb 14 m) 10 m = cc in z) (let z : at ≡ line = cc in z)
  where
    by : (b : Bool) → leb 14 m ≡ b → n ≡ cond b 10 m → at ≡ line → RefusedSame n line (stated_of (refused m at field))
    by true k z l = record { same_line = l; same_number = λ o. absurd (o z); split = λ o. (leb-true 14 m k, (read_never text m at field h).at_most) }
    by false k z l = record { same_line = l; same_number = λ o. sym z; split = λ o. absurd ((read_never text m at field h).not_between (omega arith) (omega arith)) }

pub refusal_same : RefusalSame
unfolding stated
refusal_same text r n line h e = rw h.1 (refused_by text (outcome text) n line refl (sym e ∙ same_outcome text))
