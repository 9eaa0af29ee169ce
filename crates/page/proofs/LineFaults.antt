-- What the request says of a line's fault holds, by one argument for each of the first four lines and for a term's line.
use mathlib.Core.Path.{◌≡◌, refl, sym, ◌∙◌, ap, subst}
use mathlib.Core.Bool.{Bool, true, false, not, ◌&&◌, cond, false≢true}
use mathlib.Core.List.{List, [], ◌∷◌, ◌++◌}
use Prim.Native.Nat.{ℕ, zero, suc, ◌+◌, ◌-◌, ◌≤◌, ◌<◌}
use native.Mathlib.Nat as Nat
use native.Mathlib.Decide.{dec_lt}
use native.Mathlib.Omega.{arith}
use borrow.Author.Tests.{leb-true, le-leb, eqb-true, eqb-false, eq-eqb, ne_eqb, not-true, not-false}
use lib.Dec.{leb, eqb}
use lib.IntN.{ℤ}
use lib.ListN.{length, drop, drop_of_length-le}
use lib.Seq.{drop-cons}
use Rattle.algebra.proofs.Choice.{and_left, and_right, and_both}
use Rattle.page.specs.SheetLine.{Line, is_written, is_within, worth, unsigned, signed, letter_field, number_fields, is_letter, reads_well, Trial, ◌at_field◌when◌, field_faults, number_faults, line_faults, fault, Numbers, faulty, good, first_fault, worths, line_numbers}
use Rattle.page.specs.SheetText.{Term, term_of, is_named, is_beyond, term_faults, term_numbers}
use Rattle.page.specs.FaultFacts.{field_of, sign_of, RightBefore, TermFine, Means, wrong_letter, wrong_count, badly_written, out_of_range, beyond_degree, given_twice, unended, faultless, LineMeans, LineMeant, TermMeans, TermMeant}

-- what holds whichever way a test goes
by_test : {X : Type 0} (P : X → Type 0) (b : Bool) {x y : X} → (b ≡ true → P x) → (b ≡ false → P y) → P (cond b x y)
by_test P true f g = f refl
by_test P false f g = g refl

-- a test that counts where another one holds
both_false : (a b : Bool) → (a ≡ true → b ≡ false) → (a && b) ≡ false
both_false true b f = f refl
both_false false b f = refl

second_false : (a b : Bool) → a ≡ true → (a && b) ≡ false → b ≡ false
second_false a b h e = rw h at e

-- ---- a line, and how its term would be judged
module _ (letter : ℕ) (ns : List Bool) (e : ℕ) (beyond twice : Bool) (l : Line) where
  abbrev Right : ℕ → Type 0
  Right n = RightBefore letter ns l n

  abbrev Fine : ℕ → Type 0
  Fine n = TermFine letter ns e beyond twice l n

  abbrev Meaning : Numbers → Type 0
  Meaning r = Means letter ns e beyond twice l r

  abbrev comes_to : List Trial → Numbers
  comes_to ts = first_fault ts (worths l)

  -- the term faults, tried before the n-th number and every one after it, once e numbers read well
  abbrev judged : ℕ → List Trial → List Trial
  judged n ts = (18 at_field 2 when leb e n && beyond) ∷ (19 at_field 2 when leb e n && twice) ∷ ts

  abbrev at_end : List Trial
  at_end = (20 at_field 0 when not l.ended) ∷ []

  -- the faults of the k numbers from the n-th on, and of the line's end
  abbrev left : ℕ → ℕ → List Trial
  left zero n = at_end
  left (suc k) n = field_faults (n + 2) (sign_of ns n) (field_of l n) ++ judged (suc n) (left k (suc n))

  -- all that is tried of the line
  abbrev all_faults : List Trial
  all_faults = (14 at_field 1 when not (is_letter letter (letter_field l))) ∷ (15 at_field 0 when not (eqb (length (number_fields l)) (length ns))) ∷ judged 0 (left (length ns) 0)

  -- ---- what is right before a number is so before an earlier one
  right_before : (m n : ℕ) → m ≤ n → Right n → Right m
  right_before m n h r = record { letter_right = r.letter_right; count_right = r.count_right; each_read = λ i j. r.each_read i (omega arith) }

  fine_before : (m n : ℕ) → m ≤ n → Fine n → Fine m
  fine_before m n h t = record { within_degree = λ i. t.within_degree (omega arith); new = λ i. t.new (omega arith) }

  -- and with the n-th number, before the next one
  right_next : (n : ℕ) → Right n → reads_well (sign_of ns n) (field_of l n) ≡ true → Right (suc n)
  right_next n r h = record { letter_right = r.letter_right; count_right = r.count_right; each_read = each }
    where
      each : (m : ℕ) → m < suc n → reads_well (sign_of ns m) (field_of l m) ≡ true
      each m i = elim (dec_lt m n) [
        | yes j ↦ r.each_read m j
        | no j ↦ let q : n ≡ m = omega arith in subst (λ m. reads_well (sign_of ns m) (field_of l m) ≡ true) q h
      ]

  -- ---- what the line comes to means just that
  module _ (beyond-short : beyond ≡ true → e < length ns) (twice-short : twice ≡ true → e < length ns) where
    means_judged : (n : ℕ) (ts : List Trial) → Right n → (Fine n → Meaning (comes_to ts)) → Meaning (comes_to (judged n ts))
    means_judged n ts r f =
        by_test Meaning (leb e n && beyond)
        (λ b. let i = leb-true e n (and_left (leb e n) beyond b) in let y = and_right (leb e n) beyond b in beyond_degree (beyond-short y) (right_before e n i r) y)
        (λ b. by_test Meaning (leb e n && twice)
        (λ t. let i = and_left (leb e n) twice t in let y = and_right (leb e n) twice t in
        given_twice (twice-short y) (right_before e n (leb-true e n i) r) (second_false (leb e n) beyond i b) y)
        (λ t. f (record { within_degree = λ i. second_false (leb e n) beyond (le-leb e n i) b; new = λ i. second_false (leb e n) twice (le-leb e n i) t })))

    means_left : (k n : ℕ) → n + k ≡ length ns → Right n → Fine n → Meaning (comes_to (left k n))
    means_left zero n h r t =
        let q : n ≡ length ns = omega arith in let r' = subst Right q r in let t' = subst Fine q t in
        by_test Meaning (not l.ended) (λ u. unended r' t' (not-true l.ended u)) (λ u. faultless r' t' (not-false l.ended u))
    means_left (suc k) n h r t =
        let s = sign_of ns n in let f = field_of l n in
        by_test Meaning (not (is_written f))
        (λ w. badly_written n (omega arith) r t (not-true (is_written f) w))
        (λ w. by_test Meaning (not (is_within s (worth f)))
        (λ i. out_of_range n (omega arith) r t (not-false (is_written f) w) (not-true (is_within s (worth f)) i))
        (λ i. let r' = right_next n r (and_both (is_written f) (is_within s (worth f)) (not-false (is_written f) w) (not-false (is_within s (worth f)) i)) in
        means_judged (suc n) (left k (suc n)) r' (λ t. means_left k (suc n) (omega arith) r' t)))

    means_all : Meaning (comes_to all_faults)
    means_all =
        let a = is_letter letter (letter_field l) in let b = eqb (length (number_fields l)) (length ns) in
        by_test Meaning (not a)
        (λ w. wrong_letter (not-true a w))
        (λ w. by_test Meaning (not b)
        (λ c. wrong_count (not-false a w) (eqb-false (length (number_fields l)) (length ns) (not-true b c)))
        (λ c. let r : Right 0 = record { letter_right = not-false a w; count_right = eqb-true (length (number_fields l)) (length ns) (not-false b c); each_read = λ m i. absurd (omega arith) } in
        means_judged 0 (left (length ns) 0) r (λ t. means_left (length ns) 0 (omega arith) r t)))

  -- ---- and nothing else means it: what does not hold is passed by
  past_judged : (n : ℕ) (ts : List Trial) → Fine n → comes_to (judged n ts) ≡ comes_to ts
  past_judged n ts t = rw (both_false (leb e n) beyond (λ i. t.within_degree (leb-true e n i)), both_false (leb e n) twice (λ i. t.new (leb-true e n i)))

  past_number : (k n : ℕ) → reads_well (sign_of ns n) (field_of l n) ≡ true → comes_to (left (suc k) n) ≡ comes_to (judged (suc n) (left k (suc n)))
  past_number k n h =
      let s = sign_of ns n in let f = field_of l n in
      rw (and_left (is_written f) (is_within s (worth f)) h, and_right (is_written f) (is_within s (worth f)) h)

  -- from the first number to the n-th
  past_numbers : (n k : ℕ) → Right n → ((m : ℕ) → m < n → Fine m) → comes_to (judged 0 (left (n + k) 0)) ≡ comes_to (judged n (left k n))
  past_numbers zero k r t = rw (Nat.zero-add k)
  past_numbers (suc n) k r t =
      let q : suc n + k ≡ n + suc k = omega arith in
      ap (λ k. comes_to (judged 0 (left k 0))) q ∙ past_numbers n (suc k) (right_before n (suc n) (omega arith) r) (λ m h. t m (omega arith))
      ∙ past_judged n (left (suc k) n) (t n (omega arith)) ∙ past_number k n (r.each_read n (omega arith))

  -- and so from the letter on, where k numbers are left
  reached : (n k : ℕ) → length ns ≡ n + k → Right n → ((m : ℕ) → m < n → Fine m) → comes_to all_faults ≡ comes_to (judged n (left k n))
  reached n k h r t =
      let q : comes_to all_faults ≡ comes_to (judged 0 (left (length ns) 0)) = rw (r.letter_right, eq-eqb (length (number_fields l)) (length ns) r.count_right) in
      q ∙ ap (λ k. comes_to (judged 0 (left k 0))) h ∙ past_numbers n k r t

  -- the n-th number, or the end, where the term is fine too
  reached_fine : (n k : ℕ) → length ns ≡ n + k → Right n → Fine n → comes_to all_faults ≡ comes_to (left k n)
  reached_fine n k h r t = reached n k h r (λ m i. fine_before m n (omega arith) t) ∙ past_judged n (left k n) t

  -- where the term is judged
  reached_term : e < length ns → Right e → comes_to all_faults ≡ comes_to (judged e (left (length ns - e) e))
  reached_term h r = reached e (length ns - e) (omega arith) r (λ m i. record { within_degree = λ j. absurd (omega arith); new = λ j. absurd (omega arith) })

  meant_all : (r : Numbers) → Meaning r → r ≡ comes_to all_faults
  meant_all _ (wrong_letter a) = rw a
  meant_all _ (wrong_count a c) = rw (a, ne_eqb (length (number_fields l)) (length ns) c)
  meant_all _ (badly_written n h r t w) = sym (reached_fine n (suc (length ns - suc n)) (omega arith) r t ∙ rw w)
  meant_all _ (out_of_range n h r t w i) = sym (reached_fine n (suc (length ns - suc n)) (omega arith) r t ∙ rw (w, i))
  meant_all _ (beyond_degree h r b) = sym (reached_term h r ∙ rw (le-leb e e (omega arith), b))
  meant_all _ (given_twice h r b t) = sym (reached_term h r ∙ rw (le-leb e e (omega arith), b, t))
  meant_all _ (unended r t u) = sym (reached_fine (length ns) 0 (omega arith) r t ∙ rw u)
  meant_all _ (faultless r t u) = sym (reached_fine (length ns) 0 (omega arith) r t ∙ rw u)

  -- ---- where no term is judged, the numbers' own faults are those left
  numbers_left : ((n : ℕ) → Fine n) → length (number_fields l) ≡ length ns → (k n : ℕ) → length ns ≡ n + k
      → comes_to (number_faults (n + 2) (drop n ns) (drop n (number_fields l)) ++ at_end) ≡ comes_to (left k n)
  numbers_left t c zero n h = rw (drop_of_length-le ns {i = n} (omega arith))
  numbers_left t c (suc k) n h =
      let s = sign_of ns n in let f = field_of l n in let q : n + 2 + 1 ≡ suc n + 2 = omega arith in
      rw (drop-cons ns n unsigned (omega arith), drop-cons (number_fields l) n [] (omega arith))
      (ap (λ r. cond (not (is_written f)) (faulty (fault 16 (n + 2))) (cond (not (is_within s (worth f))) (faulty (fault 17 (n + 2))) r))
      (ap (λ m. comes_to (number_faults m (drop (suc n) ns) (drop (suc n) (number_fields l)) ++ at_end)) q ∙ numbers_left t c k (suc n) (omega arith)
      ∙ sym (past_judged (suc n) (left k (suc n)) (t (suc n)))))

  -- what is tried after the count matters where the count is right
  same_after : (ts : List Trial) → (length (number_fields l) ≡ length ns → comes_to (ts ++ at_end) ≡ comes_to (judged 0 (left (length ns) 0)))
      → comes_to (line_faults letter (length ns) ts l) ≡ comes_to all_faults
  same_after ts f = ap (λ r. cond (not (is_letter letter (letter_field l))) (faulty (fault 14 1)) r) (by (eqb (length (number_fields l)) (length ns)) (λ e. f (eqb-true _ _ e)))
    where
      by : (b : Bool) {x y : Numbers} → (b ≡ true → x ≡ y) → cond (not b) (faulty (fault 15 0)) x ≡ cond (not b) (faulty (fault 15 0)) y
      by true h = h refl
      by false h = refl

  -- so that the line has its numbers' own faults alone
  numbers_alone : ((n : ℕ) → Fine n) → comes_to (line_faults letter (length ns) (number_faults 2 ns (number_fields l)) l) ≡ comes_to all_faults
  numbers_alone t = same_after (number_faults 2 ns (number_fields l)) (λ c. numbers_left t c (length ns) 0 (omega arith) ∙ sym (past_judged 0 (left (length ns) 0) (t 0)))

-- ---- the first four lines: no term is judged
module _ (letter : ℕ) (ns : List Bool) (l : Line) where
  no_term : (e n : ℕ) → TermFine letter ns e false false l n
  no_term e n = record { within_degree = λ i. refl; new = λ i. refl }

  line_is : line_numbers letter ns l ≡ comes_to letter ns (length ns) false false l (all_faults letter ns (length ns) false false l)
  unfolding line_numbers
  line_is = numbers_alone letter ns (length ns) false false l (no_term (length ns))

pub line_means : LineMeans
line_means letter ns l = rw (line_is letter ns l) (means_all letter ns (length ns) false false l (λ h. absurd (false≢true h)) (λ h. absurd (false≢true h)))

pub line_meant : LineMeant
line_meant letter ns l r m = meant_all letter ns (length ns) false false l r m ∙ sym (line_is letter ns l)

-- ---- a term's line: where a term fault holds, both exponents read well, so that it may as well be tried after them
after_exponents : (w i v j b t : Bool) (f₁ f₂ f₃ f₄ f₅ f₆ : Numbers) (r : Bool → Bool → Numbers) → let x = (w && i) && (v && j) in
    cond (not w) f₁ (cond (not i) f₂ (cond (x && b) f₃ (cond (x && t) f₄ (cond (not v) f₅ (cond (not j) f₆ (r false false))))))
    ≡ cond (not w) f₁ (cond (not i) f₂ (cond (not v) f₅ (cond (not j) f₆ (cond b f₃ (cond t f₄ (r b t))))))
after_exponents false i v j b t f₁ f₂ f₃ f₄ f₅ f₆ r = refl
after_exponents true false v j b t f₁ f₂ f₃ f₄ f₅ f₆ r = refl
after_exponents true true false j b t f₁ f₂ f₃ f₄ f₅ f₆ r = refl
after_exponents true true true false b t f₁ f₂ f₃ f₄ f₅ f₆ r = refl
after_exponents true true true true true t f₁ f₂ f₃ f₄ f₅ f₆ r = refl
after_exponents true true true true false true f₁ f₂ f₃ f₄ f₅ f₆ r = refl
after_exponents true true true true false false f₁ f₂ f₃ f₄ f₅ f₆ r = refl

-- `T` i j coefficient: its signs, and how its term is judged
abbrev signs : List Bool
signs = unsigned ∷ unsigned ∷ signed ∷ []

module _ (d : ℕ) (ts : List Term) (l : Line) where
  abbrev too_high : Bool
  too_high = let t = term_of (worths l) in is_beyond d t.i t.j

  abbrev again : Bool
  again = let t = term_of (worths l) in is_named t.i t.j ts

  term_is : term_numbers d ts l ≡ comes_to 84 signs 2 too_high again l (all_faults 84 signs 2 too_high again l)
  unfolding term_numbers
  term_is = same_after 84 signs 2 too_high again l (field_faults 2 unsigned (field_of l 0) ++ term_faults d ts l ++ number_faults 3 (unsigned ∷ signed ∷ []) (drop 1 (number_fields l)))
      (λ c. rw (numbers_left 84 signs 3 false false l (no_term 84 signs l 3) c 2 1 (omega arith))
      (after_exponents (is_written (field_of l 0)) (is_within unsigned (worth (field_of l 0))) (is_written (field_of l 1)) (is_within unsigned (worth (field_of l 1))) too_high again _ _ _ _ _ _
      (λ b t. comes_to 84 signs 2 b t l (left 84 signs 2 b t l 1 2))))

pub term_means : TermMeans
term_means d ts l = rw (term_is d ts l) (means_all 84 signs 2 (too_high d ts l) (again d ts l) l (λ h. omega arith) (λ h. omega arith))

pub term_meant : TermMeant
term_meant d ts l r m = meant_all 84 signs 2 (too_high d ts l) (again d ts l) l r m ∙ sym (term_is d ts l)

-- ---- a line has numbers where nothing is wrong with it, and they are its own
pub good_means : {letter : ℕ} {ns : List Bool} {e : ℕ} {beyond twice : Bool} {l : Line} {zs : List ℤ} → Means letter ns e beyond twice l (good zs)
    → (zs ≡ worths l) × RightBefore letter ns l (length ns) × TermFine letter ns e beyond twice l (length ns)
good_means (faultless r t _) = (refl, r, t)
