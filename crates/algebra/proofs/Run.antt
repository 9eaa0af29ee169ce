-- Runs and ranges of whole numbers, and sums over them: one step of a loop, terms that are zero, and parts.
use mathlib.Core.Path.{◌≡◌, refl, sym, ◌∙◌, ap}
use mathlib.Core.Logic.{inl, inr}
use mathlib.Core.List.Memᴰ
use mathlib.Core.List.{[], ◌∷◌, ◌++◌, map, Memᴰ}
use Prim.Native.Nat.{ℕ, zero, suc, ◌+◌, ◌-◌, ◌≤◌, ◌<◌}
use native.Mathlib.Nat as Nat
use native.Mathlib.Decide.{dec_le}
use native.Mathlib.Omega.{arith}
use lib.IntN.{ℤ, pos, ◌+ℤ◌, nat_abs, +ℤ_idl, +ℤ_idr}
use lib.ListN.{length, get_or}
use Rattle.algebra.specs.Sum.{sum, sumℕ, run, span, ◌⋯◌}
use Rattle.algebra.proofs.Sum.{sum_cong, sum_zero, sum_map, sum-++, pos_sumℕ, sumℕ_part}

-- ---- which numbers they hold
run_member : (a n : ℕ) {i : ℕ} → Memᴰ i (run a n) → (a ≤ i) × (i < a + n)
unfolding run
run_member a zero m = absurd (Memᴰ.not-nil m)
run_member a (suc n) m = elim (Memᴰ.cases_cons m) [
  | inl e ↦ omega arith
  | inr r ↦ let h = run_member (suc a) n r in omega arith
]

member_run : (a n i : ℕ) → a ≤ i → i < a + n → Memᴰ i (run a n)
unfolding run
member_run a zero i h k = absurd (omega arith)
member_run a (suc n) i h k = elim (dec_le i a) [
  | yes l ↦ let e : i ≡ a = omega arith in Memᴰ.head e
  | no l ↦ Memᴰ.tail (member_run (suc a) n i (omega arith) (omega arith))
]

pub span_member : (a n : ℕ) {i : ℕ} → Memᴰ i (span a n) → (a ≤ i) × (i < n)
unfolding span
span_member a n m = let h = run_member a _ m in omega arith

pub member_span : (a n i : ℕ) → a ≤ i → i < n → Memᴰ i (span a n)
unfolding span
member_span a n i h k = member_run a _ i h (omega arith)

pub ⋯_member : (a b : ℕ) {i : ℕ} → Memᴰ i (a ⋯ b) → (a ≤ i) × (i ≤ b)
unfolding ◌⋯◌
⋯_member a b m = let h = span_member a _ m in omega arith

pub member_⋯ : (a b i : ℕ) → a ≤ i → i ≤ b → Memᴰ i (a ⋯ b)
unfolding ◌⋯◌
member_⋯ a b i h k = member_span a _ i h (omega arith)

-- ---- how many
pub length_run : (a n : ℕ) → length (run a n) ≡ n
unfolding run
length_run a zero = refl
length_run a (suc n) = ap suc (length_run (suc a) n)

pub length_span : (n : ℕ) → length (span 0 n) ≡ n
unfolding span
length_span n = length_run 0 (n - 0) ∙ Nat.sub-zero n

-- ---- and which stands at i
run_at : (a n i : ℕ) → i < n → get_or (run a n) i 0 ≡ a + i
unfolding run
run_at a zero i h = absurd (omega arith)
run_at a (suc n) zero h = sym (Nat.add-zero a)
run_at a (suc n) (suc i) h = run_at (suc a) n i (omega arith) ∙ (let e : suc a + i ≡ a + suc i = omega arith in e)

pub span_at : (n i : ℕ) → i < n → get_or (span 0 n) i 0 ≡ i
unfolding span
span_at n i h = run_at 0 _ i (omega arith) ∙ Nat.zero-add i

-- ---- their parts
run-++ : (a m n : ℕ) → run a (m + n) ≡ run a m ++ run (a + m) n
unfolding run
run-++ a zero n = rw (Nat.zero-add, Nat.add-zero)
run-++ a (suc m) n = rw (Nat.suc-add, run-++ (suc a) m n, Nat.suc-add, Nat.add-suc)

pub span-++ : (a m n : ℕ) → a ≤ m → m ≤ n → span a n ≡ span a m ++ span m n
unfolding span
span-++ a m n h k =
    let e : n - a ≡ (m - a) + (n - m) = omega arith in let f : a + (m - a) ≡ m = omega arith in
    ap (run a) e ∙ run-++ a (m - a) (n - m) ∙ ap (λ x. run a (m - a) ++ run x (n - m)) f

pub span_none : (a n : ℕ) → n ≤ a → span a n ≡ []
unfolding span run
span_none a n h = let z : n - a ≡ 0 = omega arith in rw z

pub span_one : (n : ℕ) → span n (n + 1) ≡ n ∷ []
unfolding span run
span_one n = let z : (n + 1) - n ≡ 1 = omega arith in rw z

pub span_next : (a n : ℕ) → a ≤ n → span a (n + 1) ≡ span a n ++ (n ∷ [])
span_next a n h = span-++ a n (n + 1) h (omega arith) ∙ ap (λ l. span a n ++ l) (span_one n)

pub span_first : (a n : ℕ) → a < n → span a n ≡ a ∷ span (suc a) n
unfolding span run
span_first a n h = ap (run a) (let e : n - a ≡ suc (n - suc a) = omega arith in e)

pub ⋯-run : (b : ℕ) → 0 ⋯ b ≡ run 0 (suc b)
unfolding ◌⋯◌ span
⋯-run b = rw Nat.sub-zero

-- ---- sums over them: nothing at first, and one term more at each step
pub sum_span_none : (a n : ℕ) (f : ℕ → ℤ) → n ≤ a → sum (span a n) f ≡ pos 0
unfolding sum
sum_span_none a n f h = ap (λ l. sum l f) (span_none a n h)

pub sum_span_next : (a n : ℕ) (f : ℕ → ℤ) → a ≤ n → sum (span a (n + 1)) f ≡ sum (span a n) f +ℤ f n
unfolding sum
sum_span_next a n f h = ap (λ l. sum l f) (span_next a n h) ∙ sum-++ (span a n) (n ∷ []) f ∙ ap (λ x. sum (span a n) f +ℤ x) (+ℤ_idr (f n))

pub sumℕ_span_none : (a n : ℕ) (g : ℕ → ℕ) → n ≤ a → sumℕ (span a n) g ≡ 0
sumℕ_span_none a n g h = ap nat_abs (pos_sumℕ (span a n) g ∙ sum_span_none a n (λ i. pos (g i)) h)

pub sumℕ_span_next : (a n : ℕ) (g : ℕ → ℕ) → a ≤ n → sumℕ (span a (n + 1)) g ≡ sumℕ (span a n) g + g n
sumℕ_span_next a n g h = ap nat_abs (pos_sumℕ (span a (n + 1)) g ∙ sum_span_next a n (λ i. pos (g i)) h ∙ ap (λ x. x +ℤ pos (g n)) (sym (pos_sumℕ (span a n) g)))

-- the first term apart
pub sum_span_first : (a n : ℕ) (f : ℕ → ℤ) → a < n → sum (span a n) f ≡ f a +ℤ sum (span (suc a) n) f
unfolding sum
sum_span_first a n f h = ap (λ l. sum l f) (span_first a n h)

pub sumℕ_span_first : (a n : ℕ) (g : ℕ → ℕ) → a < n → sumℕ (span a n) g ≡ g a + sumℕ (span (suc a) n) g
unfolding sumℕ
sumℕ_span_first a n g h = ap (λ l. sumℕ l g) (span_first a n h)

run_map : (a n : ℕ) → run (suc a) n ≡ map suc (run a n)
unfolding run
run_map a zero = refl
run_map a (suc n) = ap (λ l. suc a ∷ l) (run_map (suc a) n)

pub sum_run_shift : (n : ℕ) (f : ℕ → ℤ) → sum (run 0 (suc n)) f ≡ f 0 +ℤ sum (run 0 n) (λ i. f (suc i))
unfolding sum run
sum_run_shift n f = ap (λ x. f 0 +ℤ x) (ap (λ l. sum l f) (run_map 0 n) ∙ sum_map suc (run 0 n) f)

-- ---- terms that are zero may be left out
pub sum_span_zero : (a n : ℕ) (f : ℕ → ℤ) → ((i : ℕ) → a ≤ i → i < n → f i ≡ pos 0) → sum (span a n) f ≡ pos 0
sum_span_zero a n f h = sum_cong (span a n) (λ i m. let (l, k) = span_member a n m in h i l k) ∙ sum_zero (span a n)

pub sum_⋯_from : (a b : ℕ) (f : ℕ → ℤ) → ((i : ℕ) → i < a → f i ≡ pos 0) → sum (0 ⋯ b) f ≡ sum (a ⋯ b) f
unfolding ◌⋯◌
sum_⋯_from a b f h = elim (dec_le a (suc b)) [
  | yes l ↦ rw (span-++ 0 a (suc b) (omega arith) l, sum-++, sum_span_zero 0 a f (λ i l k. h i k)) (+ℤ_idl (sum (span a (suc b)) f))
  | no l ↦ sum_span_zero 0 (suc b) f (λ i p k. h i (omega arith)) ∙ sym (sum_span_none a (suc b) f (omega arith))
]

pub sum_⋯_upto : (b c : ℕ) (f : ℕ → ℤ) → b ≤ c → ((i : ℕ) → b < i → i ≤ c → f i ≡ pos 0) → sum (0 ⋯ b) f ≡ sum (0 ⋯ c) f
unfolding ◌⋯◌
sum_⋯_upto b c f h z = sym (ap (λ l. sum l f) (span-++ 0 (suc b) (suc c) (omega arith) (omega arith)) ∙ sum-++ (span 0 (suc b)) (span (suc b) (suc c)) f
    ∙ ap (λ x. sum (span 0 (suc b)) f +ℤ x) (sum_span_zero (suc b) (suc c) f (λ i l k. z i l (omega arith))) ∙ +ℤ_idr (sum (span 0 (suc b)) f))

-- ---- a part of a range has a part of the sum
pub sumℕ_span_part : (a n : ℕ) {m : ℕ} (g : ℕ → ℕ) → n ≤ m → sumℕ (span a n) g ≤ sumℕ (span 0 m) g
sumℕ_span_part a n {m} g h = elim (dec_le a n) [
  | yes l ↦ rw (span-++ 0 a m (omega arith) (omega arith), span-++ a n m l h) (sumℕ_part (span 0 a) (span a n) (span n m) g)
  | no l ↦ rw (sumℕ_span_none a n g (omega arith)) (omega arith)
]
