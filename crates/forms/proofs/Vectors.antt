-- Exponent vectors: which they are, sums over them, and the vectors a below e.
use mathlib.Core.Path.{◌≡◌, refl, ◌∙◌, ap, ap₂}
use mathlib.Core.Logic.{◌⊎◌, inl, inr}
use mathlib.Core.List.Memᴰ
use mathlib.Core.List.{List, [], ◌∷◌, map, flat_map, Memᴰ}
use Prim.Native.Nat.{ℕ, zero, suc, ◌+◌, ◌-◌, ◌^◌, ◌%◌, ◌≤◌}
use native.Mathlib.Nat as Nat
use native.Mathlib.Decide.{dec_lt}
use native.Mathlib.Omega.{arith}
use lib.Dec.{T, eqb, eqb→eq}
use lib.IntN.{ℤ, +ℤ_idr}
use lib.ListN.{length, replicate}
use lib.Pow.{pow-add, pow_pos}
use Rattle.algebra.specs.Sum.{sum, ◌⋯◌}
use Rattle.algebra.specs.Binomial.{choose}
use Rattle.algebra.proofs.Choice.{and_l, and_r}
use Rattle.algebra.proofs.Sum.{sum_map, sum_flat_map, sum_cong}
use Rattle.algebra.proofs.Run.{⋯_member, member_⋯}
use Rattle.algebra.proofs.Binomial.{choose_over, choose_≤_pow}
use Rattle.forms.specs.Vectors.{total, vectors, chooses, ◌∸◌, all_even}

-- ---- sums over the vectors: one variable more is one sum more
pub sum_vectors_zero : (d : ℕ) (f : List ℕ → ℤ) → sum (vectors 0 d) f ≡ f []
unfolding sum vectors
sum_vectors_zero d f = +ℤ_idr (f [])

pub sum_vectors_suc : (n d : ℕ) (f : List ℕ → ℤ) → sum (vectors (suc n) d) f ≡ sum (0 ⋯ d) (λ i. sum (vectors n (d - i)) (λ e. f (i ∷ e)))
unfolding vectors
sum_vectors_suc n d f = sum_flat_map (λ i. map (λ e. i ∷ e) (vectors n (d - i))) (0 ⋯ d) f ∙ sum_cong (0 ⋯ d) (λ i m. sum_map (λ e. i ∷ e) (vectors n (d - i)) f)

-- ---- which they are: the vectors of n exponents with |e| ≤ d, all of them
module _ {A B : Type 0} (f : A → List B) where
  flat_map_member : (xs : List A) {b : B} → Memᴰ b (flat_map f xs) → (a : A) × Memᴰ a xs × Memᴰ b (f a)
  unfolding flat_map
  flat_map_member [] m = absurd (Memᴰ.not-nil m)
  flat_map_member (x ∷ xs) m = elim (Memᴰ.append_cases (f x) m) [
    | inl k ↦ (x, Memᴰ.head refl, k)
    | inr r ↦ let (a, i, k) = flat_map_member xs r in (a, Memᴰ.tail i, k)
  ]

  member_flat_map : {a : A} {xs : List A} {b : B} → Memᴰ a xs → Memᴰ b (f a) → Memᴰ b (flat_map f xs)
  unfolding flat_map
  member_flat_map (Memᴰ.head {xs = xs} e) k = Memᴰ.append_left (flat_map f xs) (rw e at k)
  member_flat_map (Memᴰ.tail {x = x} m) k = Memᴰ.append_right (f x) (member_flat_map m k)

pub vectors_fit : (n d : ℕ) {e : List ℕ} → Memᴰ e (vectors n d) → (length e ≡ n) × (total e ≤ d)
unfolding vectors total
vectors_fit zero d m = rw (Memᴰ.eq_of_singleton m) (omega arith)
vectors_fit (suc n) d m =
    let (i, j, k) = flat_map_member (λ i. map (λ e. i ∷ e) (vectors n (d - i))) (0 ⋯ d) m in
    let (e, l, p) = Memᴰ.of_map (λ e. i ∷ e) (vectors n (d - i)) k in
    let (q, r) = vectors_fit n (d - i) l in let s = ⋯_member 0 d j in
    rw (← p) (ap suc q, omega arith)

pub fit_vectors : (n d : ℕ) (e : List ℕ) → (length e ≡ n) × (total e ≤ d) → Memᴰ e (vectors n d)
unfolding vectors total
fit_vectors zero d [] h = Memᴰ.head refl
fit_vectors zero d (i ∷ e) h = absurd (omega arith)
fit_vectors (suc n) d [] h = absurd (omega arith)
fit_vectors (suc n) d (i ∷ e) h =
    member_flat_map (λ i. map (λ e. i ∷ e) (vectors n (d - i))) (member_⋯ 0 d i (omega arith) (omega arith)) (Memᴰ.map (λ e. i ∷ e) (fit_vectors n (d - i) e (omega arith)))

-- the only vector with |a| = 0
pub zeros : (n : ℕ) (a : List ℕ) → length a ≡ n → total a ≡ 0 → a ≡ replicate n 0
unfolding total
zeros zero [] l t = refl
zeros zero (i ∷ a) l t = absurd (omega arith)
zeros (suc n) [] l t = absurd (omega arith)
zeros (suc n) (i ∷ a) l t = ap₂ ◌∷◌ (omega arith) (zeros n a (omega arith) (omega arith))

-- ---- C(e,a) and e - a
-- C(e,a) is zero, or a is at most e at each variable
pub chooses_or_∸ : (e a : List ℕ) → length e ≡ length a → (chooses e a ≡ 0) ⊎ (total (e ∸ a) + total a ≡ total e)
unfolding chooses ◌∸◌ total
chooses_or_∸ [] [] h = inr refl
chooses_or_∸ [] (k ∷ a) h = inl (omega arith)
chooses_or_∸ (i ∷ e) [] h = inl (omega arith)
chooses_or_∸ (i ∷ e) (k ∷ a) h = elim (dec_lt i k) [
  | yes l ↦ inl (rw (choose_over i k l) (Nat.zero-mul (chooses e a)))
  | no l ↦ elim (chooses_or_∸ e a (omega arith)) [
    | inl z ↦ inl (rw z (Nat.mul-zero (choose i k)))
    | inr s ↦ inr (omega arith)
  ]
]

pub chooses_≤_pow : (e a : List ℕ) → chooses e a ≤ 2 ^ total e
unfolding chooses total
chooses_≤_pow [] a = Nat.le_refl 1
chooses_≤_pow (i ∷ e) [] = pow_pos (i + total e)
chooses_≤_pow (i ∷ e) (k ∷ a) = rw pow-add (Nat.mul-le-mul (choose_≤_pow i k) (chooses_≤_pow e a))

pub length-∸ : (e a : List ℕ) → length (e ∸ a) ≡ length e
unfolding ◌∸◌
length-∸ [] a = refl
length-∸ (i ∷ e) [] = refl
length-∸ (i ∷ e) (k ∷ a) = ap suc (length-∸ e a)

-- ---- even vectors
pub even_first : (i : ℕ) (a : List ℕ) → T (all_even (i ∷ a)) → i % 2 ≡ 0
unfolding all_even
even_first i a t = eqb→eq (i % 2) 0 (and_l (eqb (i % 2) 0) (all_even a) t)

pub even_rest : (i : ℕ) (a : List ℕ) → T (all_even (i ∷ a)) → T (all_even a)
unfolding all_even
even_rest i a t = and_r (eqb (i % 2) 0) (all_even a) t

pub even_total : (a : List ℕ) → T (all_even a) → total a % 2 ≡ 0
unfolding total
even_total [] t = refl
even_total (i ∷ a) t = let p = even_first i a t in let q = even_total a (even_rest i a t) in omega arith
