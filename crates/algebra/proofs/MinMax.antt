-- The larger and the smaller of two integers: bounds, the least and the greatest of their kind. The largest of many natural numbers likewise, and it is one of them.
use mathlib.Core.Path.{◌≡◌, refl}
use mathlib.Core.List.{List, [], ◌∷◌, Memᴰ}
use Prim.Native.Nat.{ℕ, ◌≤◌, ◌<◌}
use native.Mathlib.Decide.{dec_le}
use native.Mathlib.Omega.{arith}
use lib.IntN.{ℤ, pos, ◌*ℤ◌, neg_ℤ, neg_ℤ-neg_ℤ}
use lib.Signed.{◌≤ℤ◌, lt_z, lt_z_yes, lt_z_no, ≤ℤ_refl}
use Rattle.algebra.specs.MinMax.{minℤ, maxℤ, largest}
use Rattle.algebra.proofs.Choice.{choice}
use Rattle.algebra.proofs.Order.{≤ℤ_of_<ℤ, ≤ℤ_antisymm, neg_ℤ_mono, nonneg, *ℤ_mono}

pub ≤ℤ-maxℤ : (a b : ℤ) → (a ≤ℤ maxℤ a b) × (b ≤ℤ maxℤ a b)
unfolding maxℤ
≤ℤ-maxℤ a b = choice (λ x. (a ≤ℤ x) × (b ≤ℤ x)) (lt_z a b) b a (λ t. (≤ℤ_of_<ℤ (lt_z_yes t), ≤ℤ_refl b)) (λ t. (≤ℤ_refl a, lt_z_no t))

pub maxℤ_least : {a b c : ℤ} → a ≤ℤ c → b ≤ℤ c → maxℤ a b ≤ℤ c
unfolding maxℤ
maxℤ_least {a} {b} {c} h k = choice (λ x. x ≤ℤ c) (lt_z a b) b a (λ t. k) (λ t. h)

pub minℤ-≤ℤ : (a b : ℤ) → (minℤ a b ≤ℤ a) × (minℤ a b ≤ℤ b)
unfolding minℤ
minℤ-≤ℤ a b = choice (λ x. (x ≤ℤ a) × (x ≤ℤ b)) (lt_z a b) a b (λ t. (≤ℤ_refl a, ≤ℤ_of_<ℤ (lt_z_yes t))) (λ t. (lt_z_no t, ≤ℤ_refl b))

pub minℤ_greatest : {a b c : ℤ} → c ≤ℤ a → c ≤ℤ b → c ≤ℤ minℤ a b
unfolding minℤ
minℤ_greatest {a} {b} {c} h k = choice (λ x. c ≤ℤ x) (lt_z a b) a b (λ t. h) (λ t. k)

pub neg_ℤ_minℤ : (a b : ℤ) → neg_ℤ (minℤ a b) ≡ maxℤ (neg_ℤ a) (neg_ℤ b)
neg_ℤ_minℤ a b = ≤ℤ_antisymm
    (rw neg_ℤ-neg_ℤ at (neg_ℤ_mono (minℤ_greatest (rw neg_ℤ-neg_ℤ at (neg_ℤ_mono (≤ℤ-maxℤ (neg_ℤ a) (neg_ℤ b)).0)) (rw neg_ℤ-neg_ℤ at (neg_ℤ_mono (≤ℤ-maxℤ (neg_ℤ a) (neg_ℤ b)).1)))))
    (maxℤ_least (neg_ℤ_mono (minℤ-≤ℤ a b).0) (neg_ℤ_mono (minℤ-≤ℤ a b).1))

pub *ℤ-minℤ : (c : ℕ) (a b : ℤ) → pos c *ℤ minℤ a b ≡ minℤ (pos c *ℤ a) (pos c *ℤ b)
unfolding minℤ
*ℤ-minℤ c a b = ≤ℤ_antisymm
    (minℤ_greatest (*ℤ_mono (nonneg c) (minℤ-≤ℤ a b).0) (*ℤ_mono (nonneg c) (minℤ-≤ℤ a b).1))
    (choice (λ x. minℤ (pos c *ℤ a) (pos c *ℤ b) ≤ℤ (pos c *ℤ x)) (lt_z a b) a b (λ t. (minℤ-≤ℤ (pos c *ℤ a) (pos c *ℤ b)).0) (λ t. (minℤ-≤ℤ (pos c *ℤ a) (pos c *ℤ b)).1))

-- ---- the largest f x over a list
module _ {ℓ} {A : Type ℓ} where
  pub largest_member : (f : A → ℕ) {x : A} {xs : List A} → Memᴰ x xs → f x ≤ largest xs f
  unfolding largest
  largest_member f (Memᴰ.head {xs = xs} e) = rw e (omega arith)
  largest_member f (Memᴰ.tail m) = let h = largest_member f m in omega arith

  pub largest_least : (xs : List A) {f : A → ℕ} {m : ℕ} → ((x : A) → Memᴰ x xs → f x ≤ m) → largest xs f ≤ m
  unfolding largest
  largest_least [] h = omega arith
  largest_least (x ∷ xs) h = let a = h x (Memᴰ.head refl) in let b = largest_least xs (λ y m. h y (Memᴰ.tail m)) in omega arith

  -- a member that has it
  pub record Largest (xs : List A) (f : A → ℕ) : Type ℓ where
    pub member : A
    pub within : Memᴰ member xs
    pub most : f member ≡ largest xs f

  pub largest_reached : (xs : List A) (f : A → ℕ) → 0 < largest xs f → Largest xs f
  unfolding largest
  largest_reached [] f h = absurd (omega arith)
  largest_reached (x ∷ xs) f h = elim (dec_le (largest xs f) (f x)) [
    | yes l ↦ record { member = x; within = Memᴰ.head refl; most = omega arith }
    | no l ↦ let r = largest_reached xs f (omega arith) in let e = r.most in record { member = r.member; within = Memᴰ.tail r.within; most = omega arith }
  ]
