-- What it is to be an ordered commutative ring.
use Rattle.std.specs.Prelude.{◌≡◌, ◌⊎◌}

pub record OrderedRing (A : Type 0) (zero one : A) (◌+◌ ◌*◌ : A → A → A) (neg : A → A) (◌≤◌ : A → A → Type 0) : Type 0 where
  pub +_assoc : (a b c : A) → ◌+◌ (◌+◌ a b) c ≡ ◌+◌ a (◌+◌ b c)
  pub +_comm : (a b : A) → ◌+◌ a b ≡ ◌+◌ b a
  pub +_zero : (a : A) → ◌+◌ a zero ≡ a
  pub +_neg : (a : A) → ◌+◌ a (neg a) ≡ zero
  pub *_assoc : (a b c : A) → ◌*◌ (◌*◌ a b) c ≡ ◌*◌ a (◌*◌ b c)
  pub *_comm : (a b : A) → ◌*◌ a b ≡ ◌*◌ b a
  pub *_one : (a : A) → ◌*◌ a one ≡ a
  pub *-+ : (a b c : A) → ◌*◌ a (◌+◌ b c) ≡ ◌+◌ (◌*◌ a b) (◌*◌ a c)
  pub ≤_refl : (a : A) → ◌≤◌ a a
  pub ≤_trans : {a b c : A} → ◌≤◌ a b → ◌≤◌ b c → ◌≤◌ a c
  pub ≤_antisymm : {a b : A} → ◌≤◌ a b → ◌≤◌ b a → a ≡ b
  pub ≤-total : (a b : A) → ◌≤◌ a b ⊎ ◌≤◌ b a
  pub +_mono : {a b c d : A} → ◌≤◌ a b → ◌≤◌ c d → ◌≤◌ (◌+◌ a c) (◌+◌ b d)
  pub *_nonneg : {a b : A} → ◌≤◌ zero a → ◌≤◌ zero b → ◌≤◌ zero (◌*◌ a b)
