-- What a Boolean test decides.
use mathlib.Core.Path.{◌≡◌, refl, sym}
use mathlib.Core.Bool.{Bool, true, false, not, ◌&&◌, cond, false≢true}
use Prim.Native.Nat.{ℕ, ◌+◌, ◌≤◌}
use native.Mathlib.Nat as Nat
use native.Mathlib.Omega.{arith}
use lib.Dec.{T}

-- a property of `cond c x y`, by the two outcomes of the test c
pub choice {ℓ} : {X : Type ℓ} (P : X → Type 0) (c : Bool) (x y : X) → (T c → P x) → (T (not c) → P y) → P (cond c x y)
choice P true x y f g = f tt
choice P false x y f g = g tt

-- a function of `cond c x y`
pub cond_ap : {X Y : Type 0} (f : X → Y) (c : Bool) (x y : X) → f (cond c x y) ≡ cond c (f x) (f y)
cond_ap f true x y = refl
cond_ap f false x y = refl

-- what is taken where the test holds may be rewritten where it holds
pub cond_when : {X : Type 0} (c : Bool) {x y : X} (z : X) → (c ≡ true → x ≡ y) → cond c x z ≡ cond c y z
cond_when true z h = h refl
cond_when false z h = refl

-- what is not the second was taken by the test
pub cond_first : {X : Type 0} (c : Bool) {x y z : X} → cond c x y ≡ z → (y ≡ z → ⊥) → (c ≡ true) × (x ≡ z)
cond_first true e n = (refl, e)
cond_first false e n = absurd (n e)

-- a choice by two tests
pub cond_both : {X : Type 0} (a b : Bool) (x y : X) → cond a (cond b x y) y ≡ cond (a && b) x y
cond_both true b x y = refl
cond_both false b x y = refl

-- two tests are the same where each follows from the other
pub same_test : (a b : Bool) → (a ≡ true → b ≡ true) → (b ≡ true → a ≡ true) → a ≡ b
same_test true b f g = sym (f refl)
same_test false true f g = g refl
same_test false false f g = refl

-- ---- both parts of a conjunction
pub and_left : (a b : Bool) → (a && b) ≡ true → a ≡ true
and_left true b e = refl
and_left false b e = e

pub and_right : (a b : Bool) → (a && b) ≡ true → b ≡ true
and_right true b e = e
and_right false b e = absurd (false≢true e)

pub and_both : (a b : Bool) → a ≡ true → b ≡ true → (a && b) ≡ true
and_both true b e f = f
and_both false b e f = absurd (false≢true e)

-- the same for tests as types
pub and_l : (x y : Bool) → T (x && y) → T x
and_l true y t = tt
and_l false y t = t

pub and_r : (x y : Bool) → T (x && y) → T y
and_r true y t = t
and_r false y t = absurd t

-- ---- a number up to 8 that is none of those before it
past : (n d : ℕ) → n ≤ d → (d ≡ n → ⊥) → n + 1 ≤ d
past n d h m = omega arith

pub eight_left : (d : ℕ) → d ≤ 8 → (d ≡ 0 → ⊥) → (d ≡ 1 → ⊥) → (d ≡ 2 → ⊥) → (d ≡ 3 → ⊥) → (d ≡ 4 → ⊥) → (d ≡ 5 → ⊥) → (d ≡ 6 → ⊥) → (d ≡ 7 → ⊥) → d ≡ 8
eight_left d h n₀ n₁ n₂ n₃ n₄ n₅ n₆ n₇ =
    let four = past 3 d (past 2 d (past 1 d (past 0 d (omega arith) n₀) n₁) n₂) n₃ in let l = past 7 d (past 6 d (past 5 d (past 4 d four n₄) n₅) n₆) n₇ in
    Nat.le_antisymm h l
