-- The order of ℤ (`lib.Signed`) makes it an ordered ring.
-- a ≤ b says that b is a plus a natural number (`≤ℤ_intro`, `≤ℤ_elim`), and the laws follow from those of the sum.
-- `≤ℤ_by` turns an order in hand into another one with the same difference of its sides, an identity for `ring`: linear arithmetic on ℤ goes that way.
use mathlib.Core.Path.{◌≡◌, refl, sym, ◌∙◌, ap, ap₂, subst}
use mathlib.Core.Bool.{Bool, true, false, not, cond}
use mathlib.Core.Logic.{◌⊎◌, inl, inr, ◌↔◌}
use mathlib.Core.List.{[], ◌∷◌}
use Prim.Native.Nat.{ℕ, zero, suc, ◌+◌, ◌*◌, ◌-◌, ◌≤◌, ◌<◌}
use native.Mathlib.Nat as Nat
use native.Mathlib.Omega.{arith}
use lib.Dec.{T, ltb, leb→le, le→leb, lt→ltb, leb-zero, leb-suc-zero, leb-suc-suc}
use lib.IntN.{ℤ, pos, negsuc, ◌+ℤ◌, ◌-ℤ◌, ◌*ℤ◌, neg_ℤ, nat_abs, pow, suc_ℤ, +ℤ_one, +ℤ_assoc, +ℤ_idl, +ℤ_idr, +ℤ_invl, neg_ℤ-+ℤ, *ℤ_comm}
use lib.Signed.{◌≤ℤ◌, ◌<ℤ◌, le_z, lt_z, le_z_yes, lt_z_yes, lt_z_no, ≤ℤ_refl, <ℤ-≤ℤ_trans, <ℤ_irrefl}
use Rattle.algebra.proofs.Integer.{+ℤ_medial, +ℤ_cancel_l}
use Rattle.algebra.proofs.Power.{pow_zero, pow_suc, pow_+}
use Rattle.algebra.proofs.Ring.{ring, ◌⊕◌, ◌⊖◌, ◌⊗◌, ⊝◌, #◌, ◌≐◌}

-- ---- a ≤ b as a difference
up : (a : ℤ) (n : ℕ) → T (le_z a (a +ℤ pos n))
up (pos a) n = le→leb a (a + n) (omega arith)
up (negsuc a) n = go (ltb n (suc a))
  where
    go : (c : Bool) → T (le_z (negsuc a) (cond c (negsuc (suc a - suc n)) (pos (n - suc a))))
    go true = le→leb (suc a - suc n) a (omega arith)
    go false = tt

pub ≤ℤ_intro : {a b : ℤ} (n : ℕ) → b ≡ a +ℤ pos n → a ≤ℤ b
≤ℤ_intro {a} n e = rw e (le_z_yes (up a n))

gap : (a b : ℤ) → T (le_z a b) → (n : ℕ) × (b ≡ a +ℤ pos n)
gap (pos a) (pos b) t = let h : a ≤ b = leb→le a b t in (b - a, ap pos (omega arith))
gap (pos a) (negsuc b) t = absurd t
gap (negsuc a) (pos b) t = (suc a + b, sym (+ℤ_idl (pos b)) ∙ ap (λ x. x +ℤ pos b) (sym (+ℤ_invl (pos (suc a)))) ∙ +ℤ_assoc (negsuc a) (pos (suc a)) (pos b))
gap (negsuc a) (negsuc b) t =
    let h : b ≤ a = leb→le b a t in
    let e : suc a ≡ suc b + (a - b) = omega arith in (
      a - b,
      sym (ap (λ (n : ℕ). neg_ℤ (pos n) +ℤ pos (a - b)) e ∙ ap (λ x. x +ℤ pos (a - b)) (neg_ℤ-+ℤ (pos (suc b)) (pos (a - b)))
          ∙ +ℤ_assoc (negsuc b) (neg_ℤ (pos (a - b))) (pos (a - b)) ∙ ap (λ x. negsuc b +ℤ x) (+ℤ_invl (pos (a - b))) ∙ +ℤ_idr (negsuc b)),
    )

pub ≤ℤ_elim : {a b : ℤ} → a ≤ℤ b → (n : ℕ) × (b ≡ a +ℤ pos n)
≤ℤ_elim {a} {b} h = gap a b h.le

-- a ≤ b follows from c ≤ d, where b - a is d - c
pub ≤ℤ_by : {a b c d : ℤ} → c ≤ℤ d → b -ℤ a ≡ d -ℤ c → a ≤ℤ b
≤ℤ_by {a} {b} {c} {d} h e = let (n, f) = ≤ℤ_elim h in ≤ℤ_intro n (
    ring (a ∷ b ∷ []) (λ a b. b ≐ a ⊕ (b ⊖ a)) tt ∙ ap (λ x. a +ℤ x) (e ∙ ap (λ x. x -ℤ c) f)
    ∙ ring (a ∷ c ∷ pos n ∷ []) (λ a c n. a ⊕ (c ⊕ n ⊖ c) ≐ a ⊕ n) tt)

pub ≤ℤ_sub : {a b : ℤ} → (a ≤ℤ b) ↔ (pos 0 ≤ℤ (b -ℤ a))
≤ℤ_sub {a} {b} = (λ h. ≤ℤ_by h (+ℤ_idr (b -ℤ a)), λ h. ≤ℤ_by h (sym (+ℤ_idr (b -ℤ a))))

pub ≤ℤ_of_≡ : {a b : ℤ} → a ≡ b → a ≤ℤ b
≤ℤ_of_≡ {a} e = rw (← e) (≤ℤ_refl a)

pub ≤ℤ_trans : {a b c : ℤ} → a ≤ℤ b → b ≤ℤ c → a ≤ℤ c
≤ℤ_trans {a} h k = let (m, p) = ≤ℤ_elim h in let (n, q) = ≤ℤ_elim k in ≤ℤ_intro (m + n) (q ∙ ap (λ x. x +ℤ pos n) p ∙ +ℤ_assoc a (pos m) (pos n))

pub ≤ℤ_antisymm : {a b : ℤ} → a ≤ℤ b → b ≤ℤ a → a ≡ b
≤ℤ_antisymm {a} {b} h k =
    let (m, p) = ≤ℤ_elim h in let (n, q) = ≤ℤ_elim k in
    let e : m + n ≡ 0 = ap nat_abs (+ℤ_cancel_l a (sym (+ℤ_assoc a (pos m) (pos n)) ∙ ap (λ x. x +ℤ pos n) (sym p) ∙ sym q ∙ sym (+ℤ_idr a))) in
    let z : m ≡ 0 = omega arith in
    sym (p ∙ ap (λ (x : ℕ). a +ℤ pos x) z ∙ +ℤ_idr a)

-- ---- sums and negation
pub +ℤ_mono : {a b c d : ℤ} → a ≤ℤ b → c ≤ℤ d → (a +ℤ c) ≤ℤ (b +ℤ d)
+ℤ_mono {a} {c = c} h k = let (m, p) = ≤ℤ_elim h in let (n, q) = ≤ℤ_elim k in ≤ℤ_intro (m + n) (ap₂ ◌+ℤ◌ p q ∙ +ℤ_medial a (pos m) c (pos n))

-- `+ℤ_mono` at two zeros, for `search`
pub +ℤ_nonneg : {a b : ℤ} → pos 0 ≤ℤ a → pos 0 ≤ℤ b → pos 0 ≤ℤ (a +ℤ b)
+ℤ_nonneg h k = +ℤ_mono h k

pub neg_ℤ_mono : {a b : ℤ} → a ≤ℤ b → neg_ℤ b ≤ℤ neg_ℤ a
neg_ℤ_mono {a} {b} h = ≤ℤ_by h (ring (a ∷ b ∷ []) (λ a b. ⊝ a ⊖ ⊝ b ≐ b ⊖ a) tt)

-- ---- the strict order: a < b is a + 1 ≤ b
leZ_sucℤ : (a b : ℤ) → le_z (suc_ℤ a) b ≡ lt_z a b
leZ_sucℤ (pos a) (pos b) = refl
leZ_sucℤ (pos a) (negsuc b) = refl
leZ_sucℤ (negsuc zero) (pos b) = leb-zero b
leZ_sucℤ (negsuc zero) (negsuc b) = sym (leb-suc-zero b)
leZ_sucℤ (negsuc (suc a)) (pos b) = refl
leZ_sucℤ (negsuc (suc a)) (negsuc b) = sym (leb-suc-suc b a)

pub <ℤ_step : {a b : ℤ} → (a <ℤ b) ↔ ((a +ℤ pos 1) ≤ℤ b)
<ℤ_step {a} {b} = (λ h. le_z_yes (subst T (sym e) h.lt), λ h. lt_z_yes (subst T e h.le))
  where
    e : le_z (a +ℤ pos 1) b ≡ lt_z a b
    e = ap (λ x. le_z x b) (+ℤ_one a) ∙ leZ_sucℤ a b

pub <ℤ_by : {a b c d : ℤ} → c <ℤ d → b -ℤ a ≡ d -ℤ c → a <ℤ b
<ℤ_by {a} {b} {c} {d} h e = <ℤ_step.1 (≤ℤ_by (<ℤ_step.0 h)
    (ring (a ∷ b ∷ []) (λ a b. b ⊖ (a ⊕ # 1) ≐ b ⊖ a ⊖ # 1) tt ∙ ap (λ x. x -ℤ pos 1) e ∙ ring (c ∷ d ∷ []) (λ c d. d ⊖ c ⊖ # 1 ≐ d ⊖ (c ⊕ # 1)) tt))

pub ≤ℤ_of_<ℤ : {a b : ℤ} → a <ℤ b → a ≤ℤ b
≤ℤ_of_<ℤ {a} h = ≤ℤ_trans (≤ℤ_intro 1 refl) (<ℤ_step.0 h)

pub ≤ℤ_<ℤ_trans : {a b c : ℤ} → a ≤ℤ b → b <ℤ c → a <ℤ c
≤ℤ_<ℤ_trans h k = <ℤ_step.1 (≤ℤ_trans (+ℤ_mono h (≤ℤ_refl (pos 1))) (<ℤ_step.0 k))

test : {A B : Type 0} (c : Bool) → (T c → A) → (T (not c) → B) → A ⊎ B
test true f g = inl (f tt)
test false f g = inr (g tt)

pub <ℤ_or_≥ℤ : (a b : ℤ) → (a <ℤ b) ⊎ (b ≤ℤ a)
<ℤ_or_≥ℤ a b = test (lt_z a b) lt_z_yes lt_z_no

pub ≤ℤ-total : (a b : ℤ) → (a ≤ℤ b) ⊎ (b ≤ℤ a)
≤ℤ-total a b = elim (<ℤ_or_≥ℤ a b) [ inl h ↦ inl (≤ℤ_of_<ℤ h) | inr h ↦ inr h ]

-- ---- natural numbers among the integers
pub pos_mono : {m n : ℕ} → m ≤ n → pos m ≤ℤ pos n
pos_mono {m} {n} h = le_z_yes (le→leb m n h)

pub pos_mono_< : {m n : ℕ} → m < n → pos m <ℤ pos n
pos_mono_< {m} {n} h = lt_z_yes (lt→ltb m n h)

pub pos_cancel : {m n : ℕ} → pos m ≤ℤ pos n → m ≤ n
pos_cancel {m} {n} h = leb→le m n h.le

pub nonneg : (n : ℕ) → pos 0 ≤ℤ pos n
nonneg n = pos_mono (omega arith)

pub nonneg_elim : {a : ℤ} → pos 0 ≤ℤ a → (n : ℕ) × (a ≡ pos n)
nonneg_elim h = let (n, e) = ≤ℤ_elim h in (n, e ∙ +ℤ_idl (pos n))

pub positive_elim : {a : ℤ} → pos 0 <ℤ a → (n : ℕ) × (a ≡ pos (suc n))
positive_elim h = let (n, e) = ≤ℤ_elim (<ℤ_step.0 h) in (n, e ∙ ap pos (omega arith))

-- ---- products
pub *ℤ_nonneg : {a b : ℤ} → pos 0 ≤ℤ a → pos 0 ≤ℤ b → pos 0 ≤ℤ (a *ℤ b)
*ℤ_nonneg h k = let (m, p) = nonneg_elim h in let (n, q) = nonneg_elim k in rw (p, q) (nonneg (m * n))

pub *ℤ_positive : {a b : ℤ} → pos 0 <ℤ a → pos 0 <ℤ b → pos 0 <ℤ (a *ℤ b)
*ℤ_positive h k = let (m, p) = positive_elim h in let (n, q) = positive_elim k in rw (p, q) (pos_mono_< (Nat.mul-pos (Nat.zero-lt-suc m) (Nat.zero-lt-suc n)))

pub *ℤ_mono : {a b c : ℤ} → pos 0 ≤ℤ c → a ≤ℤ b → (c *ℤ a) ≤ℤ (c *ℤ b)
*ℤ_mono {a} {b} {c} k h = ≤ℤ_by (*ℤ_nonneg k (≤ℤ_sub.0 h)) (ring (a ∷ b ∷ c ∷ []) (λ a b c. c ⊗ b ⊖ c ⊗ a ≐ c ⊗ (b ⊖ a) ⊖ # 0) tt)

pub *ℤ_mono_r : {a b c : ℤ} → pos 0 ≤ℤ c → a ≤ℤ b → (a *ℤ c) ≤ℤ (b *ℤ c)
*ℤ_mono_r {a} {b} {c} k h = rw (*ℤ_comm a c, *ℤ_comm b c) (*ℤ_mono k h)

pub *ℤ_mono_< : {a b c : ℤ} → pos 0 <ℤ c → a <ℤ b → (c *ℤ a) <ℤ (c *ℤ b)
*ℤ_mono_< {a} {b} {c} k h = <ℤ_by (*ℤ_positive k (<ℤ_by h (+ℤ_idr (b -ℤ a)))) (ring (a ∷ b ∷ c ∷ []) (λ a b c. c ⊗ b ⊖ c ⊗ a ≐ c ⊗ (b ⊖ a) ⊖ # 0) tt)

pub *ℤ_mono₂ : {a b c d : ℤ} → pos 0 ≤ℤ a → a ≤ℤ b → pos 0 ≤ℤ c → c ≤ℤ d → (a *ℤ c) ≤ℤ (b *ℤ d)
*ℤ_mono₂ ha h hc k = ≤ℤ_trans (*ℤ_mono ha k) (*ℤ_mono_r (≤ℤ_trans hc k) h)

pub *ℤ_≤ℤ_cancel : {a b c : ℤ} → pos 0 <ℤ c → (c *ℤ a) ≤ℤ (c *ℤ b) → a ≤ℤ b
*ℤ_≤ℤ_cancel {a} {b} k h = elim (<ℤ_or_≥ℤ b a) [ inl l ↦ absurd (<ℤ_irrefl (<ℤ-≤ℤ_trans (*ℤ_mono_< k l) h)) | inr l ↦ l ]

pub *ℤ_cancel_l : {a b c : ℤ} → pos 0 <ℤ c → c *ℤ a ≡ c *ℤ b → a ≡ b
*ℤ_cancel_l k e = ≤ℤ_antisymm (*ℤ_≤ℤ_cancel k (≤ℤ_of_≡ e)) (*ℤ_≤ℤ_cancel k (≤ℤ_of_≡ (sym e)))

pub square_nonneg : (a : ℤ) → pos 0 ≤ℤ (a *ℤ a)
square_nonneg (pos n) = nonneg (n * n)
square_nonneg (negsuc n) = nonneg (suc n * suc n)

pub pow_even_nonneg : (a : ℤ) (n : ℕ) → pos 0 ≤ℤ pow a (2 * n)
pow_even_nonneg a n = rw (Nat.two-mul n, pow_+ a n n) (square_nonneg (pow a n))

pub pow_nonneg : {a : ℤ} → pos 0 ≤ℤ a → (n : ℕ) → pos 0 ≤ℤ pow a n
pow_nonneg {a} h zero = rw (pow_zero a) (nonneg 1)
pow_nonneg {a} h (suc n) = rw (pow_suc a n) (*ℤ_nonneg (pow_nonneg h n) h)

pub pow_positive : {a : ℤ} → pos 0 <ℤ a → (n : ℕ) → pos 0 <ℤ pow a n
pow_positive {a} h zero = rw (pow_zero a) (pos_mono_< (omega arith))
pow_positive {a} h (suc n) = rw (pow_suc a n) (*ℤ_positive (pow_positive h n) h)

pub pow_mono : {a b : ℤ} → pos 0 ≤ℤ a → a ≤ℤ b → (n : ℕ) → pow a n ≤ℤ pow b n
pow_mono {a} {b} h k zero = rw (pow_zero a, pow_zero b) (≤ℤ_refl (pos 1))
pow_mono {a} {b} h k (suc n) = rw (pow_suc a n, pow_suc b n) (*ℤ_mono₂ (pow_nonneg h n) (pow_mono h k n) h k)

-- ---- for `search`: `search signs` proves pos 0 ≤ e, and `search bounds` compares two sums and products part by part
pub ruleset signs = (nonneg, +ℤ_nonneg, *ℤ_nonneg, square_nonneg, pow_nonneg, pow_even_nonneg)

pub ruleset bounds = (≤ℤ_refl, +ℤ_mono, neg_ℤ_mono, *ℤ_mono, *ℤ_mono_r, pow_mono)
