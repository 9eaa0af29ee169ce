-- What an answer tells of the refusal's number: where the first step is refused so is the call, by the same refusal, and where it passed the rest decides.
use mathlib.Core.Path.{◌≡◌, refl, sym, ◌∙◌, ap}
use Prim.Native.Nat.{ℕ, zero, suc}
use native.Mathlib.Omega.{arith}
use Rattle.std.specs.Prelude.{Result, Ok, Err, IsErrAnd}
use Rattle.page.specs.declared.Refusal.{Refusal}
use Rattle.page.specs.Numbers.{by_number, answer}
use Rattle.page.proofs.Rows.{or_else}

-- ---- the refusal that is handed up
pub handed_up : {X : Type 0} (r : Result X Refusal) (e : Refusal) → IsErrAnd r (λ x. x ≡ e) → r ≡ Err e
handed_up (Ok x) e h = absurd h
handed_up (Err x) e h = ap Err h

-- ---- of a step with the values v, of which the call, with the values w, returns the refusal e
module _ {X Y : Type 0} (v : X) (w : Y) {e : Refusal} (r : Result Y Refusal) where
  pub refused_same : (n : ℕ) → answer n v ≡ Err e → IsErrAnd r (λ x. x ≡ e) → r ≡ answer n w
  refused_same zero h g = cc
  refused_same (suc n) h g = let q : by_number (suc n) ≡ e = cc in handed_up r e g ∙ ap Err (sym q)

  -- more is tried after it
  pub refused_first : (n m : ℕ) → answer n v ≡ Err e → IsErrAnd r (λ x. x ≡ e) → r ≡ answer (or_else n m) w
  refused_first zero m h g = cc
  refused_first (suc n) m h g = refused_same (suc n) h g

pub refused_some : {X : Type 0} (v : X) {e : Refusal} (n : ℕ) → answer n v ≡ Err e → n ≡ 0 → ⊥
refused_some v zero h z = cc
refused_some v (suc n) h z = omega arith

-- ---- of a step that passed
pub passed_none : {X : Type 0} (v : X) {x : X} (n : ℕ) → answer n v ≡ Ok x → n ≡ 0
passed_none v zero h = refl
passed_none v (suc n) h = cc

pub passed_values : {X : Type 0} (v : X) {x : X} (n : ℕ) → answer n v ≡ Ok x → x ≡ v
passed_values v zero h = cc
passed_values v (suc n) h = cc
