-- The depth of a picture by its sizes: the first k up to 7 for which both are 2^k.
use mathlib.Core.Path.{◌≡◌, refl, sym, ◌∙◌, ap, ap₂}
use mathlib.Core.Bool.{Bool, true, false, ◌&&◌, cond, and-false}
use mathlib.Core.List.{List, [], ◌∷◌, Memᴰ}
use Prim.Native.Nat.{ℕ, suc, ◌+◌, ◌^◌, ◌≤◌, ◌<◌, min}
use native.Mathlib.Numerals.{add-one}
use native.Mathlib.Omega.{arith}
use lib.Dec.{eqb}
use lib.ListN.{get_or}
use lib.Pow.{pow_mono}
use borrow.Author.Tests.{eqb-true, eq-eqb, ne_eqb}
use Rattle.std.proofs.Common.{None, Some}
use Rattle.algebra.specs.Sum.{span, ◌⋯◌}
use Rattle.algebra.proofs.Choice.{same_test, and_left, and_right, and_both}
use Rattle.algebra.proofs.Run.{span_first, span_none, ⋯_member}
use Rattle.verdicts.specs.Walking.{those}
use Rattle.verdicts.proofs.Lists.{those_first, those_cong}
use Rattle.page.specs.SheetLine.{is_empty}
use Rattle.pbm.specs.Reading.{Picture}
use Rattle.pbm.specs.Refusals.{has_side, depths}
use Rattle.scanning.specs.Steps.{first_of, depth_at}

-- one of the sizes is not 2^k
pub no_width : (w h k : ℕ) → (w ≡ 2 ^ k → ⊥) → has_side w h k ≡ false
no_width w h k n = ap (λ b. b && eqb h (2 ^ k)) (ne_eqb w (2 ^ k) n)

pub no_height : (w h k : ℕ) → eqb h (2 ^ k) ≡ false → has_side w h k ≡ false
no_height w h k n = ap (λ b. eqb w (2 ^ k) && b) n ∙ and-false (eqb w (2 ^ k))

-- ---- the depths before k were tried, and are none
pub record Trying (w h k : ℕ) : Type 0 where
  pub within : k ≤ 8
  pub rest : those (has_side w h) (0 ⋯ 7) ≡ those (has_side w h) (span k 8)

module _ {w h : ℕ} where
  pub trying_start : Trying w h 0
  unfolding ◌⋯◌
  trying_start = record { within = omega arith; rest = refl }

  -- k by itself
  tried : {k : ℕ} → Trying w h k → k < 8 → (b : Bool) → has_side w h k ≡ b → those (has_side w h) (0 ⋯ 7) ≡ cond b (k ∷ those (has_side w h) (span (suc k) 8)) (those (has_side w h) (span (suc k) 8))
  tried {k} t l b e = t.rest ∙ ap (those (has_side w h)) (span_first k 8 l) ∙ those_first (has_side w h) k (span (suc k) 8) b e

  pub trying_found : {k : ℕ} → Trying w h k → k < 8 → w ≡ 2 ^ k → h ≡ 2 ^ k → Some k ≡ depth_at w h
  trying_found {k} t l e f = sym (ap first_of (tried t l true (and_both (eqb w (2 ^ k)) (eqb h (2 ^ k)) (eq-eqb w (2 ^ k) e) (eq-eqb h (2 ^ k) f))))

  pub trying_next : {k : ℕ} → Trying w h k → k < 8 → has_side w h k ≡ false → Trying w h (k + 1)
  trying_next {k} t l e = record { within = omega arith; rest = tried t l false e ∙ ap (λ n. those (has_side w h) (span n 8)) (sym (add-one k)) }

  pub trying_end : {k : ℕ} → Trying w h k → 8 ≤ k → None ≡ depth_at w h
  unfolding those
  trying_end {k} t l = sym (ap first_of (t.rest ∙ ap (those (has_side w h)) (span_none k 8 l)))

-- ---- sizes told no further than 2^63 have the same depth
told : (w k : ℕ) → k ≤ 7 → eqb (min w (2 ^ 63)) (2 ^ k) ≡ eqb w (2 ^ k)
told w k h =
    let small : 2 ^ k ≤ 2 ^ 7 = pow_mono h in
    same_test (eqb (min w (2 ^ 63)) (2 ^ k)) (eqb w (2 ^ k))
    (λ e. eq-eqb w (2 ^ k) (omega (arith, eqb-true (min w (2 ^ 63)) (2 ^ k) e)))
    (λ e. eq-eqb (min w (2 ^ 63)) (2 ^ k) (omega (arith, eqb-true w (2 ^ k) e)))

pub depth_told : (w h : ℕ) → depth_at (min w (2 ^ 63)) (min h (2 ^ 63)) ≡ depth_at w h
depth_told w h = ap first_of (those_cong (0 ⋯ 7) (λ k m. ap₂ ◌&&◌ (told w k (⋯_member 0 7 m).1) (told h k (⋯_member 0 7 m).1)))

-- ---- the first member of a list that has a property has it
first_holds : (has : ℕ → Bool) (xs : List ℕ) {k : ℕ} → first_of (those has xs) ≡ Some k → Memᴰ k xs × (has k ≡ true)
unfolding those
first_holds has [] e = absurd (cc)
first_holds has (x ∷ xs) {k} e = by (has x) refl (first_holds has xs) e
  where
    by : (b : Bool) → has x ≡ b → (first_of (those has xs) ≡ Some k → Memᴰ k xs × (has k ≡ true)) → first_of (cond b (x ∷ those has xs) (those has xs)) ≡ Some k → Memᴰ k (x ∷ xs) × (has k ≡ true)
    by true h later f = let m : k ≡ x = cc in (Memᴰ.head m, ap has m ∙ h)
    by false h later f = let r = later f in (Memᴰ.tail r.0, r.1)

first_none : (ks : List ℕ) → first_of ks ≡ None → is_empty ks ≡ true
first_none [] e = refl
first_none (k ∷ ks) e = absurd (cc)

first_some : (ks : List ℕ) {k : ℕ} → first_of ks ≡ Some k → (is_empty ks ≡ false) × (k ≡ get_or ks 0 0)
first_some [] e = absurd (cc)
first_some (k ∷ ks) e = (refl, cc)

-- ---- a picture's depth: none, or the k for which its sides are 2^k
module _ (P : Picture) where
  pub no_depth : depth_at P.width P.height ≡ None → is_empty (depths P) ≡ true
  unfolding depths
  no_depth e = first_none (those (has_side P.width P.height) (0 ⋯ 7)) e

  pub record Deep (k : ℕ) : Type 0 where
    pub some : is_empty (depths P) ≡ false
    pub depth : k ≡ get_or (depths P) 0 0
    pub small : k ≤ 7
    pub wide : P.width ≡ 2 ^ k
    pub high : P.height ≡ 2 ^ k

  pub has_depth : {k : ℕ} → depth_at P.width P.height ≡ Some k → Deep k
  unfolding depths
  has_depth {k} e =
      let f = first_some (those (has_side P.width P.height) (0 ⋯ 7)) e in let m = first_holds (has_side P.width P.height) (0 ⋯ 7) e in
      record {
        some = f.0;
        depth = f.1;
        small = (⋯_member 0 7 m.0).1;
        wide = eqb-true P.width (2 ^ k) (and_left (eqb P.width (2 ^ k)) (eqb P.height (2 ^ k)) m.1);
        high = eqb-true P.height (2 ^ k) (and_right (eqb P.width (2 ^ k)) (eqb P.height (2 ^ k)) m.1);
      }
