-- The coefficients of a sheet in 64 bits, place by place, and scaled.
use mathlib.Core.Path.{◌≡◌, refl, ◌∙◌}
use mathlib.Core.List.{List}
use Prim.Native.Nat.{ℕ, zero, suc, ◌+◌, ◌*◌, ◌-◌, ◌≤◌, ◌<◌}
use native.Mathlib.Nat as Nat
use native.Mathlib.Decide.{dec_le}
use native.Mathlib.Omega.{arith}
use lib.IntN.{ℤ, pos}
use lib.ListN.{length, replicate, set, length-set}
use lib.Seq.{get_or-set_same, get_or-set_other}
use Rattle.algebra.specs.Triangle.{place}
use Rattle.algebra.proofs.Places.{row_start_all, place_all, places_45}
use Rattle.tables.specs.Table.{at, held}
use Rattle.tables.specs.Scaling as Places
use Rattle.local.specs.declared.Form.{Form}
use Rattle.local.specs.Form.{Tabled}
use Rattle.page.specs.Sheet.{Sheet}
use Rattle.page.specs.Weight.{Accepted}
use Rattle.page.proofs.Weights.{place_light}
use Rattle.cells.specs.Steps.{Widened, scaled_by, Scalable}

-- ---- the first n places are the coefficients, and the others zero
pub record Widening (coefficients places : List ℤ) (n : ℕ) : Type 0 where
  pub long : length places ≡ 45
  pub each : (m : ℕ) → m < n → at places m ≡ at coefficients m
  pub rest : (m : ℕ) → n ≤ m → at places m ≡ pos 0

-- zeros
zeros : (n m : ℕ) → at (replicate n (pos 0)) m ≡ pos 0
zeros zero m = refl
zeros (suc n) zero = refl
zeros (suc n) (suc m) = zeros n m

module _ {coefficients : List ℤ} where
  pub widening_start : Widening coefficients (replicate 45 (pos 0)) 0
  widening_start = record { long = refl; each = λ m i. absurd (Nat.not-suc-le-zero i); rest = λ m i. zeros 45 m }

  pub widening_next : {places : List ℤ} {n : ℕ} {z : ℤ} → n < 45 → z ≡ at coefficients n → Widening coefficients places n → Widening coefficients (set places n z) (n + 1)
  widening_next {places} {n} {z} h e w =
      let l = w.long in
      record {
        long = length-set places n z ∙ l;
        each = λ m i. elim (dec_le n m) [
          | yes o ↦ let q : m ≡ n = omega arith in rw q (get_or-set_same places n z (pos 0) (omega arith) ∙ e)
          | no o ↦ get_or-set_other places n m z (pos 0) (λ q. omega arith) ∙ w.each m (omega arith)
        ];
        rest = λ m i. get_or-set_other places n m z (pos 0) (λ q. omega arith) ∙ w.rest m (omega arith);
      }

  pub widening_end : {places : List ℤ} {n : ℕ} → n ≡ length coefficients → Widening coefficients places n → Widened coefficients places
  widening_end h w = record { long = w.long; each = λ m i. w.each m (omega arith); rest = λ m i. w.rest m (omega arith) }

-- ---- and each may be scaled, and is
module _ {d : ℕ} {A : List ℤ} {k : ℕ} (s : Scalable d A k) where
  pub few : length A ≤ 45
  few = let c = s.counted in let e = row_start_all d in let l = places_45 d s.degree in omega arith

  -- the place (i,j) holds its coefficient
  given : {places : List ℤ} → Widened A places → (i j : ℕ) → i + j ≤ d → held places d i j ≡ at A (place d i j)
  given w i j l = w.each (place d i j) (let c = s.counted in let e = row_start_all d in let p = place_all d i j l in omega arith)

  -- no doubling for its exponents, k + 1 for each that is missing
  doubled : (i j : ℕ) → Places.doublings 0 (k + 1) (i + j) (d - i - j) ≡ (k + 1) * (d - i - j)
  doubled i j = rw (Nat.zero-mul (i + j)) (Nat.zero-add ((k + 1) * (d - i - j)))

  pub widened_fits : {places : List ℤ} → Widened A places → Places.Scalable d 0 (k + 1) places
  widened_fits w = record {
    long = w.long;
    small = (s.degree, omega arith, let h = s.depth in omega arith);
    light = λ i j l. rw (given w i j l, doubled i j) (s.light i j l);
  }

  pub widened_scaled : {old : List ℤ} {form : Form} → form.degree ≡ d → Widened A old → Places.Scaled d 0 (k + 1) old form.places → Tabled d (scaled_by d A k) form
  widened_scaled e w t = record {
    degree = e;
    long = t.long;
    each = λ i j l. t.each i j l ∙ rw (given w i j l, doubled i j);
    unused = λ n l. t.rest n l ∙ w.rest n (let c = s.counted in let q = row_start_all d in omega arith);
  }

-- an accepted sheet's coefficients may be scaled
pub scalable : {S : Sheet} → Accepted S → Scalable S.d S.coefficients S.k
scalable a = record { degree = a.ranges.degree; depth = a.ranges.depth; counted = a.ranges.counted; light = place_light a }
