-- Values by Horner's rule: of a row, and of a table, whose rows' values are the coefficients of the first variable.
use mathlib.Core.Path.{◌≡◌, sym, ◌∙◌, ap, ap₂}
use mathlib.Core.List.{List, [], ◌∷◌}
use Prim.Native.Nat.{ℕ, suc, ◌+◌, ◌*◌, ◌-◌, ◌/◌, ◌^◌, ◌≤◌, ◌<◌}
use native.Mathlib.Nat as Nat
use native.Mathlib.Omega.{arith}
use lib.IntN.{ℤ, pos, ◌+ℤ◌, ◌*ℤ◌, nat_abs, pow}
use Rattle.algebra.specs.Sum.{sum, sumℕ, ◌⋯◌}
use Rattle.algebra.specs.Binomial.{entry}
use Rattle.algebra.specs.Horner.{shifted, load}
use Rattle.algebra.specs.Triangle.{row_start, triangle}
use Rattle.algebra.proofs.Power.{pow_zero}
use Rattle.algebra.proofs.Absolute.{nat_abs-*ℤ, nat_abs_pow}
use Rattle.algebra.proofs.Ring.{ring, ◌⊗◌, #◌, ◌≐◌}
use Rattle.algebra.proofs.Sum.{sum_cong, sum-*ℤ, sumℕ_cong, sumℕ_mono, *-sumℕ, nat_abs_sum_le}
use Rattle.algebra.proofs.Binomial.{choose_zero}
use Rattle.algebra.proofs.Horner.{shifted_none, shifted_zero, shifted_all, shifted_size, load_next, load_whole}
use Rattle.algebra.proofs.Places.{row_start_next, row_start_all, place_all, places_45}
use Rattle.forms.proofs.Moves.{along_load}
use Rattle.numbers.specs.Room.{Room}
use Rattle.tables.specs.Table.{held}
use Rattle.tables.specs.Value.{row_value, RowValuable, table_value, Valuable}

-- ---- Horner's rule at the point v: what z holds where it has come down to j
pub record Descent (c : ℕ → ℤ) (v : ℤ) (n : ℕ) (z : ℤ) (j : ℕ) : Type 0 where
  pub within : j ≤ n + 1
  pub value : z ≡ shifted c v (pos 0) n j 0

-- the part of (v + 0 t)^j without t
entry_start : (v : ℤ) (j : ℕ) → entry v (pos 0) j 0 ≡ pow v j
unfolding entry
entry_start v j = rw (choose_zero j, pow_zero (pos 0), Nat.sub-zero j) (ring (pow v j ∷ []) (λ v. # 1 ⊗ v ⊗ # 1 ≐ v) tt)

module _ {c : ℕ → ℤ} {v : ℤ} {n : ℕ} where
  -- nothing above the top
  pub descent_start : Descent c v n (pos 0) (n + 1)
  descent_start = record { within = Nat.le_refl (n + 1); value = sym (shifted_none c v (pos 0) n (n + 1) 0 (omega arith)) }

  -- with e at least |v|, the step from k = j + 1 down to j fits where the sum of |c(j)| e^j does
  pub descent_room : {z : ℤ} {j k e : ℕ} → k ≡ suc j → nat_abs v ≤ e → 1 ≤ e → sumℕ (0 ⋯ n) (λ j. nat_abs (c j) * e ^ j) < 2 ^ 63 → Descent c v n z k → Room z v (c j) (pos 1)
  descent_room {z} {j} {k} {e} i w o l p =
      let m = nat_abs v + nat_abs (pos 0) in
      let s : nat_abs z ≤ load c m n (suc j) = rw (p.value, i) (shifted_size c v (pos 0) n (suc j) 0) in
      let r = Nat.mul-le-mul_right m s in let q = load_next c m n j (omega arith) in
      let t : load c m n j ≤ sumℕ (0 ⋯ n) (λ j. nat_abs (c j) * e ^ j) = load_whole c m n j (omega arith) o in omega arith

  -- one step down
  pub descent_next : {z y : ℤ} {j k : ℕ} → k ≡ suc j → y ≡ z *ℤ v +ℤ c j *ℤ pos 1 → Descent c v n z k → Descent c v n y j
  descent_next {z} {y} {j} {k} i e p = record {
    within = omega arith;
    value = e ∙ ap (λ x. x *ℤ v +ℤ c j *ℤ pos 1) (p.value ∙ ap (λ k. shifted c v (pos 0) n k 0) i) ∙ sym (shifted_zero c v (pos 0) n j (omega arith));
  }

  -- at the end the sum of c(j) v^j
  pub descent_end : {z : ℤ} {j : ℕ} → j ≤ 0 → Descent c v n z j → z ≡ sum (0 ⋯ n) (λ j. c j *ℤ pow v j)
  descent_end {z} {j} o p = let e : j ≡ 0 = omega arith in p.value ∙ ap (λ i. shifted c v (pos 0) n i 0) e ∙ shifted_all c v (pos 0) n 0 ∙ sum_cong (0 ⋯ n) (λ j m. ap (λ x. c j *ℤ x) (entry_start v j))

-- ---- a table: the rows' values, which Horner's rule takes from the last row up
abbrev row_values : List ℤ → ℕ → ℤ → ℕ → ℤ
row_values places d v i = row_value places (row_start d i) (d - i) v

-- their sizes: with b at least |v|, the sum of |value(i)| a^i is at most that of |f(i,j)| a^i b^j
module _ (d : ℕ) (places : List ℤ) (v : ℤ) (a b : ℕ) (w : nat_abs v ≤ b) where
  one_value : (i : ℕ) → nat_abs (row_values places d v i) * a ^ i ≤ sumℕ (0 ⋯ (d - i)) (λ j. nat_abs (held places d i j) * (a ^ i * b ^ j))
  one_value i =
      let r : nat_abs (row_values places d v i) ≤ sumℕ (0 ⋯ (d - i)) (λ j. nat_abs (held places d i j) * b ^ j) = nat_abs_sum_le (0 ⋯ (d - i)) _
      (λ j k. simp (nat_abs-*ℤ, nat_abs_pow) (Nat.mul-le-mul_left (nat_abs (held places d i j)) (Nat.pow-le-pow_left w j))) in
      Nat.le_trans (Nat.mul-le-mul_right (a ^ i) r) (Nat.le_of_eq (Nat.mul_comm _ (a ^ i) ∙ *-sumℕ (a ^ i) (0 ⋯ (d - i)) (λ j. nat_abs (held places d i j) * b ^ j)
      ∙ sumℕ_cong (0 ⋯ (d - i)) (λ j k. Nat.mul_left_comm (a ^ i) (nat_abs (held places d i j)) (b ^ j))))

  values_size : sumℕ (0 ⋯ d) (λ i. nat_abs (row_values places d v i) * a ^ i) ≤ triangle d (λ i j. nat_abs (held places d i j) * (a ^ i * b ^ j))
  values_size = sumℕ_mono (0 ⋯ d) (λ i k. one_value i)

-- ---- after n rows
pub record Rising (places : List ℤ) (d : ℕ) (u v z : ℤ) (first n : ℕ) : Type 0 where
  pub within : n ≤ d + 1
  pub here : first ≡ row_start d (d + 1 - n)
  pub value : Descent (row_values places d v) u d z (d + 1 - n)

module _ {places : List ℤ} {d : ℕ} {u v : ℤ} where
  -- at first the place past the last row
  pub rising_start : Rising places d u v (pos 0) ((d + 1) * (d + 2) / 2) 0
  rising_start = let e : d + 1 - 0 ≡ suc d = omega arith in record { within = omega arith; here = rw e (sym (row_start_all d)); value = rw (Nat.sub-zero (d + 1)) descent_start }

  module _ {z : ℤ} {first n : ℕ} (h : n ≤ d) (p : Rising places d u v z first n) where
    -- the next row, of n + 1 places
    pub rising_row : first ≡ row_start d (d - n) + (n + 1)
    rising_row = let e : d + 1 - n ≡ d - n + 1 = omega arith in let q = p.here ∙ ap (row_start d) e in let r = row_start_next d (d - n) in omega arith

    row_at : first - (n + 1) ≡ row_start d (d - n)
    row_at = let r = rising_row in omega arith

    value_at : row_value places (first - (n + 1)) n v ≡ row_values places d v (d - n)
    value_at = ap₂ (λ f n. row_value places f n v) row_at (omega arith)

    -- its value may be computed, and added
    pub rising_fits : Valuable d u v places → RowValuable (first - (n + 1)) n v places
    rising_fits s =
        let l = along_load d (held places d) s.a s.b s.wide.0 (d - n) (omega arith) in let e : d - (d - n) ≡ n = omega arith in
        record {
          short = omega arith;
          inside = let r = row_at in let i = place_all d (d - n) n (omega arith) in let t = places_45 d s.small in omega arith;
          b = s.b;
          wide = (s.wide.2, s.wide.3);
          light = rw row_at (Nat.lt_of_le_of_lt (rw e at l) s.light);
        }

    pub rising_room : Valuable d u v places → Room z u (row_value places (first - (n + 1)) n v) (pos 1)
    rising_room s = rw value_at (descent_room (omega arith) s.wide.1 s.wide.0 (Nat.lt_of_le_of_lt (values_size d places v s.a s.b s.wide.3) s.light) p.value)

    -- one row more
    pub rising_next : {y : ℤ} → y ≡ z *ℤ u +ℤ row_value places (first - (n + 1)) n v *ℤ pos 1 → Rising places d u v y (first - (n + 1)) (n + 1)
    rising_next {y} e =
        let i : d + 1 - (n + 1) ≡ d - n = omega arith in
        record { within = omega arith; here = rw i row_at; value = rw i (descent_next (omega arith) (e ∙ ap (λ x. z *ℤ u +ℤ x *ℤ pos 1) value_at) p.value) }

  -- past the first row the value of the table
  pub rising_end : {z : ℤ} {first n : ℕ} → d < n → Rising places d u v z first n → z ≡ table_value places d u v
  rising_end h p = descent_end (omega arith) p.value ∙ sum_cong (0 ⋯ d) (λ i m. sum-*ℤ (0 ⋯ (d - i)) _ (pow u i)
      ∙ sum_cong (0 ⋯ (d - i)) (λ j l. ring (held places d i j ∷ pow u i ∷ pow v j ∷ []) (λ c u v. c ⊗ v ⊗ u ≐ c ⊗ u ⊗ v) tt))
