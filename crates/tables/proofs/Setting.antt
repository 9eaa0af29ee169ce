-- Places set one after the other: a row place by place, and a table row by row.
use mathlib.Core.Path.{◌≡◌, refl, sym, ◌∙◌, ap, subst}
use mathlib.Core.List.{List}
use Prim.Native.Nat.{ℕ, suc, ◌+◌, ◌-◌, ◌≤◌, ◌<◌}
use native.Mathlib.Nat as Nat
use native.Mathlib.Decide.{dec_le}
use native.Mathlib.Omega.{arith}
use lib.IntN.{ℤ}
use lib.ListN.{length}
use Rattle.algebra.specs.Triangle.{row_start, place}
use Rattle.algebra.proofs.Places.{row_start_zero, row_start_next, row_start_mono, place_below, place_all}
use Rattle.tables.specs.Table.{at, held_from}

-- ---- a row: of the n + 1 places from `first` on r(0), .., r(n) hold, and all else stays
pub record RowSet (first n : ℕ) (r : ℕ → ℤ → Type 0) (old new : List ℤ) : Type 0 where
  pub long : length new ≡ length old
  pub row : (b : ℕ) → b ≤ n → r b (at new (first + b))
  pub before : (m : ℕ) → m < first → at new m ≡ at old m
  pub after : (m : ℕ) → first + n < m → at new m ≡ at old m

-- its places before b are set, and all else is as it was
pub record RowMapping (first n : ℕ) (r : ℕ → ℤ → Type 0) (old places : List ℤ) (b : ℕ) : Type 0 where
  pub within : b ≤ n + 1
  pub long : length places ≡ length old
  pub row : (m : ℕ) → m < b → r m (at places (first + m))
  pub before : (m : ℕ) → m < first → at places m ≡ at old m
  pub after : (m : ℕ) → first + b ≤ m → at places m ≡ at old m

-- ---- a table of degree d from `start` on: of the rows before i R holds, and all else, from `first` on too, is as it was
pub record Setting (start d : ℕ) (R : ℕ → ℕ → ℤ → Type 0) (old places : List ℤ) (first i : ℕ) : Type 0 where
  pub within : i ≤ d + 1
  pub here : first ≡ start + row_start d i
  pub long : length places ≡ length old
  pub rows : (a b : ℕ) → a < i → a + b ≤ d → R a b (held_from places start d a b)
  pub before : (m : ℕ) → m < start → at places m ≡ at old m
  pub after : (m : ℕ) → first ≤ m → at places m ≡ at old m

module _ {start d : ℕ} {R : ℕ → ℕ → ℤ → Type 0} {old : List ℤ} where
  -- at first no row is set
  pub setting_start : Setting start d R old old start 0
  setting_start = record { within = omega arith; here = let z = row_start_zero d in omega arith; long = refl; rows = λ a b i. absurd (Nat.not-suc-le-zero i); before = λ m i. refl; after = λ m i. refl }

  -- the next row lies inside, and is as it was
  pub setting_inside : {places : List ℤ} {first i : ℕ} → i ≤ d → start + row_start d (suc d) ≤ length old → Setting start d R old places first i → first + (d - i) < length places
  setting_inside {places} {first} {i} h l p = let q = p.here in let s = p.long in let e = place_all d i (d - i) (omega arith) in omega arith

  pub setting_old : {places : List ℤ} {first i : ℕ} → Setting start d R old places first i → (b : ℕ) → at places (first + b) ≡ held_from old start d i b
  setting_old {places} {first} p b = let q = p.here in p.after (first + b) (omega arith) ∙ ap (at old) (omega arith)

  -- one row more
  pub setting_next : {places new : List ℤ} {first i : ℕ} → i ≤ d → RowSet first (d - i) (R i) places new → Setting start d R old places first i
      → Setting start d R old new (first + (d + 1 - i)) (i + 1)
  setting_next {places} {new} {first} {i} h s p =
      let q = p.here in
      record {
        within = omega arith;
        here = let r = row_start_next d i in omega arith;
        long = s.long ∙ p.long;
        rows = λ a b l m. elim (dec_le i a) [
          | yes o ↦ let w : a ≡ i = omega arith in let e : first + b ≡ start + place d i b = omega arith in let z : R i b (held_from new start d i b) = subst (λ n. R i b (at new n)) e (s.row b (omega arith)) in rw w z
          | no o ↦ let r = place_below d a b m in let t : row_start d (a + 1) ≤ row_start d i = row_start_mono d (omega arith) in subst (R a b) (sym (s.before (start + place d a b) (omega arith))) (p.rows a b (omega arith) m)
        ];
        before = λ m l. s.before m (omega arith) ∙ p.before m l;
        after = λ m l. s.after m (omega arith) ∙ p.after m (omega arith);
      }

  -- past the last row the table is set
  pub setting_end : {places : List ℤ} {first i : ℕ} → d < i → Setting start d R old places first i
      → ((a b : ℕ) → a + b ≤ d → R a b (held_from places start d a b)) × ((m : ℕ) → m < start → at places m ≡ at old m) × ((m : ℕ) → start + row_start d (suc d) ≤ m → at places m ≡ at old m)
  setting_end {places} {first} {i} h p =
      let w : i ≡ suc d = omega arith in
      ((λ a b l. p.rows a b (omega arith) l), p.before, (λ m l. p.after m (let q = p.here ∙ ap (λ x. start + row_start d x) w in omega arith)))
