-- A run added to another one, place by place from the first: what holds where c of the sums are made.
use mathlib.Core.Path.{◌≡◌, refl, ◌∙◌, ap₂}
use mathlib.Core.List.{List}
use Prim.Native.Nat.{ℕ, ◌+◌, ◌*◌, ◌^◌, ◌≤◌, ◌<◌}
use native.Mathlib.Nat as Nat
use native.Mathlib.Decide.{dec_le}
use native.Mathlib.Omega.{arith}
use lib.IntN.{ℤ, pos, ◌+ℤ◌, ◌*ℤ◌, nat_abs}
use lib.ListN.{length, set, length-set}
use lib.Seq.{get_or-set_same, get_or-set_other}
use Rattle.tables.specs.Table.{at}
use Rattle.tables.specs.Moves.{Addable, Added}

-- the first c sums are made of the old numbers, and all else is as it was
pub record Adding (to from count : ℕ) (s : ℤ) (old places : List ℤ) (c : ℕ) : Type 0 where
  pub within : c ≤ count
  pub long : length places ≡ length old
  pub run : (m : ℕ) → m < c → at places (to + m) ≡ at old (to + m) +ℤ s *ℤ at old (from + m)
  pub before : (m : ℕ) → m < to → at places m ≡ at old m
  pub after : (m : ℕ) → to + c ≤ m → at places m ≡ at old m

module _ {to from count : ℕ} {s : ℤ} {old : List ℤ} where
  pub adding_start : Adding to from count s old old 0
  adding_start = record { within = omega arith; long = refl; run = λ m i. absurd (Nat.not-suc-le-zero i); before = λ m i. refl; after = λ m i. refl }

  -- the next sum fits: both its numbers are still the old ones
  pub adding_room : {places : List ℤ} {c : ℕ} → Addable to from count s old → c < count → Adding to from count s old places c
      → nat_abs (at places (to + c)) + nat_abs s * nat_abs (at places (from + c)) < 2 ^ 63
  adding_room {places} {c} a i p =
      let u = a.above in let x = p.after (to + c) (Nat.le_refl (to + c)) in let y = p.after (from + c) (omega arith) in rw (x, y) (a.light c i)

  -- one sum more
  pub adding_next : {places : List ℤ} {c : ℕ} {z : ℤ} → Addable to from count s old → c < count → z ≡ at places (to + c) +ℤ s *ℤ at places (from + c)
      → Adding to from count s old places c → Adding to from count s old (set places (to + c) z) (c + 1)
  adding_next {places} {c} {z} a i e p =
      let u = a.above in let l = p.long in let k = a.inside in
      let new : at (set places (to + c) z) (to + c) ≡ at old (to + c) +ℤ s *ℤ at old (from + c) =
      get_or-set_same places (to + c) z (pos 0) (omega arith) ∙ e ∙ ap₂ (λ x y. x +ℤ s *ℤ y) (p.after (to + c) (Nat.le_refl (to + c))) (p.after (from + c) (omega arith)) in
      record {
        within = omega arith;
        long = length-set places (to + c) z ∙ l;
        run = λ m j. elim (dec_le c m) [
          | yes o ↦ let q : m ≡ c = omega arith in rw q new
          | no o ↦ other (to + m) (λ q. omega arith) ∙ p.run m (omega arith)
        ];
        before = λ m j. other m (λ q. omega arith) ∙ p.before m j;
        after = λ m j. other m (λ q. omega arith) ∙ p.after m (omega arith);
      }
    where
      other : (m : ℕ) → (m ≡ to + c → ⊥) → at (set places (to + c) z) m ≡ at places m
      other m ne = get_or-set_other places (to + c) m z (pos 0) ne

  -- past the last sum
  pub adding_end : {places : List ℤ} {c : ℕ} → count ≤ c → Adding to from count s old places c → Added to from count s old places
  adding_end {places} {c} h p = record { long = p.long; run = λ m i. p.run m (omega arith); before = p.before; after = λ m i. p.after m (let w = p.within in omega arith) }
