-- What a cell that is not cut leaves is what its verdict says: its colour in each of its finest cells, or its one record.
use mathlib.Core.Path.{◌≡◌, refl, ap, subst}
use mathlib.Core.List.{List}
use Prim.Native.Nat.{ℕ, ◌+◌, ◌-◌, ◌^◌, ◌≤◌, ◌<◌}
use native.Mathlib.Nat as Nat
use native.Mathlib.Omega.{arith}
use lib.Dec.{lit<}
use lib.ListN.{length, set}
use Rattle.algebra.specs.Written.{Written}
use Rattle.verdicts.specs.Walking.{Verdicts, record_of}
use Rattle.verdicts.specs.Operational.{records_from}
use Rattle.verdicts.proofs.Cells.{levels_below}
use Rattle.marks.specs.declared.Seen.{Seen}
use Rattle.walk.specs.Steps.{Settled, Leaving, Examined}

pub written_one : (v : Verdicts) (k level p q at c : ℕ) (old : List ℕ) → Settled v level (k - level) p q c
    → Written (records_from v level (k - level) p q) at old (set old at (record_of c level p q)) (at + 1)
written_one v k level p q at c old s = rw s.records (record { ends = refl; written = refl })

-- a cell has a record, for which there is room
pub room_one : (k level at : ℕ) (old : List ℕ) → at + 4 ^ (k - level) ≤ length old → at < length old
room_one k level at old h = omega (arith, Nat.one-le-pow (k - level) 4 (lit< tt))

-- what is examined is the cell that its numbers say
pub examined_at : {X : Type 0} {left : Leaving X} {v : Verdicts} {k l m x y r t : ℕ} {old now : X} {seen : Seen} → l ≡ m → x ≡ y → r ≡ t → Examined left v k l x r old now seen → Examined left v k m y t old now seen
examined_at e f g h = rw (← e, ← f, ← g) h

-- ---- a cut cell's room is that of four parts, which come one after the other, whatever their columns and rows
module _ {X : Type 0} {HasRoom : ℕ → ℕ → X → Type 0} {left : Leaving X} (fewer : (k m n : ℕ) (a : X) → m ≤ n → HasRoom k n a → HasRoom k m a)
    (rest : (v : Verdicts) (k level p q m : ℕ) (a b : X) → left v k level p q a b → HasRoom k (4 ^ (k - level) + m) a → HasRoom k m b) {k level : ℕ} {l₀ : X} (l : level < k) (h : HasRoom k (4 ^ (k - level)) l₀) where
  -- the room of a part
  abbrev part : ℕ
  part = 4 ^ (k - (level + 1))

  four : 4 ^ (k - level) ≡ part + (part + (part + part))
  four = omega (arith, Nat.pow-suc 4 (k - (level + 1)), ap (λ n. 4 ^ n) (levels_below l))

  pub room_first : HasRoom k part l₀
  room_first = fewer k part (4 ^ (k - level)) l₀ (omega (arith, four)) h

  module _ {v : Verdicts} {p₁ q₁ : ℕ} {l₁ : X} {a : Seen} (h₁ : Examined left v k (level + 1) p₁ q₁ l₀ l₁ a) where
    room_three : HasRoom k (part + (part + part)) l₁
    room_three = rest v k (level + 1) p₁ q₁ _ l₀ l₁ h₁.leaves (subst (λ n. HasRoom k n l₀) four h)

    pub room_second : HasRoom k part l₁
    room_second = fewer k part _ l₁ (omega arith) room_three

    module _ {p₂ q₂ : ℕ} {l₂ : X} {b : Seen} (h₂ : Examined left v k (level + 1) p₂ q₂ l₁ l₂ b) where
      room_two : HasRoom k (part + part) l₂
      room_two = rest v k (level + 1) p₂ q₂ _ l₁ l₂ h₂.leaves room_three

      pub room_third : HasRoom k part l₂
      room_third = fewer k part _ l₂ (omega arith) room_two

      pub room_fourth : {p₃ q₃ : ℕ} {l₃ : X} {c : Seen} → Examined left v k (level + 1) p₃ q₃ l₂ l₃ c → HasRoom k part l₃
      room_fourth {p₃} {q₃} {l₃} h₃ = rest v k (level + 1) p₃ q₃ part l₂ l₃ h₃.leaves room_two
