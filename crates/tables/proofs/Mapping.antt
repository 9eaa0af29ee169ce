-- A table from the first place on, changed row by row: each row may be changed, and is set.
use mathlib.Core.Path.{◌≡◌, ◌∙◌, ap, subst}
use mathlib.Core.List.{List}
use Prim.Native.Nat.{ℕ, ◌+◌, ◌-◌, ◌≤◌, ◌<◌}
use native.Mathlib.Nat as Nat
use native.Mathlib.Omega.{arith}
use lib.IntN.{ℤ}
use lib.ListN.{length}
use Rattle.algebra.specs.Triangle.{place}
use Rattle.algebra.proofs.Places.{places_45}
use Rattle.tables.specs.Table.{at, held}
use Rattle.tables.specs.Scaling.{RowMapped, Mapped}
use Rattle.tables.proofs.Setting.{Setting, setting_start, setting_inside, setting_old, setting_next, setting_end}

-- of each place of the rows before i R is said, by what stood there, and all else is as it was
pub record Mapping (d : ℕ) (R : ℕ → ℕ → ℤ → ℤ → Type 0) (old places : List ℤ) (first i : ℕ) : Type 0 where
  pub setting : Setting 0 d (λ a b z. R a b (held old d a b) z) old places first i

module _ {d : ℕ} {R : ℕ → ℕ → ℤ → ℤ → Type 0} {old : List ℤ} where
  pub mapping_start : Mapping d R old old 0 0
  mapping_start = record { setting = setting_start }

  module _ {places : List ℤ} {first i : ℕ} (p : Mapping d R old places first i) where
    -- the next row lies inside, and is as it was
    pub mapping_inside : i ≤ d → length old ≡ 45 → d ≤ 8 → first + (d - i) < length places
    mapping_inside h l s = let r = places_45 d s in setting_inside h (omega arith) p.setting

    pub mapping_old : (b : ℕ) → at places (first + b) ≡ held old d i b
    mapping_old b = setting_old p.setting b ∙ ap (at old) (Nat.zero-add (place d i b))

    -- one row more
    pub mapping_next : {new : List ℤ} → i ≤ d → RowMapped first (d - i) (R i) places new → Mapping d R old new (first + (d + 1 - i)) (i + 1)
    mapping_next {new} h r = record {
      setting = setting_next h
          (record { long = r.long; row = λ b l. subst (λ x. R i b x (at new (first + b))) (mapping_old b) (r.row b l); before = r.before; after = r.after })
          p.setting;
    }

    -- past the last row
    pub mapping_end : d < i → length old ≡ 45 → Mapped d R old places
    mapping_end h l = let e = setting_end h p.setting in record {
      long = p.setting.long ∙ l;
      each = λ a b m. subst (λ n. R a b (held old d a b) (at places n)) (Nat.zero-add (place d a b)) (e.0 a b m);
      rest = λ n m. e.2 n (omega arith);
    }
