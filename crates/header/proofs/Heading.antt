-- What stands before the digits, one thing after the other: `P1`, the two sizes, and what opens the digits.
use mathlib.Core.Path.{◌≡◌, sym, ◌∙◌, ap}
use mathlib.Core.Bool.{Bool, true, false, cond, false≢true}
use mathlib.Core.List.{List, [], ◌∷◌}
use Prim.Native.Nat.{ℕ, ◌≤◌}
use native.Mathlib.Omega.{arith}
use lib.ListN.{length, drop}
use Rattle.std.proofs.Common.{None}
use Rattle.pbm.specs.Refusals.{not_plain}
use Rattle.pbm.specs.Steps.{size_then, is_magic, after_opening, after_height, after_width, found}
use Rattle.header.specs.declared.Size.{Size}
use Rattle.header.specs.Steps.{OpenedTo, Opened, SizeRead, SizeTaken, HeadRead, HeadTaken}

pub magic_long : (text : List ℕ) → is_magic text ≡ true → 2 ≤ length text
magic_long [] e = absurd (false≢true e)
magic_long (p ∷ []) e = absurd (false≢true e)
magic_long (p ∷ n ∷ text) e = omega arith

by_magic : (text : List ℕ) {m : Bool} → is_magic text ≡ m → found text ≡ cond m (size_then (drop 2 text) after_width) not_plain
unfolding found
by_magic text e = ap (λ m. cond m (size_then (drop 2 text) after_width) not_plain) e

-- ---- thing after thing: each is missing, or the next decides
module _ (text : List ℕ) {m : Bool} (e : m ≡ is_magic text) where
  pub head_other : m ≡ false → HeadTaken text None
  head_other f = by_magic text (sym e ∙ f)

  module _ (f : m ≡ true) where
    pub head_no_width : SizeTaken text 2 None → HeadTaken text None
    head_no_width w = by_magic text (sym e ∙ f) ∙ w after_width

    module _ {wide : Size} (w : SizeRead text 2 wide) where
      by_width : found text ≡ after_width w.exact (drop wide.next text)
      by_width = by_magic text (sym e ∙ f) ∙ w.step after_width

      pub head_no_height : SizeTaken text wide.next None → HeadTaken text None
      head_no_height h = by_width ∙ h (after_height w.exact)

      module _ {high : Size} (h : SizeRead text wide.next high) where
        by_height : found text ≡ after_height w.exact h.exact (drop high.next text)
        by_height = by_width ∙ h.step (after_height w.exact)

        pub head_unopened : Opened text high.next None → HeadTaken text None
        head_unopened o = by_height ∙ o (after_opening w.exact h.exact)

        pub head_read : {next : ℕ} → OpenedTo text high.next next → HeadRead text (record { width = wide.value; height = high.value; next = next })
        head_read o = record {
          wide = w.exact;
          high = h.exact;
          step = by_height ∙ o.step (after_opening w.exact h.exact);
          width_told = w.told;
          height_told = h.told;
          width_positive = w.positive;
          height_positive = h.positive;
          within = o.within;
        }
