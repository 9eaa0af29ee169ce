-- What `read_pbm` comes to, by what it has found: no picture; a picture of no depth; one of depth k, whose mask is longer than the place, or stands in it.
use mathlib.Core.Path.{◌≡◌, sym, ◌∙◌, ap, ap₂}
use mathlib.Core.List.{List, ◌++◌}
use Prim.Native.Nat.{ℕ, ◌+◌, ◌*◌, ◌^◌, ◌≤◌, ◌<◌}
use native.Mathlib.Nat as Nat
use native.Mathlib.Omega.{arith}
use lib.ListN.{length, take, drop}
use lib.Pow.{pow_mono}
use lib.Seq.{sets, sets-eq}
use Rattle.std.proofs.Common.{Option, None, Some, Result, Ok, Err}
use Rattle.std.specs.Option.{ok_or}
use Rattle.page.specs.declared.Refusal.{Refusal}
use Rattle.page.specs.declared.Refusal.TheVariants.{NotPlain, Sides, Place}
use Rattle.page.specs.Numbers.{by_number}
use Rattle.pbm.specs.Reading.{Picture, mask}
use Rattle.pbm.specs.Refusals.{not_plain, plain, picture_mask}
use Rattle.pbm.specs.Steps.{found}
use Rattle.pbm.proofs.Masks.{table, table_long}
use Rattle.header.specs.declared.Head.{Head}
use Rattle.scanning.specs.Promises.{ScanPromise}
use Rattle.scanning.specs.Steps.{bits_ahead, depth_at, picture_at, PictureRead}
use Rattle.scanning.proofs.Depths.{depth_told, no_depth, Deep, has_depth}
use Rattle.scanning.proofs.Masking.{mask_first}
use Rattle.scanning.proofs.Promises.{row_12, row_13, row_7, no_row, refused, done, as_found}

-- ---- the refusal that is put where there is no value
abbrev refuse : {X : Type 0} → Refusal → Result X Refusal
refuse e = Err e

pub put_in : {X : Type 0} (o : Option X) {e n : Refusal} → o ≡ None → refuse e ≡ ok_or o n → e ≡ n
put_in None z v = cc
put_in (Some x) z v = absurd (cc)

-- a mask has a byte for each of its cells
mask_long : (side : ℕ) (bits : List ℕ) → length (mask side bits) ≡ side * side
unfolding mask table
mask_long side bits = table_long side _ side

-- a mask of depth 7 or less is not longer than 16,384
pub mask_small : (k : ℕ) → k ≤ 7 → 2 ^ k * 2 ^ k ≤ 16_384
mask_small k h = let l : 2 ^ k ≤ 128 = pow_mono h in Nat.mul-le-mul {n₁ = 2 ^ k} {m₁ = 2 ^ k} {n₂ = 128} {m₂ = 128} l l

module _ (text old : List ℕ) where
  pub no_picture_read : found text ≡ not_plain → ScanPromise text old (Err NotPlain) old
  unfolding by_number
  no_picture_read e = as_found text old e (refused not_plain old (row_12 (length old)) (λ z. omega arith))

  module _ {head : Head} (p : PictureRead text head) where
    abbrev P : Picture
    P = picture_at text head.next p.wide p.high

    exact : depth_at head.width head.height ≡ depth_at p.wide p.high
    exact = ap₂ depth_at p.width_told p.height_told ∙ depth_told p.wide p.high

    pub no_depth_read : None ≡ depth_at head.width head.height → ScanPromise text old (Err Sides) old
    unfolding by_number
    no_depth_read e = as_found text old p.step (refused (plain P) old (row_13 P (length old) (no_depth P (sym exact ∙ sym e))) (λ z. omega arith))

    module _ {k : ℕ} (d : Some k ≡ depth_at head.width head.height) where
      deep : Deep P k
      deep = has_depth P (sym exact ∙ sym d)

      pub depth_small : k ≤ 7
      depth_small = deep.small

      square : p.wide * p.high ≡ 2 ^ k * 2 ^ k
      square = ap₂ ◌*◌ deep.wide deep.high

      -- the digits of all rows are ahead
      pub digits_ahead : 2 ^ k * 2 ^ k ≤ length (bits_ahead (drop head.next text))
      digits_ahead = rw square at p.many

      mask_is : picture_mask P ≡ mask (2 ^ k) (bits_ahead (drop head.next text))
      mask_is =
          let bits : List ℕ = bits_ahead (drop head.next text) in
          ap₂ (λ s n. mask s (take n bits)) deep.wide square ∙ mask_first (2 ^ k) bits

      long : length (picture_mask P) ≡ 2 ^ k * 2 ^ k
      long = ap length mask_is ∙ mask_long (2 ^ k) (bits_ahead (drop head.next text))

      pub short_read : length old < 2 ^ k * 2 ^ k → ScanPromise text old (Err Place) old
      unfolding by_number
      short_read h = as_found text old p.step (refused (plain P) old (row_7 P (length old) deep.some (rw long h)) (λ z. omega arith))

      pub mask_read : 2 ^ k * 2 ^ k ≤ length old → {now : List ℕ} → now ≡ sets old 0 (mask (2 ^ k) (bits_ahead (drop head.next text))) → ScanPromise text old (Ok k) now
      mask_read h {now} w =
          let M : List ℕ = picture_mask P in
          let all : 0 + length M ≡ length M = Nat.zero-add (length M) in
          as_found text old p.step (done (plain P) old (no_row P (length old) deep.some (rw long h)) deep.depth
          (w ∙ ap (sets old 0) (sym mask_is) ∙ sets-eq M old 0 (rw (all, long) h) ∙ ap (λ m. M ++ drop m old) all))
