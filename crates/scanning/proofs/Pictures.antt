-- What `picture_in` finds after the head: the digits, or that the text is no plain PBM.
use mathlib.Core.Path.{◌≡◌, ◌∙◌}
use mathlib.Core.Bool.{Bool, true, false, cond}
use mathlib.Core.List.{List}
use Prim.Native.Nat.{ℕ}
use Rattle.std.proofs.Common.{None}
use Rattle.pbm.specs.Refusals.{not_plain, plain}
use Rattle.pbm.specs.Steps.{found}
use Rattle.header.specs.declared.Head.{Head}
use Rattle.header.specs.Steps.{HeadRead}
use Rattle.scanning.specs.Steps.{picture_at, DataComplete, PictureRead, PictureFound}

module _ {text : List ℕ} {head : Head} (h : HeadRead text head) {b : Bool} (d : DataComplete text head.next head.width head.height b) where
  by_digits : found text ≡ cond b (plain (picture_at text head.next h.wide h.high)) not_plain
  by_digits = h.step ∙ d.step h.wide h.high h.width_told h.height_told

  pub no_digits_found : b ≡ false → PictureFound text None
  no_digits_found e = by_digits ∙ rw e

  pub all_found : b ≡ true → PictureRead text head
  all_found e = record {
    wide = h.wide;
    high = h.high;
    step = by_digits ∙ rw e;
    many = d.many h.wide h.high h.width_told h.height_told e;
    width_told = h.width_told;
    height_told = h.height_told;
  }
