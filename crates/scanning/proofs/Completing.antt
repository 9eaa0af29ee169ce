-- Whether the digits of a picture are complete: of sizes that are told no further than 2^63 nothing is lost, since no text has so many bytes.
use mathlib.Core.Path.{◌≡◌, sym, ◌∙◌, ap, ap₂}
use mathlib.Core.Bool.{Bool, false, cond, false≢true}
use mathlib.Core.List.{List}
use Prim.Native.Nat.{ℕ, ◌*◌, ◌^◌, ◌<◌, min}
use native.Mathlib.Omega.{arith}
use lib.ListN.{length, drop, length-drop}
use Rattle.algebra.proofs.Ceiling.{ceil_*}
use Rattle.std.proofs.Common.{None}
use Rattle.pbm.specs.Reading.{is_after}
use Rattle.pbm.specs.Steps.{Bits, complete, take_bits, found_in}
use Rattle.pbm.specs.Refusals.{not_plain, plain}
use Rattle.scanning.specs.Steps.{DataEnds, DataTaken, DataComplete}
use Rattle.scanning.proofs.Taking.{whole, capped}

-- ---- n digits were looked for, as many as the picture has, but not more than 2^63
module _ (text : List ℕ) (at width height : ℕ) (short : length text < 2 ^ 63) {n : ℕ} (told : n ≡ min (width * height) (2 ^ 63)) where
  looked : {t : Bits} → take_bits n (drop at text) ≡ t → (w h : ℕ) → width ≡ min w (2 ^ 63) → height ≡ min h (2 ^ 63) → take_bits (w * h) (drop at text) ≡ t
  looked d w h e f =
      let few : length (drop at text) < 2 ^ 63 = omega (arith, length-drop at text) in
      let same : n ≡ min (w * h) (2 ^ 63) = told ∙ ap₂ (λ a b. min (a * b) (2 ^ 63)) e f ∙ ceil_* (2 ^ 63) w h in
      sym (capped (2 ^ 63) (w * h) (drop at text) few) ∙ ap (λ m. take_bits m (drop at text)) (sym same) ∙ d

  pub too_few : DataTaken text at n None → DataComplete text at width height false
  too_few d = record {
    step = λ w h e f. ap (found_in w h) (looked d w h e f);
    many = λ w h e f z. absurd (false≢true z);
  }

  pub as_many : {next : ℕ} → DataEnds text at n next → {b : Bool} → b ≡ is_after (drop next text) → DataComplete text at width height b
  as_many {next} d {b} a =
      let taken : (w h : ℕ) → width ≡ min w (2 ^ 63) → height ≡ min h (2 ^ 63) → take_bits (w * h) (drop at text) ≡ complete d.bits (drop next text) = looked d.step in
      record {
        step = λ w h e f.
            ap (found_in w h) (taken w h e f)
            ∙ ap₂ (λ c bits. cond c (plain (record { width = w; height = h; bits = bits })) not_plain) (sym a) (whole (w * h) (drop at text) (taken w h e f)).first;
        many = λ w h e f z. (whole (w * h) (drop at text) (taken w h e f)).many;
      }
