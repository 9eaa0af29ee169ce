-- What is written of a raster is the plain PBM of a picture of its depth, whose mask is the raster's.
use mathlib.Core.Path.{◌≡◌, refl, sym, ◌∙◌, ap, ap₂}
use mathlib.Core.Bool.{◌||◌}
use mathlib.Core.List.{List, [], ◌∷◌, ◌++◌, map, append_assoc}
use Prim.Native.Nat.{ℕ, zero, suc, ◌+◌, ◌*◌, ◌-◌, ◌^◌, ◌≤◌}
use native.Mathlib.Omega.{arith}
use lib.ListN.{length, get_or}
use lib.Pow.{pow_pos}
use Rattle.algebra.specs.Sum.{run, span, ◌⋯◌}
use Rattle.algebra.proofs.Power.{*_pow}
use Rattle.verdicts.specs.Walking.{those}
use Rattle.page.specs.ListingText.{decimal}
use Rattle.pbm.specs.Writing.{bit, head_text, digit, picture_text, raster_mask}
use Rattle.pbm.specs.Reading.{is_white, is_bit, white, last, Parts, plain_text, bits_in, ArePlain, Picture, picture_of, mask, bits_of}
use Rattle.pbm.specs.Refusals.{has_side, depths}
use Rattle.pbm.specs.Facts.{WrittenReturns}
use Rattle.pbm.proofs.Sides.{amount_decimal, decimal_size}
use Rattle.pbm.proofs.Masks.{table, table_long, table_flat, map_first, mask_turned}
use Rattle.pbm.proofs.Digits.{each_left, bits_LF, rows_bits, rows_alone, before_last, rows_end, digit_bit}

-- ---- a picture with 2^k columns and rows has the depth k
sides : (k : ℕ) → k ≤ 7 → those (has_side (2 ^ k) (2 ^ k)) (0 ⋯ 7) ≡ k ∷ []
unfolding those run span ◌⋯◌
sides zero h = refl
sides (suc zero) h = refl
sides (suc (suc zero)) h = refl
sides (suc (suc (suc zero))) h = refl
sides (suc (suc (suc (suc zero)))) h = refl
sides (suc (suc (suc (suc (suc zero))))) h = refl
sides (suc (suc (suc (suc (suc (suc zero)))))) h = refl
sides (suc (suc (suc (suc (suc (suc (suc zero))))))) h = refl
sides (suc (suc (suc (suc (suc (suc (suc (suc k)))))))) h = absurd (omega arith)

pub deep_side : (k : ℕ) (P : Picture) → k ≤ 7 → P.width ≡ 2 ^ k → P.height ≡ 2 ^ k → depths P ≡ k ∷ []
unfolding depths
deep_side k P h w e = rw (w, e) (sides k h)

-- ---- the text, joined in two ways
regroup : (w h d e : List ℕ) → (80 ∷ 49 ∷ 10 ∷ w ++ (32 ∷ h ++ (10 ∷ []))) ++ (d ++ e) ≡ 80 ∷ 49 ∷ (10 ∷ []) ++ w ++ (32 ∷ []) ++ h ++ (10 ∷ []) ++ d ++ e
regroup w h d e = simp append_assoc

-- ---- the parts of the text: one LF after `P1`, one space between the sizes, an LF that opens the digits, and an LF after the last
module _ (k : ℕ) (raster : List ℕ) where
  abbrev parts : Parts
  parts = record {
    before_width = last (white 10);
    width = decimal (2 ^ k);
    before_height = last (white 32);
    height = decimal (2 ^ k);
    opening = white 10;
    digits = before_last k raster;
    last_digit = digit (2 ^ k) raster 0 (2 ^ k - 1);
    after = 10 ∷ [];
  }

  made : picture_text k raster ≡ plain_text parts
  unfolding picture_text head_text plain_text
  made = ap (λ l. head_text (2 ^ k) ++ l) (rows_end k raster) ∙ regroup (decimal (2 ^ k)) (decimal (2 ^ k)) (before_last k raster) (digit (2 ^ k) raster 0 (2 ^ k - 1) ∷ 10 ∷ [])

  -- its bits are those of the raster, the top row first
  bits_are : bits_in parts ≡ table (2 ^ k) (2 ^ k) (λ n p. bit (get_or raster ((2 ^ k - 1 - n) * 2 ^ k + p) 0))
  unfolding bits_in
  bits_are = sym (bits_LF (before_last k raster) (digit (2 ^ k) raster 0 (2 ^ k - 1))) ∙ ap bits_of (sym (rows_end k raster)) ∙ rows_bits k raster

  are_plain : ArePlain parts
  are_plain = record {
    width_parted = refl;
    width_written = decimal_size (2 ^ k) (pow_pos k);
    height_parted = refl;
    height_written = decimal_size (2 ^ k) (pow_pos k);
    opened = refl;
    digits_alone = each_left (λ b. is_white b || is_bit b) (before_last k raster) _ (rw (rows_end k raster) at (rows_alone k raster));
    ends_in_digit = digit_bit k raster 0 (2 ^ k - 1);
    complete = ap length bits_are ∙ table_long (2 ^ k) _ (2 ^ k) ∙ sym (ap₂ ◌*◌ (amount_decimal (2 ^ k)) (amount_decimal (2 ^ k)));
    followed = refl;
  }

  -- its mask is the raster's: the rows are turned twice
  masks : 4 ^ k ≤ length raster → mask (2 ^ k) (bits_in parts) ≡ raster_mask k raster
  unfolding raster_mask
  masks h =
      ap (mask (2 ^ k)) bits_are ∙ mask_turned (2 ^ k) (λ q p. bit (get_or raster (q * 2 ^ k + p) 0)) ∙ table_flat (λ i. bit (get_or raster i 0)) (2 ^ k) (2 ^ k)
      ∙ ap (λ n. map (λ i. bit (get_or raster i 0)) (span 0 n)) (sym (*_pow 2 2 k)) ∙ map_first bit raster (4 ^ k) h

pub written_returns : WrittenReturns
written_returns k raster h l = record {
  picture = picture_of (parts k raster);
  plain = record { parts = parts k raster; plain = are_plain k raster; made = made k raster; told = refl };
  deep = deep_side k (picture_of (parts k raster)) h (amount_decimal (2 ^ k)) (amount_decimal (2 ^ k));
  same = ap (λ s. mask s (bits_in (parts k raster))) (amount_decimal (2 ^ k)) ∙ masks k raster l;
}
