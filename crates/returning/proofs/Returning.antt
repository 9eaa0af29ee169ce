-- Writing then reading: the text that was written is read as the plain PBM that it is.
use mathlib.Core.Path.{◌≡◌, refl, sym, ◌∙◌, ap, ap₂, subst}
use mathlib.Core.Bool.{cond}
use mathlib.Core.List.{List, ◌++◌}
use Prim.Native.Nat.{ℕ, zero, suc, ◌^◌, ◌≤◌, ◌<◌}
use borrow.Author.Tests.{lt-ltb, le-ltb}
use lib.Dec.{ltb}
use lib.ListN.{length, get_or, take, drop, length-map}
use lib.Seq.{take_at, length-take-le}
use Rattle.std.proofs.Common.{Result, Ok, Err}
use Rattle.page.specs.declared.Refusal.{Refusal}
use Rattle.page.specs.declared.Refusal.TheVariants.{Place}
use Rattle.page.specs.Refusals.{first, unless}
use Rattle.page.specs.Numbers.{by_number}
use Rattle.page.proofs.Rows.{unless_none}
use Rattle.pbm.specs.Writing.{bit, picture_text, raster_mask}
use Rattle.pbm.specs.Reading.{Picture, IsPlain}
use Rattle.pbm.specs.Refusals.{write_refusal, plain, depths, picture_mask, read_table, read_refusal}
use Rattle.pbm.specs.Facts.{Returned}
use Rattle.pbm.proofs.Returning.{written_returns}
use Rattle.printing.specs.Answers.{printed, printed_place}
use Rattle.printing.specs.Promises.{PrintPromise}
use Rattle.printing.proofs.Refusing.{Passed, passed}
use Rattle.scanning.specs.Answers.{scanned, scanned_place}
use Rattle.scanning.specs.Promises.{ScanPromise}
use Rattle.returning.specs.Returning.{WriteThenRead, WrittenRefused}

-- ---- where bytes were written nothing was refused, and they are the text
abbrev refuses : ℕ → Result ℕ Refusal
refuses n = Err (by_number n)

abbrev answers : ℕ → Result ℕ Refusal
answers n = Ok n

by_row : (m : ℕ) {n l : ℕ} → Ok n ≡ unless m refuses (Ok l) → (m ≡ 0) × (n ≡ l)
by_row zero e = (refl, cc)
by_row (suc m) e = absurd (cc)

module _ (k : ℕ) (raster old : List ℕ) {n : ℕ} {now : List ℕ} (p : PrintPromise k raster old (Ok n) now) where
  told : (write_refusal k (length raster) (length old) ≡ 0) × (n ≡ length (picture_text k raster))
  unfolding printed
  told = by_row (write_refusal k (length raster) (length old)) p.0

  fits : Passed k (length raster) (length old)
  fits = passed k (length raster) (length old) told.0

  left : now ≡ picture_text k raster ++ drop (length (picture_text k raster)) old
  unfolding printed_place
  left = p.2 ∙ sym (unless_none (λ n. old) _ _ told.0)

  text_is : take n now ≡ picture_text k raster
  text_is = ap₂ take told.1 left ∙ take_at (picture_text k raster) _ _ refl

  -- ---- so what is read is its picture
  back : Returned k raster
  back = written_returns k raster fits.depth fits.whole

  abbrev picture : Picture
  picture = back.picture

  mask_long : length (picture_mask picture) ≡ 4 ^ k
  unfolding raster_mask
  mask_long = ap length back.same ∙ length-map (take (4 ^ k) raster) bit ∙ length-take-le (4 ^ k) raster fits.whole

  -- refused by 7 alone
  number : (n : ℕ) → read_refusal (plain picture) n ≡ cond (ltb n (4 ^ k)) 7 0
  unfolding read_table first
  number n = rw (back.deep, mask_long)

  module _ (place : List ℕ) {r : Result ℕ Refusal} {after : List ℕ} (q : ScanPromise (take n now) place r after) where
    read : (r ≡ scanned (plain picture) (length place)) × (after ≡ scanned_place (plain picture) place)
    read = let s = q (plain picture) (subst (λ t. IsPlain t picture) (sym text_is) back.plain) in (s.0, s.2)

    accepted : 4 ^ k ≤ length place → (r ≡ Ok k) × (after ≡ raster_mask k raster ++ drop (4 ^ k) place)
    unfolding scanned scanned_place
    accepted h =
        let z : read_refusal (plain picture) (length place) ≡ 0 = number (length place) ∙ rw (le-ltb (length place) (4 ^ k) h) in (
          read.0 ∙ sym (unless_none refuses _ _ z) ∙ ap (λ ks. answers (get_or ks 0 0)) back.deep,
          read.1 ∙ sym (unless_none (λ n. place) _ _ z) ∙ ap₂ (λ m l. m ++ drop l place) back.same mask_long,
        )

    short : length place < 4 ^ k → (r ≡ Err Place) × (after ≡ place)
    unfolding scanned scanned_place by_number
    short h =
        let z : read_refusal (plain picture) (length place) ≡ 7 = number (length place) ∙ rw (lt-ltb (length place) (4 ^ k) h) in (
          read.0 ∙ ap (λ n. unless n refuses (answers (get_or (depths picture) 0 0))) z,
          read.1 ∙ ap (λ n. unless n (λ n. place) (picture_mask picture ++ drop (length (picture_mask picture)) place)) z,
        )

pub write_then_read : WriteThenRead
write_then_read k raster old n now p place r after q h = accepted k raster old p place q h

pub written_refused : WrittenRefused
written_refused k raster old n now p place r after q h = short k raster old p place q h
