-- What the promise of `write_pbm` says of an answer and of the place.
use mathlib.Core.Path.{◌≡◌, refl, sym, ◌∙◌, ap}
use mathlib.Core.List.{List, ◌++◌}
use Prim.Native.Nat.{ℕ}
use lib.ListN.{length, take, drop}
use lib.Seq.{take-append_seam, drop-append_seam}
use Rattle.page.proofs.Rows.{unless_none, unless_refused, unless_number}
use Rattle.pbm.specs.Writing.{picture_text}
use Rattle.pbm.specs.Refusals.{write_refusal}
use Rattle.pbm.proofs.Lengths.{text_long}
use Rattle.printing.specs.Answers.{printed_place, Counted, counted}
use Rattle.printing.specs.Facts.{PrintNumber, PrintRefused, PrintLeft}

pub print_number : PrintNumber
unfolding counted
print_number k raster old r now h = unless_number (λ (x : Counted). x.number) (write_refusal k (length raster) (length old)) (λ n. refl) refl h.1

pub print_refused : PrintRefused
unfolding counted printed_place
print_refused k raster old r now h n = (h.1 ∙ sym (unless_refused _ _ _ n), h.2 ∙ sym (unless_refused _ _ _ n))

-- a text before the later bytes of a place
over_left : (xs old : List ℕ) {now : List ℕ} {n : ℕ} → length xs ≡ n → now ≡ xs ++ drop (length xs) old → (take n now ≡ xs) × (drop n now ≡ drop n old)
over_left xs old {now} e p = (
  ap (λ m. take m now) (sym e) ∙ ap (take (length xs)) p ∙ take-append_seam xs _,
  ap (λ m. drop m now) (sym e) ∙ ap (drop (length xs)) p ∙ drop-append_seam xs _ ∙ ap (λ m. drop m old) e,
)

pub print_left : PrintLeft
unfolding counted printed_place
print_left k raster old r now h e =
    let left = over_left (picture_text k raster) old (text_long k raster) (h.2 ∙ sym (unless_none _ _ _ e)) in
    (h.1 ∙ sym (unless_none _ _ _ e) ∙ ap (λ n. record { number = 0; bytes = n }) (text_long k raster), left.0, left.1)
