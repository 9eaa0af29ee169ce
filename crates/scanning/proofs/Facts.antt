-- What the promise of `read_pbm` says of an answer and of the place.
use mathlib.Core.Path.{refl, sym, ◌∙◌, ap}
use lib.ListN.{length, take, drop}
use lib.Seq.{take-append_seam, drop-append_seam}
use Rattle.page.proofs.Rows.{unless_none, unless_refused, unless_number}
use Rattle.pbm.specs.Refusals.{read_refusal, mask_in}
use Rattle.scanning.specs.Answers.{scanned_place, Sized, sized}
use Rattle.scanning.specs.Facts.{ScanNumber, ScanRefused, ScanLeft}

pub scan_number : ScanNumber
unfolding sized
scan_number text old r now h f g = unless_number (λ (x : Sized). x.number) (read_refusal f (length old)) (λ n. refl) refl (h f g).1

pub scan_refused : ScanRefused
unfolding sized scanned_place
scan_refused text old r now h f g n = ((h f g).1 ∙ sym (unless_refused _ _ _ n), (h f g).2 ∙ sym (unless_refused _ _ _ n))

pub scan_left : ScanLeft
unfolding sized scanned_place
scan_left text old r now h f g e =
    let p = (h f g).2 ∙ sym (unless_none _ _ _ e) in
    ((h f g).1 ∙ sym (unless_none _ _ _ e), ap (take (length (mask_in f))) p ∙ take-append_seam (mask_in f) _, ap (drop (length (mask_in f))) p ∙ drop-append_seam (mask_in f) _)
