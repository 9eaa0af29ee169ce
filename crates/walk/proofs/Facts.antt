-- What the promises say of an answer and of the place that a call leaves.
use mathlib.Core.Path.{◌≡◌, refl, sym, ◌∙◌, ap}
use mathlib.Core.List.{List, [], ◌∷◌, ◌++◌}
use Prim.Native.Nat.{ℕ, ◌+◌, ◌*◌, ◌^◌, ◌≤◌}
use native.Mathlib.Nat as Nat
use native.Mathlib.Omega.{arith}
use lib.ListN.{length, get_or, drop, get_or-append}
use lib.Seq.{take-append_seam}
use Rattle.verdicts.specs.Walking.{raster, records, largest_bend}
use Rattle.verdicts.proofs.Lengths.{raster_long, listing_long}
use Rattle.verdicts.proofs.Bytes.{byte_below, raster_byte}
use Rattle.verdicts.proofs.Records.{same_story, one_record_each}
use Rattle.page.specs.Sheet.{Sheet, mode_of}
use Rattle.page.specs.Refusals.{refusal, to_walk}
use Rattle.page.proofs.Rows.{unless_none, unless_refused, unless_number, walk_passed}
use Rattle.page.proofs.Raster.{white_signed, coloured_meets}
use Rattle.page.proofs.Cover.{curve_covered}
use Rattle.page.proofs.Label.{sheet_labelled, labelled_by}
use Rattle.walk.specs.Answers.{verdicts, rastered, recorded, Reckoned, states_tally, reckoned, states_listing, Enumerated, enumerated}
use Rattle.walk.specs.Facts.{RasterNumber, ListingNumber, RasterZeros, ListingZeros, PrintedByte, PrintedSigned, PrintedMeets, PrintedCurve, PrintedLabel, WrittenRecords, ListedColour, ListedSigned, ListedMeets, ListedCurve, ListedLabel, RefusedUnchanged, LaterUnchanged}
use Rattle.walk.proofs.Whole.{room, over_length, over_later}

-- ---- the number, and zeros beside it
pub raster_number : RasterNumber
unfolding reckoned
raster_number S mode old r now h = unless_number (λ (x : Reckoned). x.number) (refusal (to_walk S mode (length old))) (λ n. refl) refl h.1

pub listing_number : ListingNumber
unfolding enumerated
listing_number S mode old r now h = unless_number (λ (x : Enumerated). x.number) (refusal (to_walk S mode (length old))) (λ n. refl) refl h.1

pub raster_zeros : RasterZeros
unfolding reckoned
raster_zeros S mode old r now h n = h.1 ∙ sym (unless_refused _ _ _ n)

pub listing_zeros : ListingZeros
unfolding enumerated
listing_zeros S mode old r now h n = h.1 ∙ sym (unless_refused _ _ _ n)

-- ---- the places where nothing is refused
module _ (S : Sheet) (mode : ℕ) (old : List ℕ) (e : refusal (to_walk S mode (length old)) ≡ 0) where
  raster_place : rastered S mode old ≡ raster (verdicts S mode) S.k ++ drop (4 ^ S.k) old
  unfolding rastered
  raster_place = sym (unless_none _ _ _ e)

  listing_place : recorded S mode old ≡ records (verdicts S mode) S.k ++ drop (length (records (verdicts S mode) S.k)) old
  unfolding recorded
  listing_place = sym (unless_none _ _ _ e)

  -- there is room for the listing
  listing_room : length (records (verdicts S mode) S.k) ≤ length old
  listing_room = Nat.le_trans (listing_long (verdicts S mode) S.k).2 (room S mode (length old) e)

-- ---- the bytes of the raster
pub printed_byte : PrintedByte
printed_byte S mode old r now h e p q a b =
    let v = verdicts S mode in
    ap (λ l. get_or l (q * 2 ^ S.k + p) 0) (h.2 ∙ raster_place S mode old e)
    ∙ get_or-append (raster v S.k) (drop (4 ^ S.k) old) 0 (q * 2 ^ S.k + p) (omega (arith, raster_long v S.k, byte_below S.k p q a b))
    ∙ raster_byte v S.k p q a b

pub printed_signed : PrintedSigned
printed_signed S mode old r now h e p q a b = rw (printed_byte S mode old r now h e p q a b) (white_signed S (mode_of mode) p q)

pub printed_meets : PrintedMeets
printed_meets S mode old r now h e p q a b = rw (printed_byte S mode old r now h e p q a b) (coloured_meets S (mode_of mode) p q)

pub printed_curve : PrintedCurve
printed_curve S mode old r now h e M N Q o i z =
    let (c, one) = curve_covered S (mode_of mode) M N Q o i z in
    (c, printed_byte S mode old r now h e c.column c.row c.is_cell.column c.is_cell.row ∙ one)

pub printed_label : PrintedLabel
unfolding reckoned
printed_label S mode old r now h e =
    let b : (states_tally r).bend ≡ largest_bend (verdicts S mode) S.k = ap (λ t. t.bend) (h.1 ∙ sym (unless_none _ _ _ e)) in
    labelled_by (λ p q x y z. printed_byte S mode old r now h e p q x y ∙ z) (λ p q x y z. sym (printed_byte S mode old r now h e p q x y) ∙ z) (sym b) (sheet_labelled S (mode_of mode))

-- ---- the records
pub written_records : WrittenRecords
unfolding enumerated
written_records S mode old r now h e =
    let v = verdicts S mode in let xs = records v S.k in let depth = (walk_passed S mode (length old) e).0.ranges.depth in
    let l : (states_listing r).length ≡ length xs = ap (λ t. t.length) (h.1 ∙ sym (unless_none _ _ _ e)) in
    (l, rw (l, h.2 ∙ listing_place S mode old e, take-append_seam xs (drop (length xs) old)) (same_story v S.k depth))

-- one record for each finest cell
pub listed_colour : ListedColour
listed_colour S mode old r now h e p q a b =
    let v = verdicts S mode in let xs = records v S.k in
    rw ((written_records S mode old r now h e).0, h.2 ∙ listing_place S mode old e, take-append_seam xs (drop (length xs) old)) (one_record_each v S.k p q (walk_passed S mode (length old) e).0.ranges.depth a b)

head_is : {m n : ℕ} → m ∷ [] ≡ n ∷ [] → m ≡ n
head_is z = ap (λ l. get_or l 0 0) z

pub listed_signed : ListedSigned
listed_signed S mode old r now h e p q a b M N Q o i =
    let s = white_signed S (mode_of mode) p q M N Q o i in let c = listed_colour S mode old r now h e p q a b in
    (λ z. s.0 (head_is (sym c ∙ z)), λ z. s.1 (head_is (sym c ∙ z)))

pub listed_meets : ListedMeets
listed_meets S mode old r now h e p q a b z = coloured_meets S (mode_of mode) p q (head_is (sym (listed_colour S mode old r now h e p q a b) ∙ z))

pub listed_curve : ListedCurve
listed_curve S mode old r now h e M N Q o i z =
    let (c, one) = curve_covered S (mode_of mode) M N Q o i z in
    (c, listed_colour S mode old r now h e c.column c.row c.is_cell.column c.is_cell.row ∙ ap (λ n. n ∷ []) one)

pub listed_label : ListedLabel
unfolding enumerated
listed_label S mode old r now h e =
    let b : (states_listing r).bend ≡ largest_bend (verdicts S mode) S.k = ap (λ t. t.bend) (h.1 ∙ sym (unless_none _ _ _ e)) in
    labelled_by (λ p q x y z. listed_colour S mode old r now h e p q x y ∙ ap (λ n. n ∷ []) z) (λ p q x y z. head_is (sym (listed_colour S mode old r now h e p q x y) ∙ z)) (sym b) (sheet_labelled S (mode_of mode))

-- ---- what stays as it was
pub refused_unchanged : RefusedUnchanged
unfolding rastered recorded
refused_unchanged S mode old now n = (λ r h. h.2 ∙ sym (unless_refused _ _ _ n), λ r h. h.2 ∙ sym (unless_refused _ _ _ n))

pub later_unchanged : LaterUnchanged
later_unchanged S mode old now e =
    let v = verdicts S mode in
    let long = raster_long v S.k in (
      λ r h. rw (h.2 ∙ raster_place S mode old e) (over_length (raster v S.k) old long (room S mode (length old) e), over_later (raster v S.k) old long),
      λ r h. rw (h.2 ∙ listing_place S mode old e) (over_length (records v S.k) old refl (listing_room S mode old e), over_later (records v S.k) old refl),
    )
