-- The picture of an accepted text: its raster, and what is written of it.
use mathlib.Core.Path.{◌≡◌, sym, ◌∙◌, ap, subst}
use mathlib.Core.List.{List, ◌++◌}
use Prim.Native.Nat.{ℕ, zero, suc, ◌^◌, ◌≤◌}
use native.Mathlib.Omega.{arith}
use lib.ListN.{length, take, drop, length-append}
use lib.Seq.{take_at}
use Rattle.verdicts.specs.Walking.{raster}
use Rattle.verdicts.proofs.Lengths.{raster_long}
use Rattle.page.specs.Sheet.{count, sheet_of}
use Rattle.page.specs.Refusals.{refusal}
use Rattle.page.specs.SheetText.{Said, sheet_in, to_read, accepted}
use Rattle.page.specs.ListingText.{digits_within, decimal}
use Rattle.page.proofs.Rows.{unless_none}
use Rattle.pbm.specs.Writing.{picture_text, text_length}
use Rattle.pbm.specs.Refusals.{write_refusal}
use Rattle.pbm.specs.PictureText.{picture_after}
use Rattle.pbm.proofs.Lengths.{text_long}
use Rattle.std.specs.Prelude.{Result, Ok, Err}
use Rattle.page.specs.declared.Refusal.{Refusal}
use Rattle.printing.specs.Answers.{printed, printed_place, states_printing}
use Rattle.printing.specs.Promises.{PrintPromise}
use Rattle.printing.proofs.Refusing.{passes}
use Rattle.reading.specs.declared.Sheet.{Sheet}
use Rattle.reading.specs.Answers.{whole}
use Rattle.marks.specs.declared.Seen.{Seen}
use Rattle.walk.specs.Answers.{rastered}
use Rattle.walk.specs.Promises.{RasterPromise}
use Rattle.writing.specs.Steps.{Put}
use Rattle.writing.proofs.Puts.{over_put}
use Rattle.reply.specs.Answers.{picture_room}
use Rattle.reply.specs.Steps.{FromText}
use Rattle.reply.proofs.Telling.{of_said, depth, walks, seen}

-- ---- the room is enough for every depth
text_short : (k : ℕ) → k ≤ 7 → text_length k ≤ picture_room
unfolding text_length decimal digits_within
text_short zero h = omega arith
text_short (suc zero) h = omega arith
text_short (suc (suc zero)) h = omega arith
text_short (suc (suc (suc zero))) h = omega arith
text_short (suc (suc (suc (suc zero)))) h = omega arith
text_short (suc (suc (suc (suc (suc zero))))) h = omega arith
text_short (suc (suc (suc (suc (suc (suc zero)))))) h = omega arith
text_short (suc (suc (suc (suc (suc (suc (suc zero))))))) h = omega arith
text_short (suc (suc (suc (suc (suc (suc (suc (suc k)))))))) h = absurd (omega arith)

-- ---- the raster that is painted is the one that the text says
pub painted_from : {sheet : Sheet} (w : Said) → sheet ≡ whole w → (old : List ℕ) {now : List ℕ} {r : Result Seen Refusal}
    → RasterPromise (sheet_of sheet.d (take (count sheet.d) sheet.coefficients) sheet.x sheet.y sheet.s sheet.k) sheet.mode old r now → RasterPromise (sheet_in w) w.mode old r now
painted_from w e old {now} {r} p = of_said (λ S mode. RasterPromise S mode old r now) w e p

module _ (w : Said) (passed : refusal (to_read w) ≡ 0) where
  abbrev pub cells : List ℕ
  cells = raster (seen w passed) w.k

  -- ---- the raster stands at the beginning of a place of 16,384 bytes
  module _ (old : List ℕ) {now : List ℕ} (long : length old ≡ 16_384) {r : Result Seen Refusal} (p : RasterPromise (sheet_in w) w.mode old r now) where
    left : now ≡ cells ++ drop (4 ^ w.k) old
    unfolding rastered
    left = p.2 ∙ sym (unless_none (λ n. old) _ _ (walks w passed long))

    pub first_cells : take (4 ^ w.k) now ≡ cells
    first_cells = ap (take (4 ^ w.k)) left ∙ take_at cells (drop (4 ^ w.k) old) (4 ^ w.k) (raster_long (seen w passed) w.k)

    pub cells_within : 4 ^ w.k ≤ length now
    cells_within = let a = length-append cells (drop (4 ^ w.k) old) in let b = ap length left in let c = raster_long (seen w passed) w.k in omega (arith, a, b, c)

  -- ---- it is written, and refused by no number
  module _ (place : List ℕ) (h : picture_room ≤ length place) {place' : List ℕ} {r : Result ℕ Refusal} (p : PrintPromise w.k cells place r place') where
    fine : write_refusal w.k (length cells) (length place) ≡ 0
    fine =
        let c = raster_long (seen w passed) w.k in let s = text_short w.k (depth w passed) in
        sym (passes w.k (length cells) (length place) (depth w passed) (omega (arith, c)) (omega (arith, s, h)))

    answered : r ≡ Ok (length (picture_text w.k cells))
    unfolding printed
    answered = p.0 ∙ sym (unless_none _ _ _ fine)

    written : place' ≡ picture_text w.k cells ++ drop (length (picture_text w.k cells)) place
    unfolding printed_place
    written = p.2 ∙ sym (unless_none (λ n. place) _ _ fine)

    pub not_refused : {e : Refusal} → r ≡ Err e → ⊥
    not_refused e = let a = answered in cc

    pub draws : {n : ℕ} → r ≡ Ok n → Put 0 (picture_after (accepted w)) place place' n
    draws {n} e =
        let long = text_long w.k cells in let s = text_short w.k (depth w passed) in
        let same : n ≡ length (picture_text w.k cells) = ap (λ r. (states_printing r).bytes) (sym e ∙ answered) in
        over_put (omega (arith, long, s, h)) same written

-- ---- for a sheet that was read from an accepted text
pub deep : {sheet : Sheet} → FromText sheet → sheet.k ≤ 7
deep f = subst (λ r. r.k ≤ 7) (sym f.read) (depth f.said f.passed)

module _ {sheet : Sheet} (w : Said) (passed : refusal (to_read w) ≡ 0) (read : sheet ≡ whole w) where
  count_is : {m : ℕ} → m ≡ 4 ^ sheet.k → m ≡ 4 ^ w.k
  count_is e = e ∙ ap (λ s. 4 ^ s.k) read

  module _ (old : List ℕ) {now : List ℕ} (long : length old ≡ 16_384) {t : Result Seen Refusal} (p : RasterPromise (sheet_in w) w.mode old t now) {m : ℕ} (e : m ≡ 4 ^ sheet.k) where
    pub count_within : m ≤ length now
    count_within = subst (λ n. n ≤ length now) (sym (count_is e)) (cells_within w passed old long p)

    first_ones : take m now ≡ cells w passed
    first_ones = ap (λ n. take n now) (count_is e) ∙ first_cells w passed old long p

    pub printed_from : (place : List ℕ) {place' : List ℕ} {r : Result ℕ Refusal} → PrintPromise sheet.k (take m now) place r place' → PrintPromise w.k (cells w passed) place r place'
    printed_from place {place'} {r} q =
        subst (λ k. PrintPromise k (cells w passed) place r place') (ap (λ s. s.k) read) (subst (λ bytes. PrintPromise sheet.k bytes place r place') first_ones q)
