-- The listing of an accepted text: its records, and the text that they tell.
use mathlib.Core.Path.{◌≡◌, refl, sym, ◌∙◌, ap, ap₂, subst}
use mathlib.Core.List.{List, ◌++◌}
use Prim.Native.Nat.{ℕ, ◌+◌, ◌*◌, ◌-◌, ◌^◌, ◌≤◌}
use native.Mathlib.Nat as Nat
use native.Mathlib.Omega.{arith}
use borrow.Author.Tests.{le-ltb}
use lib.IntN.{pos}
use lib.ListN.{length, take, drop, replicate, length-append, length-drop}
use lib.Seq.{take_at}
use Rattle.verdicts.specs.Walking.{Verdicts, records, visited, coloured}
use Rattle.verdicts.proofs.Bounds.{power_small}
use Rattle.verdicts.proofs.Lengths.{listing_long}
use Rattle.page.specs.Sheet.{Sheet, count, sheet_of}
use Rattle.page.specs.Weight.{Accepted}
use Rattle.page.specs.Refusals.{refusal, to_walk}
use Rattle.page.specs.SheetText.{Said, sheet_in, to_read, coefficient_of, in_order, accepted}
use Rattle.page.specs.ListingText.{total_line, listing_text, text_after}
use Rattle.page.specs.Steps.{mode_refusal}
use Rattle.page.proofs.Order.{order_long, order_first}
use Rattle.page.proofs.Rows.{mode_passed, walk_rows, no_row_9, rest, unless_none}
use Rattle.page.proofs.TextRows.{read_rows}
use Rattle.std.specs.Prelude.{Result, Ok, Err}
use Rattle.page.specs.declared.Refusal.{Refusal}
use Rattle.reading.specs.declared.Sheet.{Sheet as Read}
use Rattle.reading.specs.Answers.{whole}
use Rattle.marks.specs.declared.Seen.{Seen}
use Rattle.walk.specs.declared.Records.{Records}
use Rattle.walk.specs.Answers.{verdicts, tally, listed, recorded}
use Rattle.walk.specs.Promises.{ListingPromise}
use Rattle.writing.specs.Steps.{records_text, Put}
use Rattle.writing.proofs.Tells.{records_tell}
use Rattle.reply.specs.Steps.{FromText}

-- what an answer holds, where it is no refusal
abbrev length_in : Result Records Refusal → ℕ
length_in (Ok l) = l.length
length_in (Err e) = 0

abbrev tally_in : Seen → Result Records Refusal → Seen
tally_in t (Ok l) = l.seen
tally_in t (Err e) = t

-- ---- the sheet that is walked is the one that the text says
module _ {sheet : Read} (w : Said) (read : sheet ≡ whole w) where
  same_sheet : sheet_of sheet.d (take (count sheet.d) sheet.coefficients) sheet.x sheet.y sheet.s sheet.k ≡ sheet_in w
  same_sheet =
      ap (λ r. sheet_of r.d (take (count r.d) r.coefficients) r.x r.y r.s r.k) read
      ∙ ap (λ l. sheet_of w.d l w.X w.Y w.s w.k) (order_first w.d (coefficient_of w.terms) (replicate (45 - count w.d) (pos 0)))

  pub enough : count sheet.d ≤ length sheet.coefficients
  enough = subst (λ r. count r.d ≤ length r.coefficients) (sym read)
      (let l = length-append (in_order w.d (coefficient_of w.terms)) (replicate (45 - count w.d) (pos 0)) in let o = order_long w.d (coefficient_of w.terms) in omega arith)

module _ (w : Said) (passed : refusal (to_read w) ≡ 0) where
  no_mode : mode_refusal (sheet_in w) w.mode ≡ 0
  no_mode = sym (read_rows w) ∙ passed

  fine : Accepted (sheet_in w)
  fine = (mode_passed (sheet_in w) w.mode no_mode).0

  pub degree : w.d ≤ 8
  degree = fine.ranges.degree

  pub depth : w.k ≤ 7
  depth = fine.ranges.depth

  -- its walk is refused by no number
  pub walks : {n : ℕ} → n ≡ 16_384 → refusal (to_walk (sheet_in w) w.mode n) ≡ 0
  walks {n} e =
      let k = fine.ranges.depth in let p : 4 ^ w.k ≤ n = let q = power_small k in omega arith in
      walk_rows (sheet_in w) w.mode n ∙ rest _ no_mode ∙ rw (le-ltb n (4 ^ w.k) p, no_row_9 (sheet_in w) w.mode k)

  -- the records, and what is counted beside them
  abbrev pub seen : Verdicts
  seen = verdicts (sheet_in w) w.mode

  abbrev told : List ℕ
  told = records seen w.k

  few : length told ≤ 16_384
  few = let k = fine.ranges.depth in Nat.le_trans (listing_long seen w.k).2 (power_small k)

  module _ (old : List ℕ) {now : List ℕ} (long : length old ≡ 16_384) {r : Result Records Refusal} (p : ListingPromise (sheet_in w) w.mode old r now) where
    answered : r ≡ Ok (record { length = length told; seen = tally (sheet_in w) w.mode })
    unfolding listed
    answered = p.0 ∙ sym (unless_none _ _ _ (walks long))

    left : now ≡ told ++ drop (length told) old
    unfolding recorded
    left = p.2 ∙ sym (unless_none (λ n. old) _ _ (walks long))

    as_long : length now ≡ 16_384
    as_long = let f = few in let a = length-append told (drop (length told) old) in let d = length-drop (length told) old in ap length left ∙ omega (arith, f, a, d)

    first_ones : take (length told) now ≡ told
    first_ones = ap (take (length told)) left ∙ take_at told (drop (length told) old) (length told) refl

    -- there is no refusal
    pub not_refused : {e : Refusal} → r ≡ Err e → ⊥
    not_refused e = let a = answered in cc

    module _ {s : Records} (e : r ≡ Ok s) where
      long_as : s.length ≡ length told
      long_as = ap length_in (sym e ∙ answered)

      tally_as : s.seen ≡ tally (sheet_in w) w.mode
      tally_as = ap (tally_in s.seen) (sym e ∙ answered)

      first : take s.length now ≡ told
      first = ap (λ n. take n now) long_as ∙ first_ones

      pub within : s.length ≤ length now
      within = let f = few in let a = long_as in let b = as_long in omega (arith, a, f, b)

      -- room for its lines
      pub room_for : 16 * length (take s.length now) + 28 ≤ 262_172
      room_for = let f = few in let a = ap length first in omega (arith, a, f)

      tells : records_text (take s.length now) ++ total_line s.seen.visited s.seen.coloured ≡ listing_text seen w.k
      tells =
          ap₂ (λ rs line. records_text rs ++ line) first (ap (λ t. total_line t.visited t.coloured) tally_as)
          ∙ records_tell seen w.k fine.ranges.depth

      pub lists : {place place' : List ℕ} {end : ℕ}
          → Put 0 (records_text (take s.length now) ++ total_line s.seen.visited s.seen.coloured) place place' end → Put 0 (text_after (accepted w)) place place' end
      lists {place} {place'} {end} q = subst (λ bytes. Put 0 bytes place place' end) tells q

-- ---- a sheet that was read from an accepted text
pub small : {sheet : Read} → FromText sheet → sheet.d ≤ 8
small f = subst (λ r. r.d ≤ 8) (sym f.read) (degree f.said f.passed)

-- what is true of the sheet that is walked is true of the one that the text says
pub of_said : (P : Sheet → ℕ → Type 0) {sheet : Read} (w : Said) → sheet ≡ whole w
    → P (sheet_of sheet.d (take (count sheet.d) sheet.coefficients) sheet.x sheet.y sheet.s sheet.k) sheet.mode → P (sheet_in w) w.mode
of_said P {sheet} w e p = subst (P (sheet_in w)) (ap (λ t. t.mode) e) (subst (λ S. P S sheet.mode) (same_sheet w e) p)

pub listed_from : {sheet : Read} (w : Said) → sheet ≡ whole w → (old : List ℕ) {now : List ℕ} {r : Result Records Refusal}
    → ListingPromise (sheet_of sheet.d (take (count sheet.d) sheet.coefficients) sheet.x sheet.y sheet.s sheet.k) sheet.mode old r now → ListingPromise (sheet_in w) w.mode old r now
listed_from w e old {now} {r} p = of_said (λ S mode. ListingPromise S mode old r now) w e p
