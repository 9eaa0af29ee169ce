-- The whole sheet is the cell at level 0: what examining it paints is the page's raster, what listing it writes is the page's listing, and what either counts is the page's tally.
use mathlib.Core.Path.{◌≡◌, refl, sym, ◌∙◌, ap}
use mathlib.Core.Bool.{true, false, cond, ◌&&◌, and-false}
use mathlib.Core.List.{List, ◌++◌}
use Prim.Native.Nat.{ℕ, ◌+◌, ◌-◌, ◌*◌, ◌/◌, ◌%◌, ◌^◌, ◌≤◌, ◌<◌}
use native.Mathlib.Nat as Nat
use native.Mathlib.Decide.{dec_lt}
use native.Mathlib.Omega.{arith}
use borrow.Author.Tests.{eq-eqb, ne_eqb}
use lib.Dec.{eqb}
use lib.IntN.{pos}
use lib.ListN.{length, get_or, drop, length-append, length-drop, get_or-append}
use lib.Pow.{pow_pos}
use lib.Seq.{get_or-append-add, get_or-drop, ext_get_or, sets, sets-eq}
use Rattle.algebra.specs.Written.{Written}
use Rattle.algebra.proofs.Choice.{and_both}
use Rattle.algebra.proofs.Power.{*_pow}
use Rattle.verdicts.specs.Walking.{Verdicts, raster, records, visited, coloured, largest_bend}
use Rattle.verdicts.specs.Operational.{visited_from, coloured_from, bend_from, records_from, colour_from}
use Rattle.verdicts.proofs.Colours.{colour_is}
use Rattle.verdicts.proofs.Tallies.{visited_is, coloured_is}
use Rattle.verdicts.proofs.Bends.{bend_is}
use Rattle.verdicts.proofs.Lengths.{raster_long, listing_long}
use Rattle.verdicts.proofs.Listing.{records_are}
use Rattle.verdicts.proofs.Bytes.{row_below, raster_at}
use Rattle.page.specs.Sheet.{Sheet}
use Rattle.page.specs.LocalForm.{G}
use Rattle.page.specs.Refusals.{refusal, to_walk}
use Rattle.page.proofs.Rows.{walk_passed}
use Rattle.local.specs.declared.Form.{Form}
use Rattle.local.specs.Form.{Tabled}
use Rattle.cells.proofs.Making.{held_form}
use Rattle.cells.proofs.Parts.{whole_near}
use Rattle.marks.specs.declared.Seen.{Seen}
use Rattle.marks.specs.Steps.{in_block}
use Rattle.walk.specs.Steps.{Counted, Finest, NearForm, Carried}

-- ---- what a walk that no row refuses may begin with
module _ (S : Sheet) (mode n : ℕ) (e : refusal (to_walk S mode n) ≡ 0) where
  pub room : 4 ^ S.k ≤ n
  room = (walk_passed S mode n e).2

  pub whole_form : {form : Form} → Tabled S.d (G S 0 0 0) form → NearForm S form (pos 0) (pos 0) S.k 0 0 0
  whole_form t = record { degree = t.degree; depth = refl; near = whole_near (held_form (walk_passed S mode n e).0 (record { level = omega arith; column = omega arith; row = omega arith }) t) }

  pub ready : {form : Form} → Tabled S.d (G S 0 0 0) form → Carried form (pos 0) (pos 0) S.k 0 0 0 × (4 ^ S.k ≤ n)
  ready t = (record { sheet = S; near = whole_form t }, room)

-- ---- a list of n entries written over the beginning of another: it is as long, and the later entries are as they were
module _ (xs old : List ℕ) {n : ℕ} (long : length xs ≡ n) where
  pub over_length : n ≤ length old → length (xs ++ drop n old) ≡ length old
  over_length room = omega (arith, long, length-append xs (drop n old), length-drop n old)

  pub over_later : (i : ℕ) → n ≤ i → get_or (xs ++ drop n old) i 0 ≡ get_or old i 0
  over_later i l =
      let s : i ≡ length xs + (i - n) = omega (arith, long) in
      let z : n + (i - n) ≡ i = omega arith in
      ap (λ m. get_or (xs ++ drop n old) m 0) s ∙ get_or-append-add xs (drop n old) (i - n) 0 ∙ get_or-drop n old (i - n) 0 ∙ ap (λ m. get_or old m 0) z

-- ---- the raster
-- the first 4^k entries lie in the cell at level 0, and the later ones do not
within : (k i : ℕ) → i < 4 ^ k → in_block k k 0 0 i ≡ true
within k i l =
    and_both (eqb (i % 2 ^ k / 2 ^ k) 0) (eqb (i / 2 ^ k / 2 ^ k) 0) (eq-eqb _ _ (Nat.div-eq_of_lt (Nat.mod-lt i (pow_pos k)))) (eq-eqb _ _ (Nat.div-eq_of_lt (row_below k i l)))

beyond : (k i : ℕ) → 4 ^ k ≤ i → in_block k k 0 0 i ≡ false
beyond k i l =
    let h : 2 ^ k * 2 ^ k ≤ i = omega (arith, *_pow 2 2 k) in
    let j : 1 * 2 ^ k ≤ i / 2 ^ k = omega (arith, (Nat.le-div_iff_mul-le {x = 2 ^ k} {y = i} (pow_pos k)).1 h) in
    let m : 1 ≤ i / 2 ^ k / 2 ^ k = (Nat.le-div_iff_mul-le (pow_pos k)).1 j in
    ap (λ b. eqb (i % 2 ^ k / 2 ^ k) 0 && b) (ne_eqb (i / 2 ^ k / 2 ^ k) 0 (λ e. omega arith)) ∙ and-false (eqb (i % 2 ^ k / 2 ^ k) 0)

pub raster_whole : (v : Verdicts) (k : ℕ) (old now : List ℕ) → 4 ^ k ≤ length old → Finest v k 0 0 0 old now → now ≡ raster v k ++ drop (4 ^ k) old
raster_whole v k old now room e =
    let p = rw Nat.sub-zero at e in let same = p.long in
    ext_get_or 0 now (raster v k ++ drop (4 ^ k) old)
    (same ∙ sym (over_length (raster v k) old (raster_long v k) room))
    (λ i l. p.each i (omega arith) ∙ elim (dec_lt i (4 ^ k)) [
      | yes h ↦ ap (λ b. cond b (colour_from v 0 k (i % 2 ^ k) (i / 2 ^ k)) (get_or old i 0)) (within k i h) ∙ colour_is v k (i % 2 ^ k) (i / 2 ^ k) ∙ sym (raster_at v k i h)
          ∙ sym (get_or-append (raster v k) (drop (4 ^ k) old) 0 i (omega (arith, raster_long v k)))
      | no h ↦ ap (λ b. cond b (colour_from v 0 k (i % 2 ^ k) (i / 2 ^ k)) (get_or old i 0)) (beyond k i (omega arith))
          ∙ sym (over_later (raster v k) old (raster_long v k) i (omega arith))
    ])

-- ---- the tally
pub counted_whole : (v : Verdicts) (k : ℕ) (r : Seen) → Counted v k 0 0 0 r → (r.visited ≡ visited v k) × (r.coloured ≡ coloured v k) × (r.bend ≡ largest_bend v k)
counted_whole v k r c = (
  c.visits ∙ ap (λ n. visited_from v 0 n 0 0) (Nat.sub-zero k) ∙ visited_is v k,
  c.colours ∙ ap (λ n. coloured_from v 0 n 0 0) (Nat.sub-zero k) ∙ coloured_is v k,
  c.bends ∙ ap (λ n. bend_from v 0 n 0 0) (Nat.sub-zero k) ∙ bend_is v k,
)

-- ---- the listing
pub listing_whole : (v : Verdicts) (k : ℕ) (old now : List ℕ) (end : ℕ) → 4 ^ k ≤ length old → Written (records_from v 0 (k - 0) 0 0) 0 old now end
    → (end ≡ length (records v k)) × (now ≡ records v k ++ drop (length (records v k)) old)
listing_whole v k old now end room h =
    let e : records_from v 0 (k - 0) 0 0 ≡ records v k = ap (λ n. records_from v 0 n 0 0) (Nat.sub-zero k) ∙ records_are v k in let l = (listing_long v k).2 in
    (h.ends ∙ Nat.zero-add (length (records_from v 0 (k - 0) 0 0)) ∙ ap length e, h.written ∙ ap (sets old 0) e ∙ sets-eq (records v k) old 0 (omega arith) ∙ ap (λ n. records v k ++ drop n old) (Nat.zero-add (length (records v k))))
