-- The promises of the calls that walk: what an answer states is the page's number and values, and no second outcome satisfies a promise.
use mathlib.Core.Path.{◌≡◌, sym, ◌∙◌, ap, ap₂}
use mathlib.Core.List.{List, ◌++◌}
use Prim.Native.Nat.{ℕ, ◌^◌}
use lib.ListN.{length, drop}
use Rattle.std.specs.Prelude.{Result, Ok, Err, IsErrAnd}
use Rattle.verdicts.specs.Walking.{raster, records, visited, coloured, largest_bend}
use Rattle.page.specs.Sheet.{Sheet}
use Rattle.page.specs.declared.Refusal.{Refusal}
use Rattle.page.specs.Numbers.{passed}
use Rattle.page.specs.Refusals.{refusal, to_walk}
use Rattle.page.proofs.Numbers.{table_named, unless_named}
use Rattle.page.proofs.Rows.{unless_ap, unless_refused, unless_none}
use Rattle.page.proofs.Refused.{refused_same, refused_some}
use Rattle.marks.specs.declared.Seen.{Seen}
use Rattle.walk.specs.declared.Records.{Records}
use Rattle.walk.specs.Answers.{verdicts, tally, tallied, states_tally, reckoned, rastered, listed, states_listing, enumerated, recorded}
use Rattle.walk.specs.Promises.{RasterPromise, ListingPromise, OneRaster, OneListing}

-- ---- each promise is kept by the definition's answer and place
module _ (S : Sheet) (mode : ℕ) (old : List ℕ) where
  raster_kept : {r : Result Seen Refusal} {now : List ℕ} → r ≡ tallied S mode (length old) → now ≡ rastered S mode old → RasterPromise S mode old r now
  unfolding tallied reckoned
  raster_kept e p = let c = to_walk S mode (length old) in (e, ap states_tally e ∙ unless_ap states_tally (refusal c) _ _ ∙ unless_named _ _ (refusal c) (table_named c), p)

  listing_kept : {r : Result Records Refusal} {now : List ℕ} → r ≡ listed S mode (length old) → now ≡ recorded S mode old → ListingPromise S mode old r now
  unfolding listed enumerated
  listing_kept e p = let c = to_walk S mode (length old) in (e, ap states_listing e ∙ unless_ap states_listing (refusal c) _ _ ∙ unless_named _ _ (refusal c) (table_named c), p)

  -- where a row holds: its refusal, and the place as it was
  module _ {e : Refusal} (h : passed (refusal (to_walk S mode (length old))) ≡ Err e) where
    pub raster_refused : {r : Result Seen Refusal} → IsErrAnd r (λ x. x ≡ e) → RasterPromise S mode old r old
    unfolding tallied rastered
    raster_refused {r} g = raster_kept (refused_same tt _ r _ h g) (unless_refused (λ n. old) _ _ (refused_some tt _ h))

    pub listing_refused : {r : Result Records Refusal} → IsErrAnd r (λ x. x ≡ e) → ListingPromise S mode old r old
    unfolding listed recorded
    listing_refused {r} g = listing_kept (refused_same tt _ r _ h g) (unless_refused (λ n. old) _ _ (refused_some tt _ h))

  -- where none does: the values, and what is written
  module _ (e : refusal (to_walk S mode (length old)) ≡ 0) {seen : Seen} (t : (seen.visited ≡ visited (verdicts S mode) S.k) × (seen.coloured ≡ coloured (verdicts S mode) S.k) × (seen.bend ≡ largest_bend (verdicts S mode) S.k)) where
    same : seen ≡ tally S mode
    same = ap₂ (λ (v c : ℕ). seen_of v c seen.bend) t.0 t.1 ∙ ap (λ (b : ℕ). seen_of (visited (verdicts S mode) S.k) (coloured (verdicts S mode) S.k) b) t.2
      where
        seen_of : ℕ → ℕ → ℕ → Seen
        seen_of v c b = record { visited = v; coloured = c; bend = b }

    pub raster_done : {now : List ℕ} → now ≡ raster (verdicts S mode) S.k ++ drop (4 ^ S.k) old → RasterPromise S mode old (Ok seen) now
    unfolding tallied rastered
    raster_done w = raster_kept (rw e (ap Ok same)) (w ∙ unless_none _ _ _ e)

    pub listing_done : {l : ℕ} {now : List ℕ} → l ≡ length (records (verdicts S mode) S.k) → now ≡ records (verdicts S mode) S.k ++ drop (length (records (verdicts S mode) S.k)) old
        → ListingPromise S mode old (Ok (record { length = l; seen = seen })) now
    unfolding listed recorded
    listing_done long w = listing_kept (rw e (ap Ok (ap₂ records_of long same))) (w ∙ unless_none _ _ _ e)
      where
        records_of : ℕ → Seen → Records
        records_of l s = record { length = l; seen = s }

-- ---- and by nothing else
pub one_raster : OneRaster
one_raster S mode old r t now after p q = (p.0 ∙ sym q.0, p.2 ∙ sym q.2)

pub one_listing : OneListing
one_listing S mode old r t now after p q = (p.0 ∙ sym q.0, p.2 ∙ sym q.2)
