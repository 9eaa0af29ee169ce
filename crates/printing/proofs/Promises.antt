-- The promise of `write_pbm`: what an answer states is the request's number and count, and no second outcome satisfies it.
use mathlib.Core.Path.{◌≡◌, refl, sym, ◌∙◌, ap}
use mathlib.Core.List.{List}
use Prim.Native.Nat.{ℕ}
use lib.ListN.{length}
use Rattle.std.proofs.Common.{Result, Ok, Err}
use Rattle.std.specs.Result.{IsErrAnd}
use Rattle.page.specs.declared.Refusal.{Refusal}
use Rattle.page.specs.Numbers.{by_number, passed}
use Rattle.page.proofs.Rows.{unless_ap, unless_refused, unless_none}
use Rattle.page.proofs.Numbers.{Names, first_names, unless_named}
use Rattle.page.proofs.Refused.{refused_same, refused_some}
use Rattle.pbm.specs.Writing.{picture_text}
use Rattle.pbm.specs.Refusals.{write_table, write_refusal}
use Rattle.writing.specs.Steps.{Put}
use Rattle.writing.proofs.Puts.{put_over}
use Rattle.printing.specs.Answers.{printed, printed_place, states_printing, Counted, counted}
use Rattle.printing.specs.Promises.{PrintPromise, OnePrint}

-- ---- every number of the table names a refusal
named : (k r n : ℕ) → (write_refusal k r n ≡ 0 → ⊥) → Names (write_refusal k r n)
unfolding write_table by_number
named k r n = first_names (write_table k r n) (refl, (refl, tt))

-- ---- what was tried is refused by the number's refusal, or is let through
abbrev refuses : ℕ → Result ℕ Refusal
refuses n = Err (by_number n)

abbrev answers : ℕ → Result ℕ Refusal
answers n = Ok n

abbrev refused_by : ℕ → Counted
refused_by n = record { number = n; bytes = 0 }

module _ (k : ℕ) (raster old : List ℕ) where
  -- it is kept by the definition's answer and place
  kept : {r : Result ℕ Refusal} {now : List ℕ} → r ≡ printed k raster (length old) → now ≡ printed_place k raster old → PrintPromise k raster old r now
  unfolding printed counted
  kept e p =
      let n : ℕ = write_refusal k (length raster) (length old) in
      (e, ap states_printing e ∙ unless_ap states_printing n _ _ ∙ unless_named refused_by _ n (named k (length raster) (length old)), p)

  -- where a row holds: its refusal, and the place as it was
  pub print_refused : {r : Result ℕ Refusal} {e : Refusal} → IsErrAnd r (λ x. x ≡ e) → passed (write_refusal k (length raster) (length old)) ≡ Err e → PrintPromise k raster old r old
  unfolding printed printed_place
  print_refused {r} {e} u f =
      let n : ℕ = write_refusal k (length raster) (length old) in
      kept (refused_same tt _ r n f u) (unless_refused (λ n. old) _ n (refused_some tt n f))

  -- where none does: the text is put at the beginning
  pub print_done : {r : ℕ} {now : List ℕ} → write_refusal k (length raster) (length old) ≡ 0 → Put 0 (picture_text k raster) old now r → PrintPromise k raster old (Ok r) now
  unfolding printed printed_place
  print_done e p = let (ends, over) = put_over p in kept (ap answers ends ∙ unless_none refuses _ _ e) (over ∙ unless_none _ _ _ e)

-- and by nothing else
pub one_print : OnePrint
one_print k raster old r t now after p q = (p.0 ∙ sym q.0, p.2 ∙ sym q.2)
