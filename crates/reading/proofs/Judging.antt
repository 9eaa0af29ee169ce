-- A well-formed text judged: the gathered coefficients are those of its terms, and the call's number is the text's.
use mathlib.Core.Path.{◌≡◌, sym, ◌∙◌, ap}
use mathlib.Core.List.{List, ◌++◌}
use Prim.Native.Nat.{ℕ, zero, suc, ◌-◌, ◌≤◌}
use native.Mathlib.Omega.{arith}
use lib.IntN.{ℤ, pos}
use lib.ListN.{get_or, take, replicate}
use Rattle.page.specs.Sheet.{count, sheet_of}
use Rattle.page.specs.Refusals.{refusal, unless}
use Rattle.page.specs.SheetText.{Term, coefficient_of, Said, in_order, to_read, well_formed, refused, accepted, outcome_of}
use Rattle.page.specs.Steps.{mode_refusal}
use Rattle.page.proofs.Order.{order_cong, order_first}
use Rattle.page.proofs.Rows.{unless_none}
use Rattle.page.proofs.Refused.{passed_none}
use Rattle.std.specs.Prelude.{Ok, Err}
use Rattle.page.specs.declared.Refusal.{Refusal}
use Rattle.page.specs.Numbers.{by_number, passed}
use Rattle.page.proofs.TextRows.{read_rows}
use Rattle.reading.specs.declared.Head.{Head}
use Rattle.reading.specs.declared.Sheet.{Sheet}
use Rattle.reading.specs.Answers.{whole, reading_of}
use Rattle.reading.specs.Steps.{refused_text, place_of, gathered_from, said_by}

-- ---- a refusal, or the whole sheet, by what the call's conditions come to
module _ (w : Said) {n : ℕ} (number : n ≡ refusal (to_read w)) where
  pub judged_refused : {q : Refusal} → passed n ≡ Err q → Err (refused_text q) ≡ reading_of (outcome_of (well_formed w))
  judged_refused h = by n h ∙ ap (λ m. reading_of (unless m (λ m. refused m 0 0) (accepted w))) number
    where
      by : (n : ℕ) {q : Refusal} → passed n ≡ Err q → Err (refused_text q) ≡ reading_of (unless n (λ m. refused m 0 0) (accepted w))
      by zero h = cc
      by (suc m) {q} h = let e : by_number (suc m) ≡ q = cc in ap (λ q. Err (refused_text q)) (sym e)

  pub judged_accepted : {u : Unit} → passed n ≡ Ok u → Ok (whole w) ≡ reading_of (outcome_of (well_formed w))
  judged_accepted h = ap reading_of (unless_none (λ m. refused m 0 0) (accepted w) (refusal (to_read w)) (sym number ∙ passed_none tt n h))

-- a sheet as it is read
abbrev pub sheet_read : Head → List ℤ → Sheet
sheet_read h l = record { d = h.d; x = h.x; y = h.y; s = h.s; k = h.k; mode = h.mode; coefficients = l }

-- ---- the table holds the terms
module _ (h : Head) (values : List ℤ) (ts : List Term) (held : (i j : ℕ) → i ≤ 8 → j ≤ 8 → get_or values (place_of i j) (pos 0) ≡ coefficient_of ts i j) (degree : h.d ≤ 8)
    {coefficients : List ℤ} (all : coefficients ≡ gathered_from h.d values) where
  gathered_is : coefficients ≡ in_order h.d (coefficient_of ts) ++ replicate (45 - count h.d) (pos 0)
  gathered_is = all ∙ ap (λ l. l ++ replicate (45 - count h.d) (pos 0)) (order_cong h.d (λ i j m. held i j (omega arith) (omega arith)))

  pub number_is : mode_refusal (sheet_of h.d (take (count h.d) coefficients) h.x h.y h.s h.k) h.mode ≡ refusal (to_read (said_by h ts))
  number_is =
      ap (λ l. mode_refusal (sheet_of h.d l h.x h.y h.s h.k) h.mode)
      (ap (take (count h.d)) gathered_is ∙ order_first h.d (coefficient_of ts) (replicate (45 - count h.d) (pos 0)))
      ∙ sym (read_rows (said_by h ts))

  -- the whole sheet
  pub reading_is : sheet_read h coefficients ≡ whole (said_by h ts)
  reading_is = ap (sheet_read h) gathered_is
