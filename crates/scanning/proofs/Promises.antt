-- The promise of `read_pbm`: kept by the definition's answer and place, by nothing else, and whatever the text is by the grammar.
use mathlib.Core.Path.{◌≡◌, refl, sym, ◌∙◌, ap, subst}
use mathlib.Core.Bool.{true, false}
use mathlib.Core.List.{List, ◌++◌}
use Prim.Native.Nat.{ℕ, ◌≤◌, ◌<◌}
use lib.ListN.{length, drop}
use borrow.Author.Tests.{lt-ltb, le-ltb}
use Rattle.std.proofs.Common.{Result, Ok, Err}
use Rattle.page.specs.SheetLine.{is_empty}
use Rattle.page.specs.Refusals.{first}
use Rattle.page.specs.declared.Refusal.{Refusal}
use Rattle.page.specs.Numbers.{by_number}
use Rattle.page.proofs.Rows.{unless_ap, unless_refused, unless_none}
use Rattle.page.proofs.Numbers.{Names, first_names, unless_named}
use Rattle.pbm.specs.Reading.{Picture}
use Rattle.pbm.specs.Refusals.{Found, not_plain, plain, depths, picture_mask, read_table, read_refusal, depth_in, mask_in}
use Rattle.pbm.specs.Steps.{found}
use Rattle.pbm.proofs.Finding.{finds_found, one_found}
use Rattle.scanning.specs.Answers.{scanned, scanned_place, states_scan, Sized, sized}
use Rattle.scanning.specs.Promises.{ScanOf, ScanPromise, OneScan}

-- ---- the rows of the table
pub row_12 : (n : ℕ) → read_refusal not_plain n ≡ 12
unfolding read_table first
row_12 n = refl

module _ (P : Picture) (n : ℕ) where
  pub row_13 : is_empty (depths P) ≡ true → read_refusal (plain P) n ≡ 13
  unfolding read_table first
  row_13 e = rw e

  module _ (e : is_empty (depths P) ≡ false) where
    pub row_7 : n < length (picture_mask P) → read_refusal (plain P) n ≡ 7
    unfolding read_table first
    row_7 h = rw (e, lt-ltb n (length (picture_mask P)) h)

    pub no_row : length (picture_mask P) ≤ n → read_refusal (plain P) n ≡ 0
    unfolding read_table first
    no_row h = rw (e, le-ltb n (length (picture_mask P)) h)

-- ---- every number of the table names a refusal
named : (f : Found) (n : ℕ) → (read_refusal f n ≡ 0 → ⊥) → Names (read_refusal f n)
unfolding read_table by_number
named f n = first_names (read_table f n) (refl, (refl, (refl, tt)))

-- ---- what comes of a text that is f: by the definition's answer and place
abbrev refuses : ℕ → Result ℕ Refusal
refuses n = Err (by_number n)

abbrev answers : ℕ → Result ℕ Refusal
answers k = Ok k

abbrev refused_by : ℕ → Sized
refused_by n = record { number = n; depth = 0 }

module _ (f : Found) (old : List ℕ) where
  kept : {r : Result ℕ Refusal} {now : List ℕ} → r ≡ scanned f (length old) → now ≡ scanned_place f old → ScanOf f old r now
  unfolding scanned sized
  kept e p = (e, ap states_scan e ∙ unless_ap states_scan (read_refusal f (length old)) _ _ ∙ unless_named refused_by _ (read_refusal f (length old)) (named f (length old)), p)

  -- where a row holds: the refusal of its number, and the place as it was
  pub refused : {n : ℕ} → read_refusal f (length old) ≡ n → (n ≡ 0 → ⊥) → ScanOf f old (Err (by_number n)) old
  unfolding scanned scanned_place
  refused e h =
      kept (ap refuses (sym e) ∙ unless_refused refuses _ (read_refusal f (length old)) (λ z. h (sym e ∙ z)))
      (unless_refused (λ n. old) _ (read_refusal f (length old)) (λ z. h (sym e ∙ z)))

  -- where none does: the depth and the mask, and the later bytes as they were
  pub done : read_refusal f (length old) ≡ 0 → {k : ℕ} → k ≡ depth_in f → {now : List ℕ} → now ≡ mask_in f ++ drop (length (mask_in f)) old → ScanOf f old (Ok k) now
  unfolding scanned scanned_place
  done e d w = kept (ap answers d ∙ unless_none refuses _ _ e) (w ∙ unless_none _ _ _ e)

-- ---- whatever the text is by the grammar, it is what was found
pub as_found : (text old : List ℕ) {f : Found} → found text ≡ f → {r : Result ℕ Refusal} {now : List ℕ} → ScanOf f old r now → ScanPromise text old r now
as_found text old e {r} {now} h f p = subst (λ g. ScanOf g old r now) (sym e ∙ one_found text (found text) f (finds_found text) p) h

-- ---- no second outcome satisfies the promise
pub one_scan : OneScan
one_scan text old r t now after p q =
    let a = p (found text) (finds_found text) in let b = q (found text) (finds_found text) in
    (a.0 ∙ sym b.0, a.2 ∙ sym b.2)
