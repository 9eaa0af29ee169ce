-- The promise of `read`: how it is kept, and that nothing else keeps it.
use mathlib.Core.Path.{◌≡◌, sym, ◌∙◌, ap, refl}
use mathlib.Core.Bool.{true, false}
use mathlib.Core.List.{List, []}
use Prim.Native.Nat.{ℕ, ◌≤◌, ◌<◌}
use borrow.Author.Tests.{lt-ltb, le-ltb}
use lib.Dec.{ltb}
use lib.IntN.{ℤ}
use lib.ListN.{length}
use Rattle.std.specs.Prelude.{Result, Ok, Err}
use Rattle.page.specs.declared.Refusal.TheVariants as Refusal
use Rattle.page.specs.SheetLine.{lines}
use Rattle.page.specs.SheetText.{Text, well_formed, text_of, outcome_of, outcome}
use Rattle.page.proofs.Numbers.{named_by_number}
use Rattle.reading.specs.declared.Head.{Head}
use Rattle.reading.specs.declared.Refused.{Refused}
use Rattle.reading.specs.declared.Sheet.{Sheet}
use Rattle.reading.specs.Answers.{reading_of, reading}
use Rattle.reading.specs.Promises.{ReadPromise, OneReading}
use Rattle.reading.proofs.Facts.{reading_states}
use Rattle.reading.specs.Steps.{refused_text, bad_at, said_by, HeadGood, TermsTold, Judged}

pub one_reading : OneReading
one_reading text r t p q = p.0 ∙ sym q.0

module _ (text : List ℕ) where
  -- the definition's answer states the page's numbers
  keeps : {r : Result Sheet Refused} → r ≡ reading text → ReadPromise text r
  keeps {r} e = (e, reading_states text r e)

  -- 11 is tried before 14 to 20
  pub too_long : 8_192 < length text → {e : Refused} → e ≡ refused_text Refusal.Text → ReadPromise text (Err e)
  unfolding outcome reading
  too_long h e =
      let l : ltb 8_192 (length text) ≡ true = lt-ltb 8_192 (length text) h in
      keeps (ap Err e ∙ ap (λ q. Err (refused_text q)) (sym (named_by_number Refusal.Text)) ∙ rw l)

  module _ (short : length text ≤ 8_192) where
    by_text : (t : Text) → text_of (lines text) ≡ t → {r : Result Sheet Refused} → r ≡ reading_of (outcome_of t) → ReadPromise text r
    unfolding outcome reading
    by_text t f e = let l : ltb 8_192 (length text) ≡ false = le-ltb 8_192 (length text) short in keeps (e ∙ rw (l, f))

    -- a bad line, by its own refusal
    pub bad_text : {e : Refused} → text_of (lines text) ≡ bad_at e → ReadPromise text (Err e)
    bad_text {e} t = by_text (bad_at e) t (ap (λ q. Err (record { refusal = q; line = e.line; field = e.field })) (sym (named_by_number e.refusal)))

    module _ {h : Head} (k : HeadGood text h) (values : List ℤ) where
      pub bad_term : (e : Refused) → TermsTold text h.next h.d values (Err e) → ReadPromise text (Err e)
      bad_term e t = bad_text (k.read ∙ t (said_by h []) refl refl)

      pub well_read : (u : Unit) → TermsTold text h.next h.d values (Ok u) → {r : Result Sheet Refused} → Judged h values r → ReadPromise text r
      well_read u t j = by_text (well_formed (said_by h t.terms)) (k.read ∙ t.read (said_by h []) refl refl) (j t.terms t.held)
