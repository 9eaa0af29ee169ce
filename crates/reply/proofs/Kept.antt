-- What a text comes to, by what reading it answers.
use mathlib.Core.Path.{◌≡◌, refl, sym, ◌∙◌, ap, subst}
use mathlib.Core.Bool.{Bool, true, false, cond}
use mathlib.Core.List.{List}
use Prim.Native.Nat.{ℕ, zero, suc}
use native.Mathlib.Omega.{arith}
use lib.Dec.{ltb}
use lib.ListN.{length}
use Rattle.page.specs.Refusals.{refusal, unless}
use Rattle.page.specs.SheetLine.{lines}
use Rattle.page.specs.SheetText.{Said, Text, bad_line, well_formed, text_of, to_read, Outcome, refused, accepted, outcome_of, outcome}
use Rattle.page.specs.ListingText.{refused_line}
use Rattle.page.proofs.ReadFacts.{read_never}
use Rattle.std.specs.Prelude.{Ok, Err}
use Rattle.page.specs.Numbers.{number_of, by_number}
use Rattle.reading.specs.declared.Sheet.{Sheet}
use Rattle.reading.specs.declared.Refused.{Refused}
use Rattle.reading.specs.Answers.{reading_of, reading}
use Rattle.reading.specs.Promises.{ReadPromise}
use Rattle.reading.proofs.Facts.{reading_named}
use Rattle.writing.specs.Steps.{Put}
use Rattle.reply.specs.Steps.{FromText, Tells, TellsRefused}

-- ---- a refusal has a number, and an accepted text passes the table
abbrev Kept : Outcome → Type 0
Kept (refused n line field) = n ≡ 0 → ⊥
Kept (accepted w) = refusal (to_read w) ≡ 0

kept_by : (w : Said) (n : ℕ) → refusal (to_read w) ≡ n → Kept (unless n (λ m. refused m 0 0) (accepted w))
kept_by w zero e = e
kept_by w (suc n) e = λ z. omega arith

-- a refusal's number is not 0
abbrev Numbered : Outcome → Type 0
Numbered o = (n line field : ℕ) → o ≡ refused n line field → n ≡ 0 → ⊥

kept_text : (t : Text) → Numbered (outcome_of t) → Kept (outcome_of t)
kept_text (bad_line n f) h = h f.number n f.field refl
kept_text (well_formed w) h = kept_by w (refusal (to_read w)) refl

kept : (text : List ℕ) → Kept (outcome text)
unfolding outcome
kept text = by (ltb 8_192 (length text)) (λ n line field e. (read_never text n line field e).not_0)
  where
    by : (b : Bool) → let o = cond b (refused 11 0 0) (outcome_of (text_of (lines text))) in Numbered o → Kept o
    by true h = λ z. omega arith
    by false h = kept_text (text_of (lines text)) h

-- ---- so where there is a sheet it is the one that an accepted text says
module _ (text : List ℕ) {sheet : Sheet} (e : ReadPromise text (Ok sheet)) where
  from_outcome : (o : Outcome) → Kept o → Ok sheet ≡ reading_of o → FromText sheet
  from_outcome (refused n line field) k q = absurd (cc)
  from_outcome (accepted w) k q = record { said = w; passed = k; read = cc }

  pub from_text : FromText sheet
  unfolding reading
  from_text = from_outcome (outcome text) (kept text) e.0

-- ---- what is told of a text: of a refusal its line, of an accepted one what is told of its sheet
module _ (told : Outcome → List ℕ) (refusals : (n line field : ℕ) → told (refused n line field) ≡ refused_line n line field) {old now : List ℕ} {r : ℕ} (text : List ℕ) where
  pub accepted_text : {sheet : Sheet} → ReadPromise text (Ok sheet) → Tells told sheet old now r → Put 0 (told (outcome text)) old now r
  unfolding reading
  accepted_text {sheet} e f = by (outcome text) (kept text) e.0
    where
      by : (o : Outcome) → Kept o → Ok sheet ≡ reading_of o → Put 0 (told o) old now r
      by (refused n line field) k q = absurd (cc)
      by (accepted w) k q = f w k (cc)

  pub refused_text : {e : Refused} → ReadPromise text (Err e) → TellsRefused e old now r → Put 0 (told (outcome text)) old now r
  unfolding reading
  refused_text {e} p q = by (outcome text) refl p.0
    where
      by : (o : Outcome) → outcome text ≡ o → Err e ≡ reading_of o → Put 0 (told o) old now r
      by (refused n line field) f g =
          let named : e ≡ record { refusal = by_number n; line = line; field = field } = cc in
          let number : number_of (by_number n) ≡ n = reading_named text n line field f in
          subst (λ bytes. Put 0 bytes old now r)
          (ap (λ e. refused_line (number_of e.refusal) e.line e.field) named ∙ ap (λ m. refused_line m line field) number ∙ sym (refusals n line field)) q
      by (accepted w) f g = absurd (cc)
