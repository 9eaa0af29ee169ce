-- The answer of `read`: the whole sheet by value, its unused coefficients zero; or a refusal, its line and its field.
use Rattle.std.specs.Prelude.{List, ◌++◌, ℕ, ◌-◌, ℤ, pos, replicate, Result, Ok, Err}
use Rattle.page.specs.Sheet.{count}
use Rattle.page.specs.SheetText.{in_order, coefficient_of, Said, Outcome, refused, accepted, outcome}
use Rattle.page.specs.Numbers.{number_of, by_number}
use Rattle.reading.specs.declared.Sheet.{Sheet}
use Rattle.reading.specs.declared.Refused.{Refused}

abbrev pub whole : Said → Sheet
whole w =
    record {
      d = w.d;
      x = w.X;
      y = w.Y;
      s = w.s;
      k = w.k;
      mode = w.mode;
      coefficients = in_order w.d (coefficient_of w.terms) ++ replicate (45 - count w.d) (pos 0);
    }

abbrev pub reading_of : Outcome → Result Sheet Refused
reading_of (refused n line field) = Err (record { refusal = by_number n; line = line; field = field })
reading_of (accepted w) = Ok (whole w)

unfoldable pub reading : List ℕ → Result Sheet Refused
reading text = reading_of (outcome text)

-- ---- the numbers that each case states, and those of the page: a refusal's number, its line and its field, and zeros for the rest
pub record Stated : Type 0 where
  pub refusal : ℕ
  pub line : ℕ
  pub field : ℕ
  pub d : ℕ
  pub x : ℤ
  pub y : ℤ
  pub s : ℕ
  pub k : ℕ
  pub mode : ℕ
  pub coefficients : List ℤ

abbrev pub states_sheet : Sheet → Stated
states_sheet w = record { refusal = 0; line = 0; field = 0; d = w.d; x = w.x; y = w.y; s = w.s; k = w.k; mode = w.mode; coefficients = w.coefficients }

abbrev pub states_refused : ℕ → ℕ → ℕ → Stated
states_refused n line field = record { refusal = n; line = line; field = field; d = 0; x = pos 0; y = pos 0; s = 0; k = 0; mode = 0; coefficients = replicate 45 (pos 0) }

abbrev pub states : Result Sheet Refused → Stated
states (Ok w) = states_sheet w
states (Err e) = states_refused (number_of e.refusal) e.line e.field

abbrev pub stated_of : Outcome → Stated
stated_of (refused n line field) = states_refused n line field
stated_of (accepted w) = states_sheet (whole w)

unfoldable pub stated : List ℕ → Stated
stated text = stated_of (outcome text)
