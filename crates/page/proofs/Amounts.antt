-- The number that digits write, read byte by byte with a ceiling C: so digits of any count are read.
use mathlib.Core.Path.{◌≡◌, refl, sym, ◌∙◌, ap}
use mathlib.Core.Bool.{Bool, true, false, ◌&&◌}
use mathlib.Core.List.{List, [], ◌∷◌}
use Prim.Native.Nat.{ℕ, ◌+◌, ◌*◌, ◌-◌, ◌≤◌, ◌<◌, min}
use native.Mathlib.Nat as Nat
use native.Mathlib.Numerals.{add-one}
use native.Mathlib.Omega.{arith}
use borrow.Author.Tests.{leb-true, leb-false}
use lib.Dec.{leb}
use lib.ListN.{length, get_or, drop}
use lib.Seq.{drop-cons, drop-length}
use Rattle.algebra.proofs.Choice.{and_left, and_right}
use Rattle.page.specs.SheetLine.{is_digit, all_digits, amount}

-- ---- one byte more
pub rest_is : (l : List ℕ) (i : ℕ) → i < length l → drop i l ≡ get_or l i 0 ∷ drop (i + 1) l
rest_is l i h = drop-cons l i 0 h ∙ ap (λ n. get_or l i 0 ∷ drop n l) (sym (add-one i))

pub all_step : (l : List ℕ) (i : ℕ) → i < length l → all_digits (drop i l) ≡ is_digit (get_or l i 0) && all_digits (drop (i + 1) l)
unfolding all_digits
all_step l i h = ap all_digits (rest_is l i h)

-- ---- the ceiling may be put in early: more digits make no number smaller
amount_grows : (n : ℕ) (l : List ℕ) → n ≤ amount n l
unfolding amount
amount_grows n [] = omega arith
amount_grows n (b ∷ l) = let h = amount_grows (10 * n + (b - 48)) l in omega arith

early_by : (n c : ℕ) (l : List ℕ) (b : Bool) → leb n c ≡ b → min (amount (min n c) l) c ≡ min (amount n l) c
early_by n c l true e = let m : min n c ≡ n = Nat.min-eq_left (leb-true n c e) in rw m
early_by n c l false e =
    let s : c ≤ n = Nat.le_of_lt (leb-false n c e) in
    let m : min n c ≡ c = Nat.min-eq_right s in let g = amount_grows n l in let h = amount_grows c l in
    rw m (omega arith)

early : (n c : ℕ) (l : List ℕ) → min (amount (min n c) l) c ≡ min (amount n l) c
early n c l = early_by n c l (leb n c) refl

-- ---- the loop over the digits: n is the number of those before i, but not above C
abbrev pub Adding : ℕ → List ℕ → ℕ → ℕ → Type 0
Adding C l n i = (i ≤ length l) × (n ≤ C) × (all_digits (drop i l) ≡ true) × (min (amount 0 l) C ≡ min (amount n (drop i l)) C)

module _ (C : ℕ) (l : List ℕ) where
  pub adding_start : all_digits l ≡ true → Adding C l 0 0
  adding_start h = (omega arith, omega arith, h, refl)

  module _ (n i : ℕ) where
    pub adding_digit : Adding C l n i → i < length l → (48 ≤ get_or l i 0) × (get_or l i 0 ≤ 57)
    adding_digit (a, b, d, e) h =
        let t : is_digit (get_or l i 0) ≡ true = and_left _ _ (sym (all_step l i h) ∙ d) in
        (leb-true 48 (get_or l i 0) (and_left (leb 48 (get_or l i 0)) (leb (get_or l i 0) 57) t), leb-true (get_or l i 0) 57 (and_right (leb 48 (get_or l i 0)) (leb (get_or l i 0) 57) t))

    pub adding_next : Adding C l n i → i < length l → {m : ℕ} → m ≡ min (10 * n + (get_or l i 0 - 48)) C → Adding C l m (i + 1)
    unfolding amount
    adding_next (a, b, d, e) h {m} f = (
      omega arith,
      omega arith,
      and_right (is_digit (get_or l i 0)) (all_digits (drop (i + 1) l)) (sym (all_step l i h) ∙ d),
      e ∙ ap (λ r. min (amount n r) C) (rest_is l i h) ∙ sym (early (10 * n + (get_or l i 0 - 48)) C (drop (i + 1) l)) ∙ ap (λ x. min (amount x (drop (i + 1) l)) C) (sym f),
    )

    pub adding_end : Adding C l n i → i ≡ length l → n ≡ min (amount 0 l) C
    unfolding amount
    adding_end (a, b, d, e) h =
        let z : amount n (drop i l) ≡ n = ap (λ m. amount n (drop m l)) h ∙ ap (amount n) (drop-length l) in
        let f : min (amount 0 l) C ≡ min n C = e ∙ ap (λ x. min x C) z in
        omega arith
