-- Coloured, counted once more: in the raster, and in the listing.
use mathlib.Core.Path.{◌≡◌, refl, sym, ◌∙◌, ap, ap₂}
use mathlib.Core.Bool.{Bool, true, false, cond}
use mathlib.Core.List.{List, [], ◌∷◌, map}
use Prim.Native.Nat.{ℕ, zero, suc, ◌+◌, ◌*◌, ◌/◌, ◌%◌, ◌^◌, ◌≤◌}
use native.Mathlib.Nat as Nat
use native.Mathlib.Numerals.{add-one}
use native.Mathlib.Omega.{arith}
use lib.Arith.{digits_div, digits_mod}
use lib.Dec.{eqb}
use lib.ListN.{length}
use Rattle.algebra.specs.Sum.{sumℕ, span}
use Rattle.algebra.proofs.Choice.{cond_ap}
use Rattle.algebra.proofs.Power.{*_pow}
use Rattle.algebra.proofs.Sum.{sumℕ-++}
use Rattle.algebra.proofs.Run.{span-++, sumℕ_span_none, sumℕ_span_next}
use Rattle.verdicts.specs.Walking.{Verdicts, colour, raster, coloured, those, record_of}
use Rattle.verdicts.specs.Facts.{colour_in, ColouredCounted}
use Rattle.verdicts.specs.Operational.{coloured_from, records_from}
use Rattle.verdicts.proofs.Cells.{walk_induction, coloured_cleared, coloured_last, coloured_open, records_cleared, records_last, records_open}
use Rattle.verdicts.proofs.Colours.{colour_of_small}
use Rattle.verdicts.proofs.Parts.{four_cong, length_in_turn, those_in_turn}
use Rattle.verdicts.proofs.Tallies.{coloured_is}
use Rattle.verdicts.proofs.Listing.{records_are}

-- ---- in the raster
-- how many have the property, as a sum
counted : (b : Bool) (n : ℕ) → cond b (suc n) n ≡ cond b 1 0 + n
counted true n = omega arith
counted false n = omega arith

how_many_those : {X Y : Type 0} (has : Y → Bool) (g : X → Y) (xs : List X) → length (those has (map g xs)) ≡ sumℕ xs (λ x. cond (has (g x)) 1 0)
unfolding those sumℕ
how_many_those has g [] = refl
how_many_those has g (x ∷ xs) =
    cond_ap length (has (g x)) (g x ∷ those has (map g xs)) (those has (map g xs))
    ∙ counted (has (g x)) (length (those has (map g xs)))
    ∙ ap (λ n. cond (has (g x)) 1 0 + n) (how_many_those has g xs)

-- a sum over the numbers below m·n is one over m rows of n columns
module _ (n : ℕ) (h : ℕ → ℕ → ℕ) where
  -- the first j columns of row m
  sum_row : (m j : ℕ) → j ≤ n → sumℕ (span (m * n) (m * n + j)) (λ i. h (i % n) (i / n)) ≡ sumℕ (span 0 j) (λ p. h p m)
  sum_row m zero l = sumℕ_span_none (m * n) (m * n + 0) _ (omega arith) ∙ sym (sumℕ_span_none 0 0 _ (omega arith))
  sum_row m (suc j) l =
      let next : m * n + suc j ≡ (m * n + j) + 1 = omega arith in
      ap (λ e. sumℕ (span (m * n) e) (λ i. h (i % n) (i / n))) next
      ∙ sumℕ_span_next (m * n) (m * n + j) _ (omega arith)
      ∙ ap₂ ◌+◌ (sum_row m j (omega arith)) (ap₂ h (digits_mod m l) (digits_div m l))
      ∙ sym (ap (λ e. sumℕ (span 0 e) (λ p. h p m)) (sym (add-one j)) ∙ sumℕ_span_next 0 j _ (omega arith))

  sum_rows : (m : ℕ) → sumℕ (span 0 (m * n)) (λ i. h (i % n) (i / n)) ≡ sumℕ (span 0 m) (λ q. sumℕ (span 0 n) (λ p. h p q))
  sum_rows zero = sumℕ_span_none 0 (0 * n) _ (omega (arith, Nat.zero-mul n)) ∙ sym (sumℕ_span_none 0 0 _ (omega arith))
  sum_rows (suc m) =
      ap (λ l. sumℕ l (λ i. h (i % n) (i / n))) (ap (span 0) (Nat.suc-mul m n) ∙ span-++ 0 (m * n) (m * n + n) (omega arith) (omega arith))
      ∙ sumℕ-++ (span 0 (m * n)) (span (m * n) (m * n + n)) _
      ∙ ap₂ ◌+◌ (sum_rows m) (sum_row m n (Nat.le_refl n))
      ∙ sym (ap (λ e. sumℕ (span 0 e) (λ q. sumℕ (span 0 n) (λ p. h p q))) (sym (add-one m)) ∙ sumℕ_span_next 0 m _ (omega arith))

in_raster : (v : Verdicts) (k : ℕ) → coloured v k ≡ length (those (λ b. eqb b 1) (raster v k))
unfolding coloured raster
in_raster v k = sym (
    how_many_those (λ b. eqb b 1) (λ n. colour v k (n % 2 ^ k) (n / 2 ^ k)) (span 0 (4 ^ k))
    ∙ ap (λ n. sumℕ (span 0 n) (λ i. cond (eqb (colour v k (i % 2 ^ k) (i / 2 ^ k)) 1) 1 0)) (*_pow 2 2 k)
    ∙ sum_rows (2 ^ k) (λ p q. cond (eqb (colour v k p q) 1) 1 0) (2 ^ k)
    )

-- ---- in the listing
-- the colour of a record is 1
abbrev is_coloured : ℕ → Bool
is_coloured r = eqb (colour_in r) 1

record_counted : (c level p q : ℕ) → c ≤ 3 → length (those is_coloured (record_of c level p q ∷ [])) ≡ cond (eqb c 1) 1 0
unfolding those
record_counted c level p q h =
    let e : colour_in (record_of c level p q) ≡ c = omega arith in
    cond_ap length (is_coloured (record_of c level p q)) (record_of c level p q ∷ []) [] ∙ ap (λ d. cond (eqb d 1) 1 0) e

coloured_records : (v : Verdicts) (level n p q : ℕ) → length (those is_coloured (records_from v level n p q)) ≡ coloured_from v level n p q
coloured_records v = walk_induction v (λ level n p q. length (those is_coloured (records_from v level n p q)) ≡ coloured_from v level n p q)
    (λ level n p q c s.
    ap (λ l. length (those is_coloured l)) (records_cleared v level p q s n)
    ∙ record_counted c level p q (rw s.painted at (colour_of_small (v level p q ∷ [])))
    ∙ ap (λ b. cond b 1 0) s.plain
    ∙ sym (coloured_cleared v level p q s n))
    (λ level p q s.
    ap (λ l. length (those is_coloured l)) (records_last v level p q s) ∙ record_counted 1 level p q (omega arith) ∙ sym (coloured_last v level p q s))
    (λ level n p q s h.
    ap (λ l. length (those is_coloured l)) (records_open v level p q s n)
    ∙ ap length (those_in_turn (records_from v (level + 1) n) p q is_coloured)
    ∙ length_in_turn (λ a b. those is_coloured (records_from v (level + 1) n a b)) p q
    ∙ four_cong _ (coloured_from v (level + 1) n) p q h
    ∙ sym (coloured_open v level p q s n))

pub coloured_counted : ColouredCounted
coloured_counted v k = (in_raster v k, sym (coloured_is v k) ∙ sym (coloured_records v 0 k 0 0) ∙ ap (λ l. length (those is_coloured l)) (records_are v k))
