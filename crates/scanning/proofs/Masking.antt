-- The mask's rows from the digits: a row byte by byte, and the rows from the last one on.
use mathlib.Core.Path.{◌≡◌, refl, sym, ◌∙◌, ap, ap₂}
use mathlib.Core.List.{List, [], ◌∷◌, ◌++◌, map, flat_map, map-id}
use Prim.Native.Nat.{ℕ, suc, ◌+◌, ◌*◌, ◌-◌, ◌^◌, ◌≤◌, ◌<◌}
use native.Mathlib.Nat as Nat
use native.Mathlib.Numerals.{add-one}
use native.Mathlib.Omega.{arith}
use lib.Arith.{digits_lt}
use lib.ListN.{length, get_or, set, take, drop, length-drop}
use lib.Seq.{sets, length-sets, take-suc, length-take-le, drop-drop, get_or-drop, get_or-take}
use Rattle.algebra.specs.Sum.{span}
use Rattle.algebra.proofs.Run.{span_first, span_none, span_member}
use Rattle.algebra.proofs.Written.{sets_append, sets_before}
use Rattle.verdicts.proofs.Lists.{map_cong, flat_map_cong}
use Rattle.page.proofs.Amounts.{rest_is}
use Rattle.pbm.specs.Reading.{mask}
use Rattle.pbm.proofs.Masks.{map_first}
use Rattle.scanning.specs.Steps.{bits_ahead, BitFound, RowTaken, RowsTaken}

-- ---- the first p bytes of a row are set
pub record Rowing (text : List ℕ) (at from side : ℕ) (old place : List ℕ) (next p : ℕ) : Type 0 where
  pub within : p ≤ side
  pub put : place ≡ sets old from (take p (bits_ahead (drop at text)))
  pub ahead : bits_ahead (drop next text) ≡ drop p (bits_ahead (drop at text))

module _ {text : List ℕ} {at from side : ℕ} {old : List ℕ} where
  pub rowing_start : Rowing text at from side old old at 0
  rowing_start = record { within = omega arith; put = refl; ahead = refl }

  module _ (many : side ≤ length (bits_ahead (drop at text))) {place : List ℕ} {next p : ℕ} (s : Rowing text at from side old place next p) where
    -- a digit is ahead
    pub rowing_some : p < side → 0 < length (bits_ahead (drop next text))
    rowing_some h = rw (s.ahead, length-drop p (bits_ahead (drop at text))) (omega arith)

    -- and its bit is the next of the row
    pub rowing_next : {r : ℕ} → p < side → BitFound text next r → Rowing text at from side old (set place (from + p) (get_or text r 0 - 48)) (r + 1) (p + 1)
    rowing_next {r} h f =
        let B : List ℕ = bits_ahead (drop at text) in
        let both : get_or B p 0 ∷ drop (p + 1) B ≡ (get_or text r 0 - 48) ∷ bits_ahead (drop (r + 1) text) = sym (rest_is B p (omega arith)) ∙ sym s.ahead ∙ f.ahead in
        let bit : get_or text r 0 - 48 ≡ get_or B p 0 = cc in
        let long : length (take p B) ≡ p = length-take-le p B (omega arith) in
        record {
          within = omega arith;
          put = ap₂ (λ l b. set l (from + p) b) s.put bit
              ∙ ap (λ n. set (sets old from (take p B)) (from + n) (get_or B p 0)) (sym long)
              ∙ sets_append (take p B) (get_or B p 0 ∷ []) old from
              ∙ ap (sets old from) (sym (ap (λ n. take n B) (add-one p) ∙ take-suc B p 0 (omega arith)));
          ahead = cc;
        }

  pub rowing_length : {place : List ℕ} {next p : ℕ} → Rowing text at from side old place next p → length place ≡ length old
  rowing_length s = ap length s.put ∙ simp length-sets

  pub rowing_end : {place : List ℕ} {next p : ℕ} → Rowing text at from side old place next p → side ≤ p → RowTaken text at from side old place next
  rowing_end {place} {next} {p} s h = let e : p ≡ side = let w = s.within in omega arith in record {
    put = s.put ∙ ap (λ n. sets old from (take n (bits_ahead (drop at text)))) e;
    ahead = s.ahead ∙ ap (λ n. drop n (bits_ahead (drop at text))) e;
  }

-- ---- row q of the mask
abbrev pub row_of : ℕ → List ℕ → ℕ → List ℕ
row_of side bits q = map (λ p. get_or bits ((side - 1 - q) * side + p) 0) (span 0 side)

-- a row ends within the square
row_end : (n side : ℕ) → n < side → n * side + side ≤ side * side
row_end n side h = let l : suc n * side ≤ side * side = Nat.mul-le-mul_right side h in rw (Nat.suc-mul n side) at l

-- where it begins is a number of 64 bits, if a place has room for the square
pub row_number : (q side : ℕ) {n : ℕ} → q < side → side * side ≤ n → n < 2 ^ 64 → q * side < 2 ^ 64
row_number q side h l m = omega (arith, row_end q side h)

-- it is the n-th piece of the bits, where n rows are above it
row_taken : (side n : ℕ) (bits : List ℕ) → n < side → side * side ≤ length bits → take side (drop (n * side) bits) ≡ row_of side bits (side - 1 - n)
row_taken side n bits h l =
    let long : side ≤ length (drop (n * side) bits) = omega (arith, length-drop (n * side) bits, row_end n side h) in
    let e : n ≡ side - 1 - (side - 1 - n) = omega arith in
    sym (map-id (take side (drop (n * side) bits)))
    ∙ sym (map_first (λ x. x) (drop (n * side) bits) side long)
    ∙ map_cong (span 0 side) (λ p m. get_or-drop (n * side) bits p 0 ∙ ap (λ k. get_or bits (k * side + p) 0) e)

-- ---- the last n rows of the mask are set
pub record Masking (text : List ℕ) (at side : ℕ) (old place : List ℕ) (next n : ℕ) : Type 0 where
  pub within : n ≤ side
  pub put : place ≡ sets old ((side - n) * side) (flat_map (row_of side (bits_ahead (drop at text))) (span (side - n) side))
  pub ahead : bits_ahead (drop next text) ≡ drop (n * side) (bits_ahead (drop at text))

module _ {text : List ℕ} {at side : ℕ} {old : List ℕ} where
  pub masking_start : Masking text at side old old at 0
  unfolding flat_map
  masking_start = record {
    within = omega arith;
    put = sym (ap (λ qs. sets old ((side - 0) * side) (flat_map (row_of side (bits_ahead (drop at text))) qs)) (span_none (side - 0) side (omega arith)));
    ahead = ap (λ n. drop n (bits_ahead (drop at text))) (sym (Nat.zero-mul side));
  }

  pub masking_length : {place : List ℕ} {next n : ℕ} → Masking text at side old place next n → length place ≡ length old
  masking_length s = ap length s.put ∙ simp length-sets

  -- a row ends within the place
  pub row_fits : {place : List ℕ} {next n : ℕ} → Masking text at side old place next n → side * side ≤ length old → (q : ℕ) → q < side → q * side + side ≤ length place
  row_fits s l q h = omega (arith, row_end q side h, masking_length s)

  module _ (many : side * side ≤ length (bits_ahead (drop at text))) {place : List ℕ} {next n : ℕ} (s : Masking text at side old place next n) (h : n < side) where
    -- the digits of a row are ahead
    pub masking_some : side ≤ length (bits_ahead (drop next text))
    masking_some = rw (s.ahead, length-drop (n * side) (bits_ahead (drop at text))) (omega (arith, row_end n side h))

    -- and it goes before the rows that are set
    pub masking_next : {now : List ℕ} {r : ℕ} → RowTaken text next ((side - 1 - n) * side) side place now r → Masking text at side old now r (n + 1)
    unfolding flat_map
    masking_next {now} {r} t =
        let B : List ℕ = bits_ahead (drop at text) in
        let q : ℕ = side - 1 - n in
        let later : List ℕ = flat_map (row_of side B) (span (side - n) side) in
        let row : take side (bits_ahead (drop next text)) ≡ row_of side B q = ap (take side) s.ahead ∙ row_taken side n B h many in
        let long : length (row_of side B q) ≡ side = sym (ap length row) ∙ length-take-le side (bits_ahead (drop next text)) masking_some in
        let same : suc q ≡ side - n = omega arith in
        let start : (side - n) * side ≡ q * side + length (row_of side B q) = ap (λ m. m * side) (sym same) ∙ Nat.suc-mul q side ∙ ap (λ m. q * side + m) (sym long) in
        let here : q ≡ side - (n + 1) = omega arith in
        record {
          within = omega arith;
          put = t.put
              ∙ ap₂ (λ l xs. sets l (q * side) xs) (s.put ∙ ap (λ m. sets old m later) start) row
              ∙ sets_before (row_of side B q) later old (q * side)
              ∙ ap (λ m. sets old (q * side) (row_of side B q ++ flat_map (row_of side B) (span m side))) (sym same)
              ∙ ap (λ qs. sets old (q * side) (flat_map (row_of side B) qs)) (sym (span_first q side (omega arith)))
              ∙ ap (λ m. sets old (m * side) (flat_map (row_of side B) (span m side))) here;
          ahead = t.ahead ∙ ap (drop side) s.ahead ∙ drop-drop side (n * side) B ∙ ap (λ m. drop m B) (sym (ap (λ m. m * side) (add-one n) ∙ Nat.suc-mul n side));
        }

  pub masking_end : {place : List ℕ} {next n : ℕ} → Masking text at side old place next n → side ≤ n → RowsTaken text at side old place
  unfolding mask
  masking_end {place} {next} {n} s h =
      let none : side - n ≡ 0 = omega arith in
      s.put ∙ ap (λ m. sets old (m * side) (flat_map (row_of side (bits_ahead (drop at text))) (span m side))) none
      ∙ ap (λ m. sets old m (flat_map (row_of side (bits_ahead (drop at text))) (span 0 side))) (Nat.zero-mul side)

-- ---- a mask has a byte for each of its cells, and is made of the first bits, as many as it has bytes
pub mask_first : (side : ℕ) (bits : List ℕ) → mask side (take (side * side) bits) ≡ mask side bits
unfolding mask
mask_first side bits = flat_map_cong (span 0 side) (λ q i. map_cong (span 0 side) (λ p j. get_or-take (side * side) bits _ 0 (inside q p (span_member 0 side i).1 (span_member 0 side j).1)))
  where
    inside : (q p : ℕ) → q < side → p < side → (side - 1 - q) * side + p < side * side
    inside q p h k = digits_lt (omega arith) k
