-- Lists written one after the other.
use mathlib.Core.Path.{◌≡◌, refl, sym, ◌∙◌, ap}
use mathlib.Core.List.{List, [], ◌∷◌, ◌++◌}
use Prim.Native.Nat.{ℕ, suc, ◌+◌, ◌<◌}
use native.Mathlib.Nat as Nat
use native.Mathlib.Omega.{arith}
use lib.ListN.{length, set, length-append}
use lib.Seq.{sets, length-sets, set_comm}
use Rattle.algebra.specs.Written.{Written}

pub sets_append : (xs ys l : List ℕ) (i : ℕ) → sets (sets l i xs) (i + length xs) ys ≡ sets l i (xs ++ ys)
sets_append [] ys l i = ap (λ n. sets l n ys) (Nat.add-zero i)
sets_append (x ∷ xs) ys l i =
    ap (λ n. sets (sets (set l i x) (suc i) xs) n ys) (Nat.add-suc i (length xs) ∙ sym (Nat.suc-add i (length xs)))
    ∙ sets_append xs ys (set l i x) (suc i)

-- the later part may be written first: a byte before it changes none of its own
set_past : (ys l : List ℕ) (a x j : ℕ) → a < j → set (sets l j ys) a x ≡ sets (set l a x) j ys
set_past [] l a x j h = refl
set_past (y ∷ ys) l a x j h =
    set_past ys (set l j y) a x (suc j) (omega arith)
    ∙ ap (λ z. sets z (suc j) ys) (set_comm l j a y x (λ e. omega arith))

pub sets_before : (xs ys l : List ℕ) (i : ℕ) → sets (sets l (i + length xs) ys) i xs ≡ sets l i (xs ++ ys)
sets_before [] ys l i = ap (λ n. sets l n ys) (Nat.add-zero i)
sets_before (x ∷ xs) ys l i =
    let e : i + suc (length xs) ≡ suc i + length xs = omega arith in
    ap (λ z. sets z (suc i) xs) (set_past ys l i x (i + suc (length xs)) (omega arith) ∙ ap (λ n. sets (set l i x) n ys) e)
    ∙ sets_before xs ys (set l i x) (suc i)

pub written_two : {xs ys l m n : List ℕ} {a b r : ℕ} → Written xs a l m b → Written ys b m n r → Written (xs ++ ys) a l n r
written_two {xs} {ys} {l} {a = a} {b} h j = record {
  ends = omega (arith, h.ends, j.ends, length-append xs ys);
  written = j.written
      ∙ ap (λ z. sets z b ys) h.written
      ∙ ap (λ i. sets (sets l a xs) i ys) h.ends
      ∙ sets_append xs ys l a;
}

-- the list that is written over stays as long
pub written_length : {xs old now : List ℕ} {at end : ℕ} → Written xs at old now end → length now ≡ length old
written_length {xs} {old} {at = at} h = ap length h.written ∙ length-sets old at xs
