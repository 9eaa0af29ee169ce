-- Bytes put one after the other, and by a loop: those of each member of a list in turn.
use mathlib.Core.Path.{◌≡◌, refl, sym, ◌∙◌, ap}
use mathlib.Core.List.{List, [], ◌∷◌, ◌++◌, flat_map, append_assoc, append-nil}
use Prim.Native.Nat.{ℕ, suc, ◌+◌, ◌≤◌, ◌<◌}
use native.Mathlib.Nat as Nat
use native.Mathlib.Numerals.{add-one}
use native.Mathlib.Omega.{arith}
use borrow.Rule.Slice.PartMut.{put_mid}
use lib.ListN.{length, get_or, take, drop, length-append}
use lib.Seq.{drop-drop, take-suc, take_all, sets-eq, split_at}
use Rattle.algebra.proofs.Written.{written_two, written_length}
use Rattle.writing.specs.Steps.{Put}

pub put_two : {xs ys l m n : List ℕ} {a b r : ℕ} → Put a xs l m b → Put b ys m n r → Put a (xs ++ ys) l n r
put_two h j = record { put = written_two h.put j.put; fits = omega (arith, written_length h.put) }

pub put_length : {xs old now : List ℕ} {at r : ℕ} → Put at xs old now r → length now ≡ length old
put_length h = written_length h.put

-- what is put at the beginning of a place stands before the later entries as they were
pub put_over : {xs old now : List ℕ} {r : ℕ} → Put 0 xs old now r → (r ≡ length xs) × (now ≡ xs ++ drop (length xs) old)
put_over {xs} {old} h =
    let e : 0 + length xs ≡ length xs = Nat.zero-add (length xs) in
    (h.put.ends ∙ e, h.put.written ∙ sets-eq xs old 0 (omega (arith, h.put.ends, h.fits)) ∙ ap (λ n. xs ++ drop n old) e)

-- and what stands so was put there
pub over_put : {xs old now : List ℕ} {r : ℕ} → length xs ≤ length old → r ≡ length xs → now ≡ xs ++ drop (length xs) old → Put 0 xs old now r
over_put {xs} {old} h e f =
    let z : 0 + length xs ≡ length xs = Nat.zero-add (length xs) in
    record { put = record { ends = e ∙ sym z; written = f ∙ sym (sets-eq xs old 0 (omega arith) ∙ ap (λ n. xs ++ drop n old) z) }; fits = omega arith }

-- what a part of the place is made to hold was put there
pub put_part : {xs ys old : List ℕ} {at k : ℕ} → ys ≡ xs → k ≡ length xs → at + length xs ≤ length old → Put at xs old (put_mid at k old ys) (at + length xs)
put_part {xs} {old = old} {at = at} e n h = record { put = record { ends = refl; written = rw (e, n, drop-drop (length xs) at old, ← append_assoc (take at old) xs (drop (at + length xs) old)) (sym (sets-eq xs old at h)) }; fits = h }

-- ---- what f gives for each of the first i members of xs
flat_map-++ : (f : ℕ → List ℕ) (xs ys : List ℕ) → flat_map f (xs ++ ys) ≡ flat_map f xs ++ flat_map f ys
unfolding flat_map
flat_map-++ f [] ys = refl
flat_map-++ f (x ∷ xs) ys = rw (flat_map-++ f xs ys, append_assoc)

next_member : (f : ℕ → List ℕ) (xs : List ℕ) (i : ℕ) → i < length xs → flat_map f (take (i + 1) xs) ≡ flat_map f (take i xs) ++ f (get_or xs i 0)
unfolding flat_map
next_member f xs i h = rw (add-one i, take-suc xs i 0 h, flat_map-++ f (take i xs) (get_or xs i 0 ∷ []), append-nil (f (get_or xs i 0)))

-- they and the next member's are within the whole
next_within : (f : ℕ → List ℕ) (xs : List ℕ) (i : ℕ) → i < length xs → length (flat_map f (take i xs)) + length (f (get_or xs i 0)) ≤ length (flat_map f xs)
unfolding flat_map
next_within f xs i h =
    let whole = ap (flat_map f) (split_at xs i 0 h) ∙ flat_map-++ f (take i xs) (get_or xs i 0 ∷ drop (suc i) xs) in
    omega (arith, simp length-append at (ap length whole))

pub record Putting (f : ℕ → List ℕ) (xs : List ℕ) (at : ℕ) (old place : List ℕ) (end i : ℕ) : Type 0 where
  pub within : i ≤ length xs
  pub so_far : Put at (flat_map f (take i xs)) old place end

module _ {f : ℕ → List ℕ} {xs : List ℕ} {at : ℕ} {old : List ℕ} where
  pub putting_start : at ≤ length old → Putting f xs at old old at 0
  unfolding flat_map
  putting_start h = record { within = omega arith; so_far = record { put = record { ends = sym (Nat.add-zero at); written = refl }; fits = h } }

  pub putting_next : {place now : List ℕ} {end i r : ℕ} → i < length xs → Putting f xs at old place end i → Put end (f (get_or xs i 0)) place now r → Putting f xs at old now r (i + 1)
  putting_next {i = i} h p q = record { within = omega arith; so_far = rw (next_member f xs i h) (put_two p.so_far q) }

  -- room for the whole is room for the next member
  pub putting_room : {place : List ℕ} {end i : ℕ} → at + length (flat_map f xs) ≤ length old → i < length xs → Putting f xs at old place end i → end + length (f (get_or xs i 0)) ≤ length place
  putting_room {i = i} r h p = omega (arith, p.so_far.put.ends, put_length p.so_far, next_within f xs i h)

  pub putting_end : {place : List ℕ} {end i : ℕ} → length xs ≤ i → Putting f xs at old place end i → Put at (flat_map f xs) old place end
  putting_end {i = i} h p = rw (take_all i xs h) at p.so_far
