-- The numbers of a line, field by field, until one is faulty.
use mathlib.Core.Path.{◌≡◌, refl, sym, ◌∙◌, ap, ap₂}
use mathlib.Core.Bool.{Bool, true, false, not, ◌&&◌, cond}
use mathlib.Core.List.{List, [], ◌∷◌, ◌++◌, map}
use Prim.Native.Nat.{ℕ, suc, ◌+◌, ◌-◌, ◌≤◌, ◌<◌, min}
use native.Mathlib.Nat as Nat
use native.Mathlib.Numerals.{add-one}
use native.Mathlib.Omega.{arith}
use borrow.Author.Tests.{eqb-true, eqb-false, eq-eqb, ne_eqb}
use lib.Dec.{eqb}
use lib.IntN.{ℤ, pos}
use lib.ListN.{length, get_or, set, take, drop, length-take, length-set, length-map, get_or-map, drop_of_length-le}
use lib.Seq.{get_or-take, drop-cons, take-suc, take-suc-set, take_all}
use Rattle.page.specs.SheetLine.{fields, is_letter, is_written, is_within, worth, fault, Trial, ◌at_field◌when◌, number_faults, Numbers, faulty, good, first_fault, line_numbers}
use Rattle.std.specs.Prelude.{Option, Some, None, Result, Ok, Err}
use Rattle.page.specs.declared.Refusal.{Refusal}
use Rattle.page.specs.declared.Refusal.TheVariants.{Letter, Fields, Written, Within}
use Rattle.lines.specs.declared.Fault.{Fault}
use Rattle.lines.specs.declared.Parted.{Parted}
use Rattle.lines.specs.Steps.{number_in, line_of, unless_fault, well_before, read_in, LineRead, Stands, Parts, fault_at, opening_by, fault_after}
use Rattle.lines.proofs.Ending.{numbers_in, letter_bytes, numbers_count, number_stands, number_bytes}

-- ---- the fault of the n-th field by what it holds, and how many numbers read well from there on, k of them after it
abbrev fault_of : ℕ → Result ℤ Refusal → Option Fault
fault_of n (Ok z) = None
fault_of n (Err e) = fault_at e n

abbrev if_read : Result ℤ Refusal → ℕ → ℕ
if_read (Ok z) k = suc k
if_read (Err e) k = 0

-- it decides what comes of the fields from the n-th on, how many of them read well, and the first one's number
module _ (negative : Bool) (f : List ℕ) where
  first_told : (n : ℕ) (ns : List Bool) (fs : List (List ℕ)) (more : List Trial) (zs : List ℤ)
      → first_fault (number_faults n (negative ∷ ns) (f ∷ fs) ++ more) zs ≡ unless_fault (fault_of n (number_in negative f)) (first_fault (number_faults (n + 1) ns fs ++ more) zs)
  unfolding number_in
  first_told n ns fs more zs = by (is_written f) (is_within negative (worth f)) (first_fault (number_faults (n + 1) ns fs ++ more) zs)
    where
      by : (w i : Bool) (rest : Numbers)
          → cond (not w) (faulty (fault 16 n)) (cond (not i) (faulty (fault 17 n)) rest) ≡ unless_fault (fault_of n (cond w (cond i (Ok (worth f)) (Err Within)) (Err Written))) rest
      by true true rest = refl
      by true false rest = refl
      by false i rest = refl

  first_well : (ns : List Bool) (fs : List (List ℕ)) → well_before (negative ∷ ns) (f ∷ fs) ≡ if_read (number_in negative f) (well_before ns fs)
  unfolding number_in
  first_well ns fs = by (is_written f) (is_within negative (worth f)) (well_before ns fs)
    where
      by : (w i : Bool) (k : ℕ) → cond (w && i) (suc k) 0 ≡ if_read (cond w (cond i (Ok (worth f)) (Err Within)) (Err Written)) k
      by true true k = refl
      by true false k = refl
      by false i k = refl

  first_worth : (z : ℤ) → number_in negative f ≡ Ok z → z ≡ worth f
  unfolding number_in
  first_worth z e = by (is_written f) (is_within negative (worth f)) e
    where
      by : (w i : Bool) → cond w (cond i (Ok (worth f)) (Err Within)) (Err Written) ≡ Ok z → z ≡ worth f
      by true true e = cc
      by true false e = cc
      by false i e = cc

-- ---- the first i numbers read well, and these are their worths
pub record Reading (ns : List Bool) (fs : List (List ℕ)) (values : List ℤ) (i : ℕ) : Type 0 where
  pub some : i ≤ length ns
  pub same : length fs ≡ length ns
  pub long : length values ≡ 3
  pub told : (more : List Trial) (zs : List ℤ) → first_fault (number_faults 2 ns fs ++ more) zs ≡ first_fault (number_faults (i + 2) (drop i ns) (drop i fs) ++ more) zs
  pub well : well_before ns fs ≡ i + well_before (drop i ns) (drop i fs)
  pub are : take i values ≡ take i (map worth fs)

-- the i-th of a list, and what comes after it
next_one : {A : Type 0} (l : List A) (i : ℕ) (d : A) → i < length l → drop i l ≡ get_or l i d ∷ drop (i + 1) l
next_one l i d h = rw add-one (drop-cons l i d h)

-- the worths of the first i fields, and the next one
worth_more : (fs : List (List ℕ)) (i : ℕ) → i < length fs → take (i + 1) (map worth fs) ≡ take i (map worth fs) ++ (worth (get_or fs i []) ∷ [])
worth_more fs i h =
    let g : i < length (map worth fs) = omega (arith, length-map fs worth) in
    rw (add-one i) (take-suc (map worth fs) i (worth []) g ∙ ap (λ z. take i (map worth fs) ++ (z ∷ [])) (get_or-map worth fs i []))

module _ (ns : List Bool) (fs : List (List ℕ)) where
  pub reading_start : length fs ≡ length ns → Reading ns fs (pos 0 ∷ pos 0 ∷ pos 0 ∷ []) 0
  reading_start e = record { some = omega arith; same = e; long = refl; told = λ more zs. refl; well = sym (Nat.zero-add (well_before ns fs)); are = refl }

  module _ {values : List ℤ} {i : ℕ} (k : Reading ns fs values i) where
    -- the next field, by what it holds
    module _ (h : i < length ns) {r : Result ℤ Refusal} (e : number_in (get_or ns i false) (get_or fs i []) ≡ r) where
      told_next : (more : List Trial) (zs : List ℤ)
          → first_fault (number_faults 2 ns fs ++ more) zs ≡ unless_fault (fault_of (i + 2) r) (first_fault (number_faults (i + 1 + 2) (drop (i + 1) ns) (drop (i + 1) fs) ++ more) zs)
      told_next more zs =
          let s : i + 2 + 1 ≡ i + 1 + 2 = omega arith in
          k.told more zs
          ∙ ap₂ (λ ss gs. first_fault (number_faults (i + 2) ss gs ++ more) zs) (next_one ns i false h) (next_one fs i [] (omega (arith, k.same)))
          ∙ first_told (get_or ns i false) (get_or fs i []) (i + 2) (drop (i + 1) ns) (drop (i + 1) fs) more zs
          ∙ ap₂ (λ q m. unless_fault (fault_of (i + 2) q) (first_fault (number_faults m (drop (i + 1) ns) (drop (i + 1) fs) ++ more) zs)) e s

      well_next : well_before ns fs ≡ i + if_read r (well_before (drop (i + 1) ns) (drop (i + 1) fs))
      well_next =
          k.well ∙ ap₂ (λ ss gs. i + well_before ss gs) (next_one ns i false h) (next_one fs i [] (omega (arith, k.same)))
          ∙ ap (λ m. i + m) (first_well (get_or ns i false) (get_or fs i []) (drop (i + 1) ns) (drop (i + 1) fs))
          ∙ ap (λ q. i + if_read q (well_before (drop (i + 1) ns) (drop (i + 1) fs))) e

    -- it is a number
    pub reading_next : i < length ns → {z : ℤ} → number_in (get_or ns i false) (get_or fs i []) ≡ Ok z → i < 3 → Reading ns fs (set values i z) (i + 1)
    reading_next h {z} e l = record {
      some = omega arith;
      same = k.same;
      long = length-set values i z ∙ k.long;
      told = told_next h e;
      well = well_next h e ∙ omega arith;
      are =
          let w = first_worth (get_or ns i false) (get_or fs i []) z e in
          ap (λ m. take m (set values i z)) (add-one i) ∙ take-suc-set values i z (omega (arith, k.long)) ∙ ap₂ (λ zs y. zs ++ (y ∷ [])) k.are w
          ∙ sym (worth_more fs i (omega (arith, k.same)));
    }

    -- all of them are read
    module _ (e : i ≡ length ns) where
      none_left : drop i ns ≡ []
      none_left = drop_of_length-le ns {i = i} (omega arith)

      told_end : (more : List Trial) (zs : List ℤ) → first_fault (number_faults 2 ns fs ++ more) zs ≡ first_fault more zs
      told_end more zs = k.told more zs ∙ ap (λ ss. first_fault (number_faults (i + 2) ss (drop i fs) ++ more) zs) none_left

      well_end : well_before ns fs ≡ i
      well_end = k.well ∙ ap (λ ss. i + well_before ss (drop i fs)) none_left ∙ omega arith

      are_end : take i values ≡ map worth fs
      are_end = k.are ∙ take_all i (map worth fs) (omega (arith, length-map fs worth, k.same))

-- ---- a line: its letter, the count of its numbers, and these
module _ (line : List ℕ) (letter n : ℕ) (signs : List Bool) where
  -- another letter
  pub other_letter : is_letter letter (get_or (fields line) 0 []) ≡ false → {values : List ℤ} → length values ≡ 3 → LineRead line letter n signs (record { fault = fault_at Letter 1; read = 0; values = values })
  unfolding line_numbers read_in
  other_letter e l = record { told = λ ended. rw e; read = λ ended. rw e; values = λ ended. refl; three = l }

  module _ (b : is_letter letter (get_or (fields line) 0 []) ≡ true) where
    -- another count
    pub other_count : (length (numbers_in line) ≡ length (take n signs) → ⊥) → {values : List ℤ} → length values ≡ 3 → LineRead line letter n signs (record { fault = fault_at Fields 0; read = 0; values = values })
    unfolding line_numbers read_in
    other_count e l =
        let q = ne_eqb (length (numbers_in line)) (length (take n signs)) e in
        record { told = λ ended. rw (b, q); read = λ ended. rw (b, q); values = λ ended. refl; three = l }

    module _ {values : List ℤ} {i : ℕ} (k : Reading (take n signs) (numbers_in line) values i) where
      told_on : (ended : Bool) → line_numbers letter (take n signs) (line_of line ended)
          ≡ first_fault (number_faults 2 (take n signs) (numbers_in line) ++ ((20 at_field 0 when not ended) ∷ [])) (map worth (numbers_in line))
      unfolding line_numbers
      told_on ended = rw (b, eq-eqb (length (numbers_in line)) (length (take n signs)) k.same)

      read_on : (ended : Bool) → read_in letter (take n signs) (line_of line ended) ≡ well_before (take n signs) (numbers_in line)
      unfolding read_in
      read_on ended = rw (b, eq-eqb (length (numbers_in line)) (length (take n signs)) k.same)

      -- the next number is faulty: then nothing after it matters
      pub line_fault : i < length (take n signs) → {q : Refusal} → number_in (get_or (take n signs) i false) (get_or (numbers_in line) i []) ≡ Err q → LineRead line letter n signs (fault_after q i values)
      line_fault h e = record {
        told = λ ended. told_on ended ∙ told_next (take n signs) (numbers_in line) k h e _ _;
        read = λ ended. sym (read_on ended ∙ well_next (take n signs) (numbers_in line) k h e ∙ Nat.add-zero i);
        values = λ ended. k.are;
        three = k.long;
      }

      -- all numbers are read
      pub line_read : n ≤ i → n ≤ length signs → LineRead line letter n signs (record { fault = None; read = n; values = values })
      line_read g l =
          let q : i ≡ length (take n signs) = omega (arith, length-take n signs, k.some) in let e : i ≡ n = omega (arith, length-take n signs) in
          let are : take n values ≡ map worth (numbers_in line) = rw (sym e) (are_end (take n signs) (numbers_in line) k q) in
          record {
            told = λ ended. told_on ended ∙ told_end (take n signs) (numbers_in line) k q _ _ ∙ closing ended are;
            read = λ ended. sym (read_on ended ∙ well_end (take n signs) (numbers_in line) k q ∙ e);
            values = λ ended. rw (sym e) k.are;
            three = k.long;
          }
        where
          closing : (ended : Bool) → take n values ≡ map worth (numbers_in line)
              → first_fault ((20 at_field 0 when not ended) ∷ []) (map worth (numbers_in line)) ≡ cond ended (good (take n values)) (faulty (fault 20 0))
          closing true e = ap good (sym e)
          closing false e = refl

-- ---- what is wrong before a number is read, or that nothing is
module _ (line : List ℕ) {r : Parted} (p : Parts line r) (letter n : ℕ) (signs : List Bool) {right : Bool} (e : right ≡ is_letter letter (take (get_or r.ends 0 0) line)) (few : n ≤ 3) (three : length signs ≡ 3) where
  lettered : right ≡ is_letter letter (get_or (fields line) 0 [])
  lettered = e ∙ ap (is_letter letter) (sym (letter_bytes p))

  counted : r.count ≡ min (length (numbers_in line) + 1) 5
  counted = numbers_count p

  signs_taken : length (take n signs) ≡ n
  signs_taken = omega (arith, length-take n signs)

  pub opened_faulty : {g : Fault} → opening_by right r.count (n + 1) ≡ Some g → {values : List ℤ} → length values ≡ 3 → LineRead line letter n signs (record { fault = Some g; read = 0; values = values })
  opened_faulty {g} o {values} l = by right lettered (eqb r.count (n + 1)) refl o
    where
      by : (b : Bool) → b ≡ is_letter letter (get_or (fields line) 0 []) → (t : Bool) → eqb r.count (n + 1) ≡ t
          → cond b (cond t None (fault_at Fields 0)) (fault_at Letter 1) ≡ Some g → LineRead line letter n signs (record { fault = Some g; read = 0; values = values })
      by false p t q z = rw (← z) (other_letter line letter n signs (sym p) l)
      by true p false q z = rw (← z) (other_count line letter n signs (sym p) (λ h. eqb-false r.count (n + 1) q (omega (arith, counted, signs_taken))) l)
      by true p true q z = cc

  pub opened_right : opening_by right r.count (n + 1) ≡ None → (is_letter letter (get_or (fields line) 0 []) ≡ true) × (length (numbers_in line) ≡ length (take n signs))
  opened_right o = by right lettered (eqb r.count (n + 1)) refl o
    where
      by : (b : Bool) → b ≡ is_letter letter (get_or (fields line) 0 []) → (t : Bool) → eqb r.count (n + 1) ≡ t → cond b (cond t None (fault_at Fields 0)) (fault_at Letter 1) ≡ None
          → (is_letter letter (get_or (fields line) 0 []) ≡ true) × (length (numbers_in line) ≡ length (take n signs))
      by false p t q z = cc
      by true p false q z = cc
      by true p true q z = let h = eqb-true r.count (n + 1) q in (sym p, omega (arith, signs_taken, counted))

-- ---- the next number, as the part of the line between two tabs
module _ (signs : List Bool) {line : List ℕ} {r : Parted} (p : Parts line r) {n : ℕ} {values : List ℤ} {i : ℕ} (k : Reading (take n signs) (numbers_in line) values i) (few : n ≤ 3) (three : length signs ≡ 3) (h : i < n) where
  pub among : i < length (take n signs)
  among = omega (arith, length-take n signs)

  fits : i + 1 < r.count
  fits = omega (arith, numbers_count p, k.same, length-take n signs)

  pub next_stands : Stands line (i + 1) (get_or r.ends i 0 + 1) (get_or r.ends (i + 1) 0)
  next_stands = number_stands p i (omega arith) fits

  pub next_is : number_in (get_or (take n signs) i false) (get_or (numbers_in line) i []) ≡ number_in (get_or signs i false) (take (get_or r.ends (i + 1) 0 - (get_or r.ends i 0 + 1)) (drop (get_or r.ends i 0 + 1) line))
  next_is = ap₂ number_in (get_or-take n signs i false h) (number_bytes p i (omega arith) fits)
