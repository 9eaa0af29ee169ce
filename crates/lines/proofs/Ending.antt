-- The fields of a line, counted, and where the first four end.
use mathlib.Core.Path.{◌≡◌, refl, sym, ◌∙◌, ap, subst}
use mathlib.Core.Bool.{Bool, true, false}
use mathlib.Core.List.{List, [], ◌∷◌}
use Prim.Native.Nat.{ℕ, zero, suc, ◌+◌, ◌-◌, ◌≤◌, ◌<◌, min}
use native.Mathlib.Nat as Nat
use native.Mathlib.Numerals.{add-one}
use native.Mathlib.Omega.{arith}
use borrow.Author.Tests.{ltb-true, ltb-false, lt-ltb, le-ltb}
use lib.Dec.{ltb}
use lib.ListN.{length, get_or, set, take, drop, length-set, length-drop}
use lib.Seq.{drop-drop, get_or-drop, get_or-set_same, get_or-set_other}
use Rattle.page.specs.SheetLine.{fields}
use Rattle.lines.specs.declared.Parted.{Parted}
use Rattle.lines.specs.Steps.{start_of, Stands, Parts}
use Rattle.lines.specs.Steps.{Finds}
use Rattle.lines.proofs.Parting.{some_field, fields_after, next_field}

-- count fields, of which the last ends at `at`, and the ends of the first four
pub record Ending (line ends : List ℕ) (at count : ℕ) : Type 0 where
  pub within : at ≤ length line
  pub few : count ≤ 4
  pub four : length ends ≡ 4
  pub left : drop count (fields line) ≡ fields_after line at
  pub all : length (fields line) ≡ count + length (fields_after line at)
  pub next : count < 4 → start_of ends count ≡ at + 1
  pub each : (i : ℕ) → i < 4 → i < count → Stands line i (start_of ends i) (get_or ends i 0)

-- an end that is put in moves no field up to it
start_stays : (ends : List ℕ) (i n e : ℕ) → i ≤ n → start_of (set ends n e) i ≡ start_of ends i
start_stays ends zero n e h = refl
start_stays ends (suc j) n e h = ap (λ m. m + 1) (get_or-set_other ends n j e 0 (λ q. omega arith))

-- the field i from `from` to `end`, by what is left of the fields
stands_first : {line : List ℕ} {i from end : ℕ} → Finds 9 line from end → {fs : List (List ℕ)} → drop i (fields line) ≡ take (end - from) (drop from line) ∷ fs → Stands line i from end
stands_first {line} {i} {from} {end} f e =
    record { bytes = ap (λ n. get_or (fields line) n []) (sym (Nat.add-zero i)) ∙ sym (get_or-drop i (fields line) 0 []) ∙ ap (λ fs. get_or fs 0 []) e; forward = omega (arith, f.at); within = f.within }

module _ (line : List ℕ) where
  pub ending_start : {at : ℕ} → Finds 9 line 0 at → Ending line (at ∷ 0 ∷ 0 ∷ 0 ∷ []) at 1
  ending_start {at} f =
      let e = next_field line 0 at f in
      record {
        within = f.within;
        few = omega arith;
        four = refl;
        left = ap (drop 1) e;
        all = ap length e ∙ omega arith;
        next = λ h. refl;
        each = first;
      }
    where
      first : (i : ℕ) → i < 4 → i < 1 → Stands line i (start_of (at ∷ 0 ∷ 0 ∷ 0 ∷ []) i) (get_or (at ∷ 0 ∷ 0 ∷ 0 ∷ []) i 0)
      first zero h l = stands_first f (next_field line 0 at f)
      first (suc i) h l = absurd (omega arith)

  module _ {ends : List ℕ} {at count : ℕ} (k : Ending line ends at count) where
    -- one more field, which ends at `end`
    module _ (h : at < length line) (g : count < 4) {end : ℕ} (f : Finds 9 line (at + 1) end) where
      more : fields_after line at ≡ take (end - (at + 1)) (drop (at + 1) line) ∷ fields_after line end
      more = rw (lt-ltb at (length line) h) (next_field line (at + 1) end f)

      last : Stands line count (start_of (set ends count end) count) (get_or (set ends count end) count 0)
      last = rw (start_stays ends count count end (Nat.le_refl count), k.next g, get_or-set_same ends count end 0 (omega (arith, k.four))) (stands_first f (k.left ∙ more))

      stands : (i : ℕ) → i < 4 → i < count + 1 → Stands line i (start_of (set ends count end) i) (get_or (set ends count end) i 0)
      stands i l m = by (ltb i count) refl
        where
          by : (b : Bool) → ltb i count ≡ b → Stands line i (start_of (set ends count end) i) (get_or (set ends count end) i 0)
          by true e = let o = ltb-true i count e in rw (start_stays ends i count end (omega arith), get_or-set_other ends count i end 0 (λ q. omega arith)) (k.each i l o)
          by false e =
              let o = ltb-false i count e in let q : count ≡ i = omega arith in
              subst (λ n. Stands line n (start_of (set ends count end) n) (get_or (set ends count end) n 0)) q last

      pub ending_next : Ending line (set ends count end) end (count + 1)
      ending_next =
          let e = more in
          record {
            within = f.within;
            few = omega arith;
            four = length-set ends count end ∙ k.four;
            left = sym (drop-drop 1 count (fields line)) ∙ ap (drop 1) (k.left ∙ e);
            all = k.all ∙ ap (λ fs. count + length fs) e ∙ omega arith;
            next = λ l. rw (add-one count) (ap (λ m. m + 1) (get_or-set_same ends count end 0 (omega (arith, k.four))));
            each = stands;
          }

    -- no field is left
    pub ending_end : at ≡ length line → Parts line (record { count = count; ends = ends })
    ending_end h =
        let e : fields_after line at ≡ [] = rw (le-ltb at (length line) (omega arith)) in let l = k.all ∙ ap (λ fs. count + length fs) e in
        record { count = omega (arith, k.few); four = k.four; each = k.each }

    -- four fields, and another one
    pub ending_more : at < length line → count ≡ 4 → Parts line (record { count = 5; ends = ends })
    ending_more h q =
        let e : fields_after line at ≡ fields (drop (at + 1) line) = rw (lt-ltb at (length line) h) in let l = k.all ∙ ap (λ fs. count + length fs) e in let s = some_field (drop (at + 1) line) in
        record { count = omega arith; four = k.four; each = λ i j m. k.each i j (omega arith) }

-- ---- the parts of a line: its letter, and its numbers
abbrev pub numbers_in : List ℕ → List (List ℕ)
numbers_in line = drop 1 (fields line)

module _ {line : List ℕ} {r : Parted} (p : Parts line r) where
  pub letter_stands : Stands line 0 0 (get_or r.ends 0 0)
  letter_stands = p.each 0 (omega arith) (omega (arith, p.count, some_field line))

  pub letter_bytes : get_or (fields line) 0 [] ≡ take (get_or r.ends 0 0) line
  letter_bytes = let s : get_or r.ends 0 0 - 0 ≡ get_or r.ends 0 0 = omega arith in letter_stands.bytes ∙ ap (λ n. take n line) s

  pub numbers_count : r.count ≡ min (length (numbers_in line) + 1) 5
  numbers_count = omega (arith, p.count, some_field line, length-drop 1 (fields line))

  module _ (i : ℕ) (h : i < 3) (l : i + 1 < r.count) where
    pub number_stands : Stands line (i + 1) (get_or r.ends i 0 + 1) (get_or r.ends (i + 1) 0)
    number_stands = let e = p.each (suc i) (omega arith) (omega arith) in rw (add-one i) e

    pub number_bytes : get_or (numbers_in line) i [] ≡ take (get_or r.ends (i + 1) 0 - (get_or r.ends i 0 + 1)) (drop (get_or r.ends i 0 + 1) line)
    number_bytes = let s : 1 + i ≡ i + 1 = omega arith in get_or-drop 1 (fields line) i [] ∙ ap (λ n. get_or (fields line) n []) s ∙ number_stands.bytes
