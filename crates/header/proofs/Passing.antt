-- Gaps, passed byte by byte, and a comment before the white space that opens the digits.
use mathlib.Core.Path.{◌≡◌, refl, sym, ◌∙◌, ap, subst}
use mathlib.Core.Bool.{Bool, true, false}
use mathlib.Core.List.{List, []}
use Prim.Native.Nat.{ℕ, ◌+◌, ◌-◌, ◌≤◌, ◌<◌}
use native.Mathlib.Omega.{arith}
use native.Mathlib.Decide.{dec_lt}
use borrow.Author.Tests.{lt-ltb, le-ltb}
use lib.ListN.{length, get_or, take, drop}
use lib.Seq.{drop-length}
use Rattle.std.proofs.Common.{None}
use Rattle.page.proofs.Amounts.{rest_is}
use Rattle.pbm.specs.Refusals.{Found}
use Rattle.pbm.specs.Steps.{in_gap, goes_on, after_gap, is_parted, after_comment, opening_then}
use Rattle.header.specs.Steps.{GapPassed, CommentEnds, CommentPassed, OpenedTo, Opened}
use Rattle.header.proofs.Firsts.{all_left}

-- nothing is left at the text's end
pub nothing_left : (text : List ℕ) (i : ℕ) → i ≡ length text → drop i text ≡ []
nothing_left text i e = ap (λ n. drop n text) e ∙ drop-length text

-- ---- a gap: what follows it is what follows it from i on, where `inside` says whether the byte at i stands in a comment
pub record Passing (text : List ℕ) (at : ℕ) (inside : Bool) (i : ℕ) : Type 0 where
  pub rest : after_gap false (drop at text) ≡ after_gap inside (drop i text)
  pub begun : at < i → is_parted (drop at text) ≡ true
  pub outside : i ≡ at → inside ≡ false
  pub further : at ≤ i
  pub within : i ≤ length text

module _ (text : List ℕ) (at : ℕ) where
  pub passing_start : at ≤ length text → Passing text at false at
  passing_start h = record { rest = refl; begun = λ l. absurd (omega arith); outside = λ e. refl; further = omega arith; within = h }

  module _ {inside : Bool} (i : ℕ) (p : Passing text at inside i) where
    -- at the first byte, whether it belongs to a gap is whether there is one
    first : i < length text → i ≡ at → is_parted (drop at text) ≡ in_gap inside (get_or text i 0)
    first h e = ap (λ n. is_parted (drop n text)) (sym e) ∙ ap is_parted (rest_is text i h) ∙ ap (λ t. in_gap t (get_or text i 0)) (sym (p.outside e))

    -- a byte of the gap
    pub passing_next : i < length text → {g : Bool} → g ≡ in_gap inside (get_or text i 0) → g ≡ true → {on : Bool} → on ≡ goes_on inside (get_or text i 0) → Passing text at on (i + 1)
    unfolding after_gap
    passing_next h e g o =
        let t : in_gap inside (get_or text i 0) ≡ true = sym e ∙ g in
        record {
          rest = p.rest ∙ ap (after_gap inside) (rest_is text i h) ∙ rw t (ap (λ on. after_gap on (drop (i + 1) text)) (sym o));
          begun = λ l. elim (dec_lt at i) [ yes m ↦ p.begun m | no m ↦ first h (let f = p.further in omega arith) ∙ t ];
          outside = λ q. let f = p.further in absurd (omega arith);
          further = let f = p.further in omega arith;
          within = omega arith;
        }

    -- it ends here
    done : after_gap inside (drop i text) ≡ drop i text → (i ≡ at → is_parted (drop at text) ≡ false) → GapPassed text at i
    done e n = record {
      rest = p.rest ∙ e;
      parted = elim (dec_lt at i) [ yes l ↦ p.begun l ∙ sym (lt-ltb at i l) | no l ↦ let f = p.further in n (omega arith) ∙ sym (le-ltb at i (omega arith)) ];
      further = p.further;
      within = p.within;
    }

    pub passing_stop : i < length text → {g : Bool} → g ≡ in_gap inside (get_or text i 0) → g ≡ false → GapPassed text at i
    unfolding after_gap
    passing_stop h e g =
        let t : in_gap inside (get_or text i 0) ≡ false = sym e ∙ g in
        done (ap (after_gap inside) (rest_is text i h) ∙ rw t (sym (rest_is text i h))) (λ q. first h q ∙ t)

    pub passing_end : i ≡ length text → GapPassed text at (length text)
    unfolding after_gap
    passing_end e =
        let n = nothing_left text i e in
        subst (λ m. GapPassed text at m) e (done (ap (after_gap inside) n ∙ sym n) (λ q. ap (λ m. is_parted (drop m text)) (sym q) ∙ ap is_parted n))

-- ---- the white space that opens the digits: `#` is none, and the comment that it begins decides
hash_opens : (text : List ℕ) (at : ℕ) → at < length text → get_or (take (length text - at) (drop at text)) 0 0 ≡ 35 → (rest : List ℕ → Found) → opening_then (drop at text) rest ≡ after_comment (drop (at + 1) text) rest
hash_opens text at h e rest =
    let first = ap (λ l. get_or l 0 0) (all_left text at ∙ rest_is text at h) in
    ap (λ l. opening_then l rest) (rest_is text at h) ∙ rw (sym first ∙ e)

module _ (text : List ℕ) (at : ℕ) (h : at < length text) (e : get_or (take (length text - at) (drop at text)) 0 0 ≡ 35) where
  pub opened_unended : CommentPassed text (at + 1) None → Opened text at None
  opened_unended n rest = hash_opens text at h e rest ∙ n rest

  pub opened_comment : {end : ℕ} → CommentEnds text (at + 1) end → OpenedTo text at (end + 1)
  opened_comment d = record { step = λ rest. hash_opens text at h e rest ∙ d.step rest; further = omega (arith, d.further); within = omega (arith, d.within) }
