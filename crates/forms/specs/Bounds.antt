-- The two bounds over a box, and its bend, from the local form.
use Rattle.std.specs.Prelude.{Bool, false, cond, List, ℕ, zero, suc, leb, eqb, ℤ, pos, neg_ℤ, nat_abs}
use Rattle.algebra.specs.MinMax.{minℤ, maxℤ}
use Rattle.algebra.specs.Sum.{sum, sumℕ}
use Rattle.forms.specs.Vectors.{total, all_even}
use Rattle.forms.specs.Points.{Point}
use Rattle.forms.specs.Polynomial.{Polynomial, indices}
use Rattle.forms.specs.LocalForm.{local}

-- the two modes: 0, modified affine, and 1, the centred form
pub data Mode : Type 0 where
  affine centred : Mode

-- by its number. Any number above 1 is refused by 5 before this is asked
abbrev pub mode_of : ℕ → Mode
mode_of zero = affine
mode_of (suc n) = centred

-- the even rule: mode 0, and every exponent even
abbrev pub even_rule : Mode → List ℕ → Bool
even_rule affine a = all_even a
even_rule centred a = false

-- what g = G(a) adds to each bound: g itself at a = 0; elsewhere min(0,g) and max(0,g) by the even rule, and -|g| and |g| without it
unfoldable pub low : Mode → List ℕ → ℤ → ℤ
low mode a g = cond (eqb (total a) 0) g (cond (even_rule mode a) (minℤ (pos 0) g) (neg_ℤ (pos (nat_abs g))))

unfoldable pub high : Mode → List ℕ → ℤ → ℤ
high mode a g = cond (eqb (total a) 0) g (cond (even_rule mode a) (maxℤ (pos 0) g) (pos (nat_abs g)))

unfoldable pub lower : Polynomial → Mode → Point → ℕ → ℤ
lower F mode u H = sum (indices F) (λ a. low mode a (local F u H a))

unfoldable pub upper : Polynomial → Mode → Point → ℕ → ℤ
upper F mode u H = sum (indices F) (λ a. high mode a (local F u H a))

-- ---- the bend: the sum of |G(a)| over |a| ≥ 2
abbrev pub bends : List ℕ → Bool
bends a = leb 2 (total a)

unfoldable pub bent : List ℕ → ℤ → ℕ
bent a g = cond (bends a) (nat_abs g) 0

unfoldable pub bend : Polynomial → Point → ℕ → ℕ
bend F u H = sumℕ (indices F) (λ a. bent a (local F u H a))
