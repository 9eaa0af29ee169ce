-- The two bounds of a cell, its bend, and the verdict on it.
use Rattle.std.specs.Prelude.{cond, ℕ, ◌+◌, ◌-◌, leb, eqb, ℤ, pos, neg_ℤ, nat_abs}
use Rattle.algebra.specs.Sum.{sum, sumℕ, ◌⋯◌}
use Rattle.algebra.specs.MinMax.{minℤ, maxℤ}
use Rattle.forms.specs.Bounds.{Mode}
use Rattle.forms.specs.Plane.{even_pair}
use Rattle.verdicts.specs.declared.Verdict.{Verdict}
use Rattle.verdicts.specs.Judging.{judged}
use Rattle.page.specs.Sheet.{Sheet}
use Rattle.page.specs.LocalForm.{G}

-- both start from G(0,0). For every other (a,b):
-- mode 0, a and b both even (zero is even): the lower bound gains min(0, G), the upper gains max(0, G);
-- mode 0 otherwise, and mode 1 always: the lower loses |G|, the upper gains |G|
abbrev pub low : Mode → ℕ → ℕ → ℤ → ℤ
low mode a b g = cond (eqb (a + b) 0) g (cond (even_pair mode a b) (minℤ (pos 0) g) (neg_ℤ (pos (nat_abs g))))

abbrev pub high : Mode → ℕ → ℕ → ℤ → ℤ
high mode a b g = cond (eqb (a + b) 0) g (cond (even_pair mode a b) (maxℤ (pos 0) g) (pos (nat_abs g)))

unfoldable pub lower : Sheet → Mode → ℕ → ℕ → ℕ → ℤ
lower S mode j p q = sum (0 ⋯ S.d) (λ a. sum (0 ⋯ (S.d - a)) (λ b. low mode a b (G S j p q a b)))

unfoldable pub upper : Sheet → Mode → ℕ → ℕ → ℕ → ℤ
upper S mode j p q = sum (0 ⋯ S.d) (λ a. sum (0 ⋯ (S.d - a)) (λ b. high mode a b (G S j p q a b)))

-- the bend is the sum of |G(a,b)| over a + b ≥ 2, in either mode
unfoldable pub bend : Sheet → ℕ → ℕ → ℕ → ℕ
bend S j p q = sumℕ (0 ⋯ S.d) (λ a. sumℕ (0 ⋯ (S.d - a)) (λ b. cond (leb 2 (a + b)) (nat_abs (G S j p q a b)) 0))

-- the verdict is above (lower bound > 0), below (upper bound < 0), or open; each carries both bounds and the bend (#101)
abbrev pub verdict : Sheet → Mode → ℕ → ℕ → ℕ → Verdict
verdict S mode j p q = judged (lower S mode j p q) (upper S mode j p q) (bend S j p q)
