-- The walk as it goes: what examining a cell gives, with n levels below it, for any verdicts. None of it is the page's; proofs/ show that it gives what the page defines.
use Rattle.std.specs.Prelude.{List, [], ◌∷◌, ℕ, zero, suc, max, ◌+◌, ◌*◌, ◌/◌, ◌^◌}
use Rattle.verdicts.specs.declared.Verdict.{Verdict}
use Rattle.verdicts.specs.declared.Verdict.TheVariants.{Above, Below, Open}
use Rattle.verdicts.specs.Judging.{carried_bend}
use Rattle.verdicts.specs.Walking.{Verdicts, in_turn, record_of}

-- what a cleared cell gives, by its colour, or what an open one gives
abbrev pub by_verdict : {X : Type 0} → Verdict → (ℕ → X) → X → X
by_verdict (Above l u b) cleared opened = cleared 2
by_verdict (Below l u b) cleared opened = cleared 3
by_verdict (Open l u b) cleared opened = opened

-- the sum over the four parts of a cell
abbrev pub four : (ℕ → ℕ → ℕ) → ℕ → ℕ → ℕ
four g p q = g (2 * p) (2 * q) + g (2 * p + 1) (2 * q) + g (2 * p) (2 * q + 1) + g (2 * p + 1) (2 * q + 1)

-- and the largest of them
abbrev pub largest_four : (ℕ → ℕ → ℕ) → ℕ → ℕ → ℕ
largest_four g p q = max (max (g (2 * p) (2 * q)) (g (2 * p + 1) (2 * q))) (max (g (2 * p) (2 * q + 1)) (g (2 * p + 1) (2 * q + 1)))

unfoldable pub visited_from : Verdicts → ℕ → ℕ → ℕ → ℕ → ℕ
visited_from v level zero p q = 1
visited_from v level (suc n) p q = by_verdict (v level p q) (λ c. 1) (1 + four (visited_from v (level + 1) n) p q)

unfoldable pub coloured_from : Verdicts → ℕ → ℕ → ℕ → ℕ → ℕ
coloured_from v level zero p q = by_verdict (v level p q) (λ c. 0) 1
coloured_from v level (suc n) p q = by_verdict (v level p q) (λ c. 0) (four (coloured_from v (level + 1) n) p q)

unfoldable pub bend_from : Verdicts → ℕ → ℕ → ℕ → ℕ → ℕ
bend_from v level zero p q = by_verdict (v level p q) (λ c. 0) (carried_bend (v level p q))
bend_from v level (suc n) p q = by_verdict (v level p q) (λ c. 0) (largest_four (bend_from v (level + 1) n) p q)

unfoldable pub records_from : Verdicts → ℕ → ℕ → ℕ → ℕ → List ℕ
records_from v level zero p q = by_verdict (v level p q) (λ c. record_of c level p q ∷ []) (record_of 1 level p q ∷ [])
records_from v level (suc n) p q = by_verdict (v level p q) (λ c. record_of c level p q ∷ []) (in_turn (records_from v (level + 1) n) p q)

-- the colour that the finest cell x, y gets, n levels below the cell at `level` that encloses it
unfoldable pub colour_from : Verdicts → ℕ → ℕ → ℕ → ℕ → ℕ
colour_from v level zero x y = by_verdict (v level x y) (λ c. c) 1
colour_from v level (suc n) x y = by_verdict (v level (x / 2 ^ suc n) (y / 2 ^ suc n)) (λ c. c) (colour_from v (level + 1) n x y)
