-- The verdict on a cell, from its two bounds and its bend.
use Rattle.std.specs.Prelude.{cond, ℕ, ℤ, pos}
use Rattle.std.specs.Int.Signed.{lt_z}
use Rattle.verdicts.specs.declared.Verdict.{Verdict}
use Rattle.verdicts.specs.declared.Verdict.TheVariants.{Above, Below, Open}

-- it is above (lower bound > 0), below (upper bound < 0), or open; each carries both bounds and the bend (#101)
unfoldable pub judged : ℤ → ℤ → ℕ → Verdict
judged lower upper bend = cond (lt_z (pos 0) lower) (Above lower upper bend) (cond (lt_z upper (pos 0)) (Below lower upper bend) (Open lower upper bend))

-- the bend that it carries
abbrev pub carried_bend : Verdict → ℕ
carried_bend (Above l u b) = b
carried_bend (Below l u b) = b
carried_bend (Open l u b) = b
