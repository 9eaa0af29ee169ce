-- A verdict carries the bend that it is given, whichever it is.
use mathlib.Core.Path.{◌≡◌, refl}
use mathlib.Core.Bool.{Bool, true, false, cond}
use Prim.Native.Nat.{ℕ}
use lib.IntN.{ℤ, pos}
use lib.Signed.{lt_z}
use Rattle.verdicts.specs.declared.Verdict.TheVariants.{Above, Below, Open}
use Rattle.verdicts.specs.Judging.{judged, carried_bend}

pub judged_bend : (l u : ℤ) (b : ℕ) → carried_bend (judged l u b) ≡ b
unfolding judged
judged_bend l u b = go (lt_z (pos 0) l) (lt_z u (pos 0))
  where
    go : (s t : Bool) → carried_bend (cond s (Above l u b) (cond t (Below l u b) (Open l u b))) ≡ b
    go true t = refl
    go false true = refl
    go false false = refl
