-- `local::measure::spared_in` meets its contract, by the test: only the mode 0 spares anything.
use mathlib.Core.Path.{◌≡◌, refl, sym, ◌∙◌, ap}
use mathlib.Core.List.{List}
use Prim.Native.Nat.{ℕ, zero, suc}
use lib.IntN.{ℤ}
use Rattle.local.specs.declared.Spare.{Spare}
use Rattle.local.specs.Range.{spare_in}
use Rattle.local.proofs.measure.spared_in.Goals as goal

other-mode : (mode : ℕ) (places : List ℤ) (d : ℕ) → (mode ≡ 0 → ⊥) → ◌≡◌ {A = Spare} (record { fall = 0; rise = 0 }) (spare_in mode places d)
other-mode zero places d h = absurd (h refl)
other-mode (suc m) places d h = refl

pub returns-then-mode-eq0 : goal.returns-then-mode-eq0
returns-then-mode-eq0 c = let a = c.args in c.spared.ensures ∙ ap (λ mode. spare_in mode a.places.now a.d) (sym c.if-mode-eq0.true)

pub returns : goal.returns
returns c = let a = c.args in other-mode a.mode a.places.now a.d c.if-mode-eq0.false
