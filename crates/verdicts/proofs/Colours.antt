-- The colour that the walk finds is the page's.
use mathlib.Core.Path.{◌≡◌, refl, sym, ◌∙◌, ap}
use mathlib.Core.List.{List, [], ◌∷◌, map}
use Prim.Native.Nat.{ℕ, zero, suc, ◌+◌, ◌-◌, ◌/◌, ◌^◌, ◌≤◌}
use native.Mathlib.Nat as Nat
use native.Mathlib.Numerals.{add-one}
use native.Mathlib.Omega.{arith}
use lib.Dec.{lit≤}
use Rattle.algebra.specs.Sum.{run, ◌⋯◌}
use Rattle.algebra.proofs.Run.{⋯-run}
use Rattle.verdicts.specs.declared.Verdict.{Verdict}
use Rattle.verdicts.specs.declared.Verdict.TheVariants.{Above, Below, Open}
use Rattle.verdicts.specs.Walking.{Verdicts, enclosing, colour_of, colour}
use Rattle.verdicts.specs.Operational.{by_verdict, colour_from}
use Rattle.verdicts.proofs.Cells.{Cleared, Opened, by_cleared, by_opened}

-- ---- the first verdict decides, or leaves it to the later ones
colour_first : (w : Verdict) (ws : List Verdict) → by_verdict w (λ c. c) (colour_of ws) ≡ colour_of (w ∷ ws)
colour_first (Above l u b) ws = refl
colour_first (Below l u b) ws = refl
colour_first (Open l u b) ws = refl

pub first_cleared : {w : Verdict} {c : ℕ} → Cleared w c → (ws : List Verdict) → colour_of (w ∷ ws) ≡ c
first_cleared {w} s ws = sym (colour_first w ws) ∙ by_cleared s (λ c. c) (colour_of ws)

pub first_opened : {w : Verdict} → Opened w → (ws : List Verdict) → colour_of (w ∷ ws) ≡ colour_of ws
first_opened {w} s ws = sym (colour_first w ws) ∙ by_opened s (λ c. c) (colour_of ws)

-- ---- the colour by the verdicts from `level` on
colour_down : (v : Verdicts) (j level n x y : ℕ) → level + n ≡ j
    → colour_from v level n x y ≡ colour_of (map (enclosing v j x y) (run level (suc n)))
unfolding colour_from run
colour_down v j level zero x y h =
    let e : j - level ≡ 0 = omega arith in
    rw (e, Nat.div-one x, Nat.div-one y) (colour_first (v level x y) [])
colour_down v j level (suc n) x y h =
    let e : j - level ≡ suc n = omega arith in
    rw (e, colour_down v j (level + 1) n x y (omega arith), add-one level)
    (colour_first (v level (x / 2 ^ suc n) (y / 2 ^ suc n)) (map (enclosing v j x y) (run (suc level) (suc n))))

pub colour_is : (v : Verdicts) (k x y : ℕ) → colour_from v 0 k x y ≡ colour v k x y
unfolding colour
colour_is v k x y = colour_down v k 0 k x y (Nat.zero-add k) ∙ ap (λ ls. colour_of (map (enclosing v k x y) ls)) (sym (⋯-run k))

-- ---- a colour is 1, 2 or 3
pub colour_of_small : (ws : List Verdict) → colour_of ws ≤ 3
colour_of_small [] = lit≤ tt
colour_of_small (Above l u b ∷ ws) = lit≤ tt
colour_of_small (Below l u b ∷ ws) = lit≤ tt
colour_of_small (Open l u b ∷ ws) = colour_of_small ws

colour_of_some : (ws : List Verdict) → 1 ≤ colour_of ws
colour_of_some [] = lit≤ tt
colour_of_some (Above l u b ∷ ws) = lit≤ tt
colour_of_some (Below l u b ∷ ws) = lit≤ tt
colour_of_some (Open l u b ∷ ws) = colour_of_some ws

pub colour_one_of : (v : Verdicts) (k p q : ℕ) → (1 ≤ colour v k p q) × (colour v k p q ≤ 3)
unfolding colour
colour_one_of v k p q = let vs = map (enclosing v k p q) (0 ⋯ k) in (colour_of_some vs, colour_of_small vs)
