-- What places hold gives the page's verdict: sums over a table that is the local form of a cell are the page's, and they are light.
use mathlib.Core.Path.{◌≡◌, sym, ◌∙◌, ap, ap₂}
use mathlib.Core.List.{List, [], ◌∷◌, Memᴰ}
use Prim.Native.Nat.{ℕ, ◌+◌, ◌-◌, ◌^◌, ◌≤◌, ◌<◌}
use native.Mathlib.Omega.{arith}
use lib.IntN.{ℤ, nat_abs}
use Rattle.algebra.specs.Sum.{sumℕ, ◌⋯◌}
use Rattle.algebra.specs.Triangle.{triangle}
use Rattle.algebra.proofs.Sum.{sum_cong, sumℕ_cong}
use Rattle.algebra.proofs.Run.{⋯_member}
use Rattle.forms.specs.Bounds.{Mode, low, high, bent}
use Rattle.forms.specs.Vectors.{vectors}
use Rattle.forms.specs.LocalForm.{local}
use Rattle.forms.proofs.Plane.{sumℕ_plane, low_plane, high_plane, bent_plane}
use Rattle.forms.proofs.Size.{local_sum_size}
use Rattle.tables.specs.Table.{held}
use Rattle.tables.specs.Moves.{Moved}
use Rattle.local.specs.Range.{range_of, judged_by, bend_of, Light}
use Rattle.verdicts.specs.Judging.{judged}
use Rattle.page.specs.Sheet.{Sheet}
use Rattle.page.specs.Scaled.{IsCell, half_side}
use Rattle.page.specs.LocalForm.{G}
use Rattle.page.specs.Bounds.{lower, upper, bend, verdict}
use Rattle.page.specs.Weight.{Accepted}
use Rattle.page.proofs.Page.{polynomial, centre, G_is}
use Rattle.page.proofs.Weights.{limits, weight_is}
use Rattle.page.proofs.Demand3.{limited}
use Rattle.cells.specs.Cell.{CellForm, Near}

-- ---- two tables that agree on the triangle
within : (d i j : ℕ) → Memᴰ i (0 ⋯ d) → Memᴰ j (0 ⋯ (d - i)) → i + j ≤ d
within d i j m n = let k = ⋯_member 0 d m in let l = ⋯_member 0 (d - i) n in omega arith

pub triangle_agree : (d : ℕ) (f g : ℕ → ℕ → ℕ) → ((i j : ℕ) → i + j ≤ d → f i j ≡ g i j) → triangle d f ≡ triangle d g
triangle_agree d f g e = sumℕ_cong (0 ⋯ d) (λ i m. sumℕ_cong (0 ⋯ (d - i)) (λ j n. e i j (within d i j m n)))

module _ (S : Sheet) (j p q : ℕ) where
  -- ---- the sizes of the local form are together at most the weight
  pub sizes_light : Accepted S → IsCell S.k j p q → triangle S.d (λ a b. nat_abs (G S j p q a b)) < 2 ^ 62
  sizes_light a c = rw sizes (let h = local_sum_size (polynomial S) (centre S j p q) (half_side S j) (limits S) (limited S j p q c) in let w = weight_is S in let l = a.light in omega arith)
    where
      sizes : triangle S.d (λ a b. nat_abs (G S j p q a b)) ≡ sumℕ (vectors 2 S.d) (λ e. nat_abs (local (polynomial S) (centre S j p q) (half_side S j) e))
      sizes = triangle_agree S.d _ _ (λ a b l. ap nat_abs (G_is S j p q a b)) ∙ sym (sumℕ_plane S.d (λ e. nat_abs (local (polynomial S) (centre S j p q) (half_side S j) e)))

  -- ---- a table that agrees with it gives the page's verdict
  module _ (T : ℕ → ℕ → ℤ) (same : (a b : ℕ) → a + b ≤ S.d → T a b ≡ G S j p q a b) where
    pub verdict_by : (mode : Mode) → judged_by (range_of S.d mode T) ≡ verdict S mode j p q
    unfolding lower upper bend
    verdict_by mode = let d = S.d in
        ap₂ (λ l u. judged l u (bend_of d T))
        (sum_cong (0 ⋯ d) (λ a m. sum_cong (0 ⋯ (d - a)) (λ b n. ap (low mode (a ∷ b ∷ [])) (same a b (within d a b m n)) ∙ low_plane mode a b (G S j p q a b))))
        (sum_cong (0 ⋯ d) (λ a m. sum_cong (0 ⋯ (d - a)) (λ b n. ap (high mode (a ∷ b ∷ [])) (same a b (within d a b m n)) ∙ high_plane mode a b (G S j p q a b))))
        ∙ ap (judged (lower S mode j p q) (upper S mode j p q))
        (sumℕ_cong (0 ⋯ d) (λ a m. sumℕ_cong (0 ⋯ (d - a)) (λ b n. ap (bent (a ∷ b ∷ [])) (same a b (within d a b m n)) ∙ bent_plane a b (G S j p q a b))))

  pub cell_light : {places : List ℤ} → CellForm S j p q places → Light S.d places
  cell_light {places} f = record {
    small = f.accepted.ranges.degree;
    light = rw (triangle_agree S.d (λ a b. nat_abs (held places S.d a b)) (λ a b. nat_abs (G S j p q a b)) (λ a b l. ap nat_abs (f.each a b l))) (sizes_light f.accepted f.cell);
  }

-- ---- a table that is near, moved
pub settled_form : {S : Sheet} {j p q : ℕ} {across along : ℤ} {old new : List ℤ} → Near S j p q across along old → Moved S.d across along old new → CellForm S j p q new
settled_form n m = record { accepted = n.accepted; cell = n.cell; long = m.long ∙ n.long; each = λ a b l. m.each a b l ∙ n.each a b l; unused = λ k l. m.rest k l ∙ n.unused k l }
