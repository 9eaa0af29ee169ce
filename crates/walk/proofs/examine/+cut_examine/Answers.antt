-- `walk::examine::examine` and `walk::examine::cut` meet their contracts, the two in one proof: k minus level falls.
use mathlib.Core.Path.{◌≡◌, sym, ◌∙◌, ap}
use mathlib.Core.List.{[], ◌∷◌}
use Prim.Native.Nat.{◌-◌}
use native.Mathlib.Omega.{arith}
use mir.Facts.{to_z-of_z}
use Rattle.forms.specs.Bounds.{mode_of}
use Rattle.verdicts.specs.Judging.{carried_bend}
use Rattle.verdicts.specs.Walking.{colour_of}
use Rattle.page.specs.Bounds.{verdict}
use Rattle.local.specs.Range.{judged_by}
use Rattle.marks.proofs.Leaving.{open_by}
use Rattle.walk.proofs.Cells.{settled, counted_one, counted_cut, few, depth_small, moved_own, own_light, own_judged, near_by}
use Rattle.walk.proofs.Leaving.{examined_at, room_first, room_second, room_third, room_fourth}
use Rattle.walk.proofs.examine.+cut_examine.Goals as goal
use Rattle.walk.proofs.examine.+cut_examine.Goals.{examine-then-colour-eq1+else-cell-k, examine-else-colour-eq1}

-- ---- cut
pub cut-examine-a-requires : goal.cut-examine-a-requires
cut-examine-a-requires g t c κs within =
    let o = c.requires.0 in let w = g.met.L.Leaves in (
      omega arith,
      (
        within,
        (
          record { sheet = o.sheet; near = near_by o.sheet c.requires.2 o.own c.halve.ensures c.part.ensures (omega arith) (omega arith) },
          rw c.part.ensures.level (room_first w.fewer w.rest c.requires.2 c.requires.1),
        ),
      ),
    )

pub cut-examine-b-requires : goal.cut-examine-b-requires
cut-examine-b-requires g t c κs within =
    let o = c.requires.0 in let w = g.met.L.Leaves in (
      omega arith,
      (
        within,
        (
          record { sheet = o.sheet; near = near_by o.sheet c.requires.2 o.own c.halve.ensures c.part-2.ensures (omega arith) (omega arith) },
          rw c.part-2.ensures.level (room_second w.fewer w.rest c.requires.2 c.requires.1 (rw c.part.ensures.level at (c.examine-a.ensures o.sheet (near_by o.sheet c.requires.2 o.own c.halve.ensures c.part.ensures (omega arith) (omega arith))))),
        ),
      ),
    )

pub cut-examine-c-requires : goal.cut-examine-c-requires
cut-examine-c-requires g t c κs within =
    let o = c.requires.0 in let w = g.met.L.Leaves in (
      omega arith,
      (
        within,
        (
          record { sheet = o.sheet; near = near_by o.sheet c.requires.2 o.own c.halve.ensures c.part-3.ensures (omega arith) (omega arith) },
          rw c.part-3.ensures.level (room_third w.fewer w.rest c.requires.2 c.requires.1 (rw c.part.ensures.level at (c.examine-a.ensures o.sheet (near_by o.sheet c.requires.2 o.own c.halve.ensures c.part.ensures (omega arith) (omega arith)))) (rw c.part-2.ensures.level at (c.examine-b.ensures o.sheet (near_by o.sheet c.requires.2 o.own c.halve.ensures c.part-2.ensures (omega arith) (omega arith))))),
        ),
      ),
    )

pub cut-examine-d-requires : goal.cut-examine-d-requires
cut-examine-d-requires g t c κs within =
    let o = c.requires.0 in let w = g.met.L.Leaves in (
      omega arith,
      (
        within,
        (
          record { sheet = o.sheet; near = near_by o.sheet c.requires.2 o.own c.halve.ensures c.part-4.ensures (omega arith) (omega arith) },
          rw c.part-4.ensures.level (room_fourth w.fewer w.rest c.requires.2 c.requires.1 (rw c.part.ensures.level at (c.examine-a.ensures o.sheet (near_by o.sheet c.requires.2 o.own c.halve.ensures c.part.ensures (omega arith) (omega arith)))) (rw c.part-2.ensures.level at (c.examine-b.ensures o.sheet (near_by o.sheet c.requires.2 o.own c.halve.ensures c.part-2.ensures (omega arith) (omega arith)))) (rw c.part-3.ensures.level at (c.examine-c.ensures o.sheet (near_by o.sheet c.requires.2 o.own c.halve.ensures c.part-3.ensures (omega arith) (omega arith))))),
        ),
      ),
    )

pub cut-cut_cell-requires : goal.cut-cut_cell-requires
cut-cut_cell-requires g t c =
    let a = c.args in let o = c.requires.0 in let k = depth_small o in (
      few (verdict o.sheet (mode_of a.mode)) _ _ _ _ _ k (c.examine-a.ensures o.sheet (near_by o.sheet c.requires.2 o.own c.halve.ensures c.part.ensures (omega arith) (omega arith))).counted,
      few (verdict o.sheet (mode_of a.mode)) _ _ _ _ _ k (c.examine-b.ensures o.sheet (near_by o.sheet c.requires.2 o.own c.halve.ensures c.part-2.ensures (omega arith) (omega arith))).counted,
      few (verdict o.sheet (mode_of a.mode)) _ _ _ _ _ k (c.examine-c.ensures o.sheet (near_by o.sheet c.requires.2 o.own c.halve.ensures c.part-3.ensures (omega arith) (omega arith))).counted,
      few (verdict o.sheet (mode_of a.mode)) _ _ _ _ _ k (c.examine-d.ensures o.sheet (near_by o.sheet c.requires.2 o.own c.halve.ensures c.part-4.ensures (omega arith) (omega arith))).counted,
    )

pub cut-returns : goal.cut-returns
cut-returns g t c S f o =
    let a = c.args in let v = verdict S (mode_of a.mode) in
    let first = near_by S c.requires.2 f c.halve.ensures c.part.ensures (omega arith) (omega arith) in
    let second = near_by S c.requires.2 f c.halve.ensures c.part-2.ensures (omega arith) (omega arith) in
    let third = near_by S c.requires.2 f c.halve.ensures c.part-3.ensures (omega arith) (omega arith) in
    let fourth = near_by S c.requires.2 f c.halve.ensures c.part-4.ensures (omega arith) (omega arith) in
    let w = examined_at (omega arith) (omega arith) (omega arith) (c.examine-a.ensures S first) in
    let x = examined_at (omega arith) (omega arith) (omega arith) (c.examine-b.ensures S second) in
    let y = examined_at (omega arith) (omega arith) (omega arith) (c.examine-c.ensures S third) in
    let z = examined_at (omega arith) (omega arith) (omega arith) (c.examine-d.ensures S fourth) in
    record {
      leaves = g.met.L.Leaves.parts v a.k a.cell.level a.cell.column a.cell.row _ _ _ _ _ c.requires.2 o w.leaves x.leaves y.leaves z.leaves;
      counted = rw c.cut_cell.ensures (counted_cut v a.k a.cell.level a.cell.column a.cell.row _ _ _ _ c.requires.2 (open_by _ o) w.counted x.counted y.counted z.counted);
    }

-- ---- examine: the form is the cell's own, and the verdict the page's, whichever sheet it is
pub examine-range_on-requires : goal.examine-range_on-requires
examine-range_on-requires g t c =
    let h = c.requires.0 in
    own_light (moved_own (rw (to_z-of_z c.ranges.across, to_z-of_z c.ranges.along) at c.to_part.ensures) h.sheet h.near)

pub examine-cut-requires : goal.examine-cut-requires
examine-cut-requires g t c κs within =
    let h = c.requires.0 in (
      omega arith,
      (
        within,
        (
          record { sheet = h.sheet; own = moved_own (rw (to_z-of_z c.ranges.across, to_z-of_z c.ranges.along) at c.to_part.ensures) h.sheet h.near },
          c.requires.1,
          c.if-cell-k.true,
        ),
      ),
    )

pub examine-returns-then-cell-k : goal.examine-returns-then-cell-k
examine-returns-then-cell-k g t c S n =
    let a = c.args in
    let own = moved_own (rw (to_z-of_z c.ranges.across, to_z-of_z c.ranges.along) at c.to_part.ensures) S n in
    let judged : c.judge-verdict.result ≡ verdict S (mode_of a.mode) a.cell.level a.cell.column a.cell.row = c.judge-verdict.ensures ∙ ap judged_by c.range_on.ensures ∙ own_judged own (mode_of a.mode) in
    let painted : c.colour_of-colour.result ≡ colour_of (verdict S (mode_of a.mode) a.cell.level a.cell.column a.cell.row ∷ []) = c.colour_of-colour.ensures ∙ ap (λ w. colour_of (w ∷ [])) judged in
    c.cut.ensures S own (sym painted ∙ c.if-colour-eq1.true)

pub examine-returns : goal.examine-returns
examine-returns g t c S n =
    let a = c.args in
    let own = moved_own (rw (to_z-of_z c.ranges.across, to_z-of_z c.ranges.along) at c.to_part.ensures) S n in
    let judged : c.judge-verdict.result ≡ verdict S (mode_of a.mode) a.cell.level a.cell.column a.cell.row = c.judge-verdict.ensures ∙ ap judged_by c.range_on.ensures ∙ own_judged own (mode_of a.mode) in
    let painted : c.colour_of-colour.result ≡ colour_of (verdict S (mode_of a.mode) a.cell.level a.cell.column a.cell.row ∷ []) = c.colour_of-colour.ensures ∙ ap (λ w. colour_of (w ∷ [])) judged in
    let whole : c.colour_of-colour.result ≡ 1 → a.k - a.cell.level ≡ 0 = λ e. elim c.if-colour-eq1.branch [
      | examine-then-colour-eq1+else-cell-k w ↦ let l = w.if-cell-k.false in omega arith
      | examine-else-colour-eq1 w ↦ absurd (w.if-colour-eq1.false e)
    ] in
    let s = settled (verdict S (mode_of a.mode)) _ _ _ _ _ painted whole in
    record {
      leaves = c.leave.ensures (verdict S (mode_of a.mode)) s;
      counted = rw (c.one_cell.ensures, c.bend_of.ensures ∙ ap carried_bend judged) (counted_one _ _ _ _ _ _ s);
    }
