-- What is seen of a cell, by its own colour: one that is not cut counts for itself, and a cut one for its four parts.
use mathlib.Core.Path.{◌≡◌, sym, ◌∙◌, ap, subst}
use mathlib.Core.Bool.{cond}
use mathlib.Core.List.{List, [], ◌∷◌}
use Prim.Native.Nat.{ℕ, zero, suc, ◌+◌, ◌*◌, ◌-◌, ◌≤◌, ◌<◌}
use native.Mathlib.Omega.{arith}
use lib.Dec.{eqb}
use lib.IntN.{ℤ, pos, negsuc, nat_abs}
use lib.ListN.{length}
use lib.Pow.{pow-add}
use Rattle.verdicts.specs.Judging.{carried_bend}
use Rattle.verdicts.specs.Walking.{Verdicts, colour_of, record_of}
use Rattle.verdicts.proofs.Cells.{Opened, clears, opens, kind, levels_below, visited_cleared, visited_last, visited_open, coloured_cleared, coloured_last, coloured_open, bend_cleared, bend_last, bend_open, records_cleared, records_last, colour_cleared, colour_last}
use Rattle.verdicts.proofs.Bounds.{visited_small, coloured_small}
use Rattle.page.specs.Scaled.{IsCell}
use Rattle.page.specs.Sheet.{Sheet}
use Rattle.page.proofs.Cells.{column_small, row_small}
use Rattle.forms.specs.Bounds.{Mode}
use Rattle.page.specs.Bounds.{verdict}
use Rattle.tables.specs.Table.{held}
use Rattle.tables.specs.Moves.{Movable, Moved}
use Rattle.tables.specs.Scaling.{Halved}
use Rattle.local.specs.Range.{Light, range_of, judged_by}
use Rattle.local.specs.declared.Form.{Form}
use Rattle.cells.proofs.Forms.{settled_form, cell_light, verdict_by}
use Rattle.cells.proofs.Parts.{Side, left, right, part_near}
use Rattle.cells.specs.Cell.{PartOf}
use Rattle.cells.specs.declared.cell.Cell.{Cell}
use Rattle.marks.specs.declared.Seen.{Seen}
use Rattle.marks.specs.Steps.{one_seen, cut_seen, Few}
use Rattle.walk.specs.Steps.{Counted, Settled, OwnForm, NearForm, Owned, Carried}

-- ---- a cell of the colour c that is not cut, with n levels below it
-- it is cleared, or it is a finest one
pub settled : (v : Verdicts) (level n p q c : ℕ) → c ≡ colour_of (v level p q ∷ []) → (c ≡ 1 → n ≡ 0) → Settled v level n p q c
settled v level n p q c e h = elim (kind (v level p q)) [
  | clears m s ↦ let f : c ≡ m = e ∙ s.painted in let plain = ap (λ i. eqb i 1) f ∙ s.plain in record {
    visits = visited_cleared v level p q s n;
    colours = coloured_cleared v level p q s n ∙ sym (ap (λ b. cond b 1 0) plain);
    bends = bend_cleared v level p q s n ∙ sym (ap (λ b. cond b (carried_bend (v level p q)) 0) plain);
    records = records_cleared v level p q s n ∙ ap (λ i. record_of i level p q ∷ []) (sym f);
    paints = λ x y a b. colour_cleared v level p q s n x y a b ∙ sym f;
  }
  | opens s ↦ let f : c ≡ 1 = e ∙ s.coloured in let z = h f in rw (z, f) (record {
    visits = visited_last v level p q;
    colours = coloured_last v level p q s;
    bends = bend_last v level p q s;
    records = records_last v level p q s;
    paints = λ x y a b. colour_last v level p q s x y a b;
  })
]

-- ---- what is counted
pub counted_one : (v : Verdicts) (k level p q c : ℕ) → Settled v level (k - level) p q c → Counted v k level p q (one_seen c (carried_bend (v level p q)))
counted_one v k level p q c s = record { visits = sym s.visits; colours = sym s.colours; bends = sym s.bends }

pub counted_cut : (v : Verdicts) (k level p q : ℕ) (a b c d : Seen) → level < k → Opened (v level p q)
    → Counted v k (level + 1) (2 * p) (2 * q) a → Counted v k (level + 1) (2 * p + 1) (2 * q) b → Counted v k (level + 1) (2 * p) (2 * q + 1) c → Counted v k (level + 1) (2 * p + 1) (2 * q + 1) d
    → Counted v k level p q (cut_seen a b c d)
counted_cut v k level p q a b c d l s h₁ h₂ h₃ h₄ =
    let n = k - (level + 1) in let e = levels_below l in
    record {
      visits = rw e (omega (arith, visited_open v level p q s n, h₁.visits, h₂.visits, h₃.visits, h₄.visits));
      colours = rw e (omega (arith, coloured_open v level p q s n, h₁.colours, h₂.colours, h₃.colours, h₄.colours));
      bends = rw e (omega (arith, bend_open v level p q s n, h₁.bends, h₂.bends, h₃.bends, h₄.bends));
    }

-- few enough for 32 bits
pub few : (v : Verdicts) (k level p q : ℕ) (r : Seen) → k ≤ 7 → Counted v k level p q r → Few r
few v k level p q r l h =
    let d : k - level ≤ 7 = omega arith in
    record { visits = rw h.visits (visited_small v level (k - level) p q d); colours = rw h.colours (coloured_small v level (k - level) p q d) }

-- ---- on the grid
-- a part of a cell that is not a finest one is on the grid, whichever of the four it is
part_on_grid : (k level p q : ℕ) → level < k → IsCell k level p q → (x y : ℕ) → x ≤ 2 * p + 1 → y ≤ 2 * q + 1 → IsCell k (level + 1) x y
part_on_grid k level p q l o x y a b = record {
  level = omega arith;
  column = omega (arith, pow-add 2 level 1, o.column);
  row = omega (arith, pow-add 2 level 1, o.row);
}

-- ---- a form near to the cell's: it may be moved, and moved it is the cell's own
pub may_move : {form : Form} {across along : ℤ} {k level p q : ℕ} → Carried form across along k level p q →
    (length form.places ≡ 45) × (form.degree ≤ 8) × (nat_abs across ≤ 1) × (nat_abs along ≤ 1) × Movable form.degree across along form.places
may_move {form} {across} {along} h =
    let n = h.near.near in let e = h.near.degree in
    (n.long, omega (arith, e, n.accepted.ranges.degree), n.sides.0, n.sides.1, subst (λ d. Movable d across along form.places) (sym e) n.movable)

pub moved_own : {form : Form} {across along : ℤ} {k level p q : ℕ} {places : List ℤ} → Moved form.degree across along form.places places →
    (S : Sheet) → NearForm S form across along k level p q → OwnForm S (record { degree = form.degree; places = places }) k level p q
moved_own {form} {across} {along} {places = places} m S n =
    record { degree = n.degree; depth = n.depth; own = settled_form n.near (subst (λ d. Moved d across along form.places places) n.degree m) }

-- its own form is light, and its range gives the page's verdict
pub own_light : {S : Sheet} {form : Form} {k level p q : ℕ} → OwnForm S form k level p q → Light form.degree form.places
own_light {S} {form} {k} {level} {p} {q} o = subst (λ d. Light d form.places) (sym o.degree) (cell_light S level p q o.own)

pub own_judged : {S : Sheet} {form : Form} {k level p q : ℕ} → OwnForm S form k level p q → (mode : Mode) → judged_by (range_of form.degree mode (held form.places form.degree)) ≡ verdict S mode level p q
own_judged {S} {form} {k} {level} {p} {q} o mode = ap (λ d. judged_by (range_of d mode (held form.places d))) o.degree ∙ verdict_by S level p q (held form.places S.d) o.own.each mode

-- ---- a cell whose own form is at hand: its numbers are small
module _ {form : Form} {k level p q : ℕ} (h : Owned form k level p q) where
  pub depth_small : k ≤ 7
  depth_small = let r = h.own.own.accepted.ranges.depth in let e = h.own.depth in omega arith

  pub numbers_small : (level ≤ 7) × (p < 128) × (q < 128)
  numbers_small = let r = h.own.own.accepted.ranges in let o = h.own.own.cell in (omega (arith, r.depth, o.level), column_small r o, row_small r o)

-- ---- its parts: the form halved is near to the form of each
pub carried_part : {form : Form} {places : List ℤ} {k level p q : ℕ} {s z : ℤ} {r t : ℕ} (S : Sheet) → level < k → Side s p r → Side z q t → r ≤ 2 * p + 1 → t ≤ 2 * q + 1 →
    OwnForm S form k level p q → Halved form.degree form.places places → NearForm S (record { degree = form.degree; places = places }) s z k (level + 1) r t
carried_part {form} {places} {k} {level} {p} {q} {s} {z} {r} {t} S l x y i o f h =
    let above : level < S.k = let e = f.depth in omega arith in
    record {
      degree = f.degree;
      depth = f.depth;
      near = part_near S level p q above x y (part_on_grid S.k level p q above f.own.cell r t i o) f.own (subst (λ n. Halved n form.places places) f.degree h);
    }

-- the form is moved by -1 or 1 in a variable, as the part lies
abbrev pub side : ℕ → ℤ
side zero = negsuc 0
side (suc n) = pos 1

-- each of the four is so, by its own level, column and row
module _ {form : Form} {places : List ℤ} {k : ℕ} {cell part : Cell} (S : Sheet) (l : cell.level < k) (f : OwnForm S form k cell.level cell.column cell.row) (h : Halved form.degree form.places places) where
  pub lower_left : PartOf cell 0 0 part → NearForm S (record { degree = form.degree; places = places }) (negsuc 0) (negsuc 0) k part.level part.column part.row
  lower_left o =
      let x : part.column ≡ 2 * cell.column = omega arith in let y : part.row ≡ 2 * cell.row = omega arith in
      rw (o.level, x, y) (carried_part S l (left cell.column) (left cell.row) (omega arith) (omega arith) f h)

  pub lower_right : PartOf cell 1 0 part → NearForm S (record { degree = form.degree; places = places }) (pos 1) (negsuc 0) k part.level part.column part.row
  lower_right o =
      let y : part.row ≡ 2 * cell.row = omega arith in
      rw (o.level, o.column, y) (carried_part S l (right cell.column) (left cell.row) (omega arith) (omega arith) f h)

  pub upper_left : PartOf cell 0 1 part → NearForm S (record { degree = form.degree; places = places }) (negsuc 0) (pos 1) k part.level part.column part.row
  upper_left o =
      let x : part.column ≡ 2 * cell.column = omega arith in
      rw (o.level, x, o.row) (carried_part S l (left cell.column) (right cell.row) (omega arith) (omega arith) f h)

  pub upper_right : PartOf cell 1 1 part → NearForm S (record { degree = form.degree; places = places }) (pos 1) (pos 1) k part.level part.column part.row
  upper_right o = rw (o.level, o.column, o.row) (carried_part S l (right cell.column) (right cell.row) (omega arith) (omega arith) f h)

  -- whichever of the four it is
  pub near_by : {right above : ℕ} → PartOf cell right above part → right ≤ 1 → above ≤ 1 → NearForm S (record { degree = form.degree; places = places }) (side right) (side above) k part.level part.column part.row
  near_by {right = zero} {above = zero} o i j = lower_left o
  near_by {right = suc zero} {above = zero} o i j = lower_right o
  near_by {right = zero} {above = suc zero} o i j = upper_left o
  near_by {right = suc zero} {above = suc zero} o i j = upper_right o
  near_by {right = suc (suc n)} o i j = absurd (omega arith)
  near_by {above = suc (suc n)} o i j = absurd (omega arith)
