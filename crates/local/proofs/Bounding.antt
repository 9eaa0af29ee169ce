-- The range of a table from its sizes: with S the sizes of all places but (0,0) together, the lower bound is the centre less S, but for what the even
-- rule spares, the upper bound likewise, and the bend is S less the sizes of the places (0,1) and (1,0).
use mathlib.Core.Path.{◌≡◌, refl, sym, ◌∙◌, ap, ap₂}
use mathlib.Core.Bool.{Bool, true, false, cond, ◌&&◌}
use mathlib.Core.List.{List, [], ◌∷◌}
use Prim.Native.Nat.{ℕ, zero, suc, ◌+◌, ◌*◌, ◌-◌, ◌/◌, ◌^◌, ◌≤◌, ◌<◌}
use native.Mathlib.Nat as Nat
use native.Mathlib.Omega.{arith}
use borrow.Author.Tests.{lt-ltb, ne_eqb, le-leb}
use lib.Dec.{leb, eqb}
use lib.IntN.{ℤ, pos, negsuc, ◌+ℤ◌, ◌-ℤ◌, neg_ℤ, nat_abs}
use Rattle.algebra.specs.Sum.{sum, sumℕ, run, span, ◌⋯◌}
use Rattle.algebra.specs.Triangle.{triangle}
use Rattle.algebra.specs.MinMax.{minℤ}
use Rattle.algebra.proofs.Choice.{choice}
use Rattle.algebra.proofs.Absolute.{nat_abs_neg_ℤ}
use Rattle.algebra.proofs.Integer.{≡_by}
use Rattle.algebra.proofs.Ring.{ring, ◌⊕◌, ◌⊖◌, ⊝◌, #◌, ◌≐◌}
use Rattle.algebra.proofs.Sum.{sum_cong, sum-+, neg_ℤ_sum, pos_sumℕ, sumℕ_cong, sumℕ_zero}
use Rattle.algebra.proofs.Run.{sumℕ_span_first}
use Rattle.algebra.proofs.Places.{row_start_zero, row_start_next, row_start_all, place_all, places_45}
use Rattle.forms.specs.Bounds.{Mode, centred, mode_of, low, high, bent}
use Rattle.forms.specs.Plane.{even_pair}
use Rattle.forms.proofs.Bounds.{high_low}
use Rattle.forms.proofs.Plane.{low_plane, high_plane, bent_plane}
use mir.Syntax.{w64}
use mir.Val.{SFits, to_z}
use mir.Facts.{to_z_pos}
use Rattle.numbers.proofs.Machine.{fits64, fits_plus, fits_minus}
use Rattle.tables.specs.Table.{at, held}
use Rattle.local.specs.declared.Spare.{Spare}
use Rattle.local.specs.Range.{lower_of, upper_of, bend_of, ranged, range_of, Light, Sizable, sizes_of, above_zero, below_zero, spare_in}
use Rattle.local.proofs.Sparing.{above_le}
use Rattle.local.proofs.Flat.{flat, apart_mono, apart_same}

-- ---- what one place adds to the lower bound over - |g|: twice what is above 0 at (0,0), elsewhere what is above 0 by the even rule, and nothing without it
abbrev lift : Mode → ℕ → ℕ → ℕ → ℕ
lift mode a b n = cond (eqb (a + b) 0) (2 * n) (cond (even_pair mode a b) n 0)

twice : (g : ℤ) → g +ℤ pos (nat_abs g) ≡ pos (2 * above_zero g)
twice (pos n) = ap pos (omega arith)
twice (negsuc n) = ring (pos (suc n) ∷ []) (λ x. ⊝ x ⊕ x ≐ # 0) tt

once : (g : ℤ) → minℤ (pos 0) g +ℤ pos (nat_abs g) ≡ pos (above_zero g)
unfolding minℤ
once (pos zero) = refl
once (pos (suc n)) = rw (lt-ltb 0 (suc n) (omega arith)) (ap pos (omega arith))
once (negsuc n) = ring (pos (suc n) ∷ []) (λ x. ⊝ x ⊕ x ≐ # 0) tt

low_lift : (mode : Mode) (a b : ℕ) (g : ℤ) → low mode (a ∷ b ∷ []) g +ℤ pos (nat_abs g) ≡ pos (lift mode a b (above_zero g))
low_lift mode a b g = rw (low_plane mode a b g) (go (eqb (a + b) 0) (even_pair mode a b))
  where
    go : (s t : Bool) → cond s g (cond t (minℤ (pos 0) g) (neg_ℤ (pos (nat_abs g)))) +ℤ pos (nat_abs g) ≡ pos (cond s (2 * above_zero g) (cond t (above_zero g) 0))
    go true t = twice g
    go false true = once g
    go false false = ring (pos (nat_abs g) ∷ []) (λ x. ⊝ x ⊕ x ≐ # 0) tt

-- and all places together
module _ (d : ℕ) (mode : Mode) (g : ℕ → ℕ → ℤ) where
  lower_lift : lower_of d mode g +ℤ pos (triangle d (λ a b. nat_abs (g a b))) ≡ pos (triangle d (λ a b. lift mode a b (above_zero (g a b))))
  lower_lift =
      let t : pos (triangle d (λ a b. nat_abs (g a b))) ≡ sum (0 ⋯ d) (λ a. sum (0 ⋯ (d - a)) (λ b. pos (nat_abs (g a b)))) = simp pos_sumℕ in
      let u : pos (triangle d (λ a b. lift mode a b (above_zero (g a b)))) ≡ sum (0 ⋯ d) (λ a. sum (0 ⋯ (d - a)) (λ b. pos (lift mode a b (above_zero (g a b))))) = simp pos_sumℕ in
      ap (λ x. lower_of d mode g +ℤ x) t
      ∙ sym (sum-+ (0 ⋯ d) (λ a. sum (0 ⋯ (d - a)) (λ b. low mode (a ∷ b ∷ []) (g a b))) (λ a. sum (0 ⋯ (d - a)) (λ b. pos (nat_abs (g a b)))))
      ∙ sum_cong (0 ⋯ d) (λ a m. sym (sum-+ (0 ⋯ (d - a)) (λ b. low mode (a ∷ b ∷ []) (g a b)) (λ b. pos (nat_abs (g a b)))) ∙ sum_cong (0 ⋯ (d - a)) (λ b n. low_lift mode a b (g a b)))
      ∙ sym u

-- ---- what the even rule of a mode spares at (a,b)
abbrev part : Mode → ℕ → ℕ → ℕ → ℕ
part mode a b n = cond (leb 1 (a + b) && even_pair mode a b) n 0

part_le : (mode : Mode) (a b n : ℕ) → part mode a b n ≤ n
part_le mode a b n = choice (λ x. x ≤ n) (leb 1 (a + b) && even_pair mode a b) n 0 (λ t. Nat.le_refl n) (λ t. omega arith)

part_lift : (mode : Mode) (a b n : ℕ) → 1 ≤ a + b → lift mode a b n ≡ part mode a b n
part_lift mode a b n h = rw (ne_eqb (a + b) 0 (λ e. omega arith), le-leb 1 (a + b) h)

module _ (d : ℕ) (o : 1 ≤ d) (mode : Mode) (n : ℕ → ℕ → ℕ) where
  lift_sum : triangle d (λ a b. lift mode a b (n a b)) ≡ triangle d (λ a b. part mode a b (n a b)) + 2 * n 0 0
  lift_sum =
      let p = apart_same d o {f = λ a b. lift mode a b (n a b)} {g = λ a b. part mode a b (n a b)} (λ a b h. part_lift mode a b (n a b) (omega arith)) in
      let q = part_lift mode 0 1 (n 0 1) (omega arith) in let r = part_lift mode 1 0 (n 1 0) (omega arith) in omega arith

  -- and the centre has room beside it
  part_sum : (m : ℕ → ℕ → ℕ) → ((a b : ℕ) → n a b ≤ m a b) → triangle d (λ a b. part mode a b (n a b)) + m 0 0 ≤ triangle d m
  part_sum m h =
      let l : (a b : ℕ) → part mode a b (n a b) ≤ m a b = λ a b. Nat.le_trans (part_le mode a b (n a b)) (h a b) in
      let p = apart_mono d o {f = λ a b. part mode a b (n a b)} {g = m} (λ a b k. l a b) in let q = l 0 1 in let r = l 1 0 in omega arith

-- ---- the bounds, where all sizes together are |g(0,0)| + s
settled : (l g : ℤ) (n k s : ℕ) → k ≤ s → l +ℤ pos (n + s) ≡ g +ℤ pos n +ℤ pos k → l ≡ g -ℤ pos (s - k)
settled l g n k s h e =
    let r : s ≡ (s - k) + k = omega arith in
    let q : l +ℤ (pos n +ℤ (pos (s - k) +ℤ pos k)) ≡ g +ℤ pos n +ℤ pos k = ap (λ x. l +ℤ pos (n + x)) (sym r) ∙ e in
    ≡_by q (ring (l ∷ g ∷ pos n ∷ pos k ∷ pos (s - k) ∷ []) (λ l g n k r. l ⊖ (g ⊖ r) ≐ l ⊕ (n ⊕ (r ⊕ k)) ⊖ (g ⊕ n ⊕ k)) tt)

below_above : (g : ℤ) → below_zero g ≡ above_zero (neg_ℤ g)
below_above (pos zero) = refl
below_above (pos (suc n)) = refl
below_above (negsuc n) = refl

module _ (d : ℕ) (o : 1 ≤ d) (mode : Mode) where
  module _ (g : ℕ → ℕ → ℤ) (s : ℕ) (e : triangle d (λ a b. nat_abs (g a b)) ≡ nat_abs (g 0 0) + s) where
    fall_le : triangle d (λ a b. part mode a b (above_zero (g a b))) ≤ s
    fall_le = let p = part_sum d o mode (λ a b. above_zero (g a b)) (λ a b. nat_abs (g a b)) (λ a b. above_le (g a b)) in omega arith

    lower_part : lower_of d mode g ≡ g 0 0 -ℤ pos (s - triangle d (λ a b. part mode a b (above_zero (g a b))))
    lower_part =
        let k = triangle d (λ a b. part mode a b (above_zero (g a b))) in
        settled (lower_of d mode g) (g 0 0) (nat_abs (g 0 0)) k s fall_le
        (ap (λ n. lower_of d mode g +ℤ pos n) (sym e) ∙ lower_lift d mode g ∙ ap pos (lift_sum d o mode (λ a b. above_zero (g a b)) ∙ Nat.add_comm k (2 * above_zero (g 0 0))) ∙ ap (λ x. x +ℤ pos k) (sym (twice (g 0 0))))

  -- the upper bound is the lower bound of -g with the other sign
  module _ (g : ℕ → ℕ → ℤ) (s : ℕ) (e : triangle d (λ a b. nat_abs (g a b)) ≡ nat_abs (g 0 0) + s) where
    abbrev turned : ℕ → ℕ → ℤ
    turned a b = neg_ℤ (g a b)

    turned_size : triangle d (λ a b. nat_abs (turned a b)) ≡ nat_abs (turned 0 0) + s
    turned_size = simp nat_abs_neg_ℤ e

    turned_part : triangle d (λ a b. part mode a b (above_zero (turned a b))) ≡ triangle d (λ a b. part mode a b (below_zero (g a b)))
    turned_part = sumℕ_cong (0 ⋯ d) (λ a m. sumℕ_cong (0 ⋯ (d - a)) (λ b n. ap (part mode a b) (sym (below_above (g a b)))))

    rise_le : triangle d (λ a b. part mode a b (below_zero (g a b))) ≤ s
    rise_le = let h = fall_le turned s turned_size in let p = turned_part in omega arith

    upper_part : upper_of d mode g ≡ g 0 0 +ℤ pos (s - triangle d (λ a b. part mode a b (below_zero (g a b))))
    upper_part =
        let k = triangle d (λ a b. part mode a b (below_zero (g a b))) in
        let u : upper_of d mode g ≡ neg_ℤ (lower_of d mode turned) = sum_cong (0 ⋯ d) (λ a m. sum_cong (0 ⋯ (d - a)) (λ b n. high_low mode (a ∷ b ∷ []) (g a b))) ∙ simp (← neg_ℤ_sum) in
        u ∙ ap neg_ℤ (lower_part turned s turned_size ∙ ap (λ n. turned 0 0 -ℤ pos (s - n)) turned_part) ∙ ring (g 0 0 ∷ pos (s - k) ∷ []) (λ x y. ⊝ (⊝ x ⊖ y) ≐ x ⊕ y) tt

-- ---- what is spared, by the number of the mode
module _ (places : List ℤ) (d : ℕ) where
  no_part : (n : ℕ → ℕ → ℕ) → triangle d (λ a b. part centred a b (n a b)) ≡ 0
  no_part n = sumℕ_zero (0 ⋯ d) (λ a m. sumℕ_zero (0 ⋯ (d - a)) (λ b k. none (leb 1 (a + b)) (n a b)))
    where
      none : (t : Bool) (n : ℕ) → cond (t && false) n 0 ≡ 0
      none true n = refl
      none false n = refl

  fall_part : (m : ℕ) → (spare_in m places d).fall ≡ triangle d (λ a b. part (mode_of m) a b (above_zero (held places d a b)))
  fall_part zero = refl
  fall_part (suc m) = sym (no_part (λ a b. above_zero (held places d a b)))

  rise_part : (m : ℕ) → (spare_in m places d).rise ≡ triangle d (λ a b. part (mode_of m) a b (below_zero (held places d a b)))
  rise_part zero = refl
  rise_part (suc m) = sym (no_part (λ a b. below_zero (held places d a b)))

-- ---- where the first three places of a table stand
module _ (places : List ℤ) (d : ℕ) where
  held_00 : held places d 0 0 ≡ at places 0
  held_00 = ap (at places) (let z = row_start_zero d in omega arith)

  held_01 : held places d 0 1 ≡ at places 1
  held_01 = ap (at places) (let z = row_start_zero d in omega arith)

  held_10 : held places d 1 0 ≡ at places (d + 1)
  held_10 = ap (at places) (let z = row_start_zero d in let n = row_start_next d 0 in omega arith)

-- ---- a light table: its sizes, its bend and its bounds
abbrev pub count : ℕ → ℕ
count d = (d + 1) * (d + 2) / 2

bent_far : (a b : ℕ) (g : ℤ) → 2 ≤ a + b → bent (a ∷ b ∷ []) g ≡ nat_abs g
bent_far a b g h = bent_plane a b g ∙ rw (le-leb 2 (a + b) h)

module _ {d : ℕ} {places : List ℤ} (o : 1 ≤ d) (l : Light d places) where
  all_sizes : triangle d (λ a b. nat_abs (held places d a b)) ≡ nat_abs (held places d 0 0) + sizes_of places (count d)
  all_sizes =
      let p = place_all d 0 0 (omega arith) in let r = row_start_all d in
      sym (flat d (λ n. nat_abs (at places n))) ∙ sumℕ_span_first 0 (count d) (λ n. nat_abs (at places n)) (omega arith) ∙ ap (λ x. nat_abs x + sizes_of places (count d)) (sym (held_00 places d))

  pub room : nat_abs (at places 0) + sizes_of places (count d) < 2 ^ 62
  room = let p = all_sizes in let q = ap nat_abs (held_00 places d) in let h = l.light in omega arith

  pub sizable : Sizable places (count d)
  sizable = record { inside = let s = l.small in let p = places_45 d s in let r = row_start_all d in omega arith; light = let r = room in omega arith }

  pub bend_rest : bend_of d (held places d) + nat_abs (at places 1) + nat_abs (at places (d + 1)) ≡ sizes_of places (count d)
  bend_rest =
      let g = held places d in
      let p = apart_same d o {f = λ a b. bent (a ∷ b ∷ []) (g a b)} {g = λ a b. nat_abs (g a b)} (λ a b h. bent_far a b (g a b) h) in
      let x = bent_plane 0 0 (g 0 0) in let y = bent_plane 0 1 (g 0 1) in let z = bent_plane 1 0 (g 1 0) in
      let s = all_sizes in let u = ap nat_abs (held_01 places d) in let v = ap nat_abs (held_10 places d) in omega arith

  -- with t the sizes and u what is spared
  module _ (m : ℕ) {t : ℕ} {u : Spare} (e : t ≡ sizes_of places (count d)) (q : u ≡ spare_in m places d) where
    fall_is : u.fall ≡ triangle d (λ a b. part (mode_of m) a b (above_zero (held places d a b)))
    fall_is = ap (λ r. r.fall) q ∙ fall_part places d m

    rise_is : u.rise ≡ triangle d (λ a b. part (mode_of m) a b (below_zero (held places d a b)))
    rise_is = ap (λ r. r.rise) q ∙ rise_part places d m

    pub fall_within : u.fall ≤ t
    fall_within = rw (fall_is, e) (fall_le d o (mode_of m) (held places d) (sizes_of places (count d)) all_sizes)

    pub rise_within : u.rise ≤ t
    rise_within = rw (rise_is, e) (rise_le d o (mode_of m) (held places d) (sizes_of places (count d)) all_sizes)

    pub lower_is : at places 0 -ℤ pos (t - u.fall) ≡ lower_of d (mode_of m) (held places d)
    lower_is = rw (← (held_00 places d), fall_is, e) (sym (lower_part d o (mode_of m) (held places d) (sizes_of places (count d)) all_sizes))

    pub upper_is : at places 0 +ℤ pos (t - u.rise) ≡ upper_of d (mode_of m) (held places d)
    upper_is = rw (← (held_00 places d), rise_is, e) (sym (upper_part d o (mode_of m) (held places d) (sizes_of places (count d)) all_sizes))

  -- on the machine: a number up to the sizes, alone and beside the centre
  module _ {n : ℕ} (h : n ≤ sizes_of places (count d)) where
    pub step_fits : SFits w64 (pos n)
    step_fits = fits64 (pos n) (let r = room in omega arith)

    pub step_read : to_z w64 n ≡ pos n
    step_read = to_z_pos w64 (let r = room in omega arith)

    pub minus_fits : SFits w64 (at places 0 -ℤ pos n)
    minus_fits = fits_minus (at places 0) n (let r = room in omega arith)

    pub plus_fits : SFits w64 (at places 0 +ℤ pos n)
    plus_fits = fits_plus (at places 0) n (let r = room in omega arith)

-- ---- degree 0: the one place is both bounds, and there is no bend
one_sum : (f : ℕ → ℕ → ℤ) → sum (0 ⋯ 0) (λ a. sum (0 ⋯ (0 - a)) (λ b. f a b)) ≡ f 0 0
unfolding sum ◌⋯◌ span run
one_sum f = ring (f 0 0 ∷ []) (λ x. x ⊕ # 0 ⊕ # 0 ≐ x) tt

pub one_place : (places : List ℤ) (mode : Mode) → ranged (at places 0) (at places 0) 0 ≡ range_of 0 mode (held places 0)
unfolding sumℕ ◌⋯◌ span run
one_place places mode =
    let g = held places 0 in
    ap (λ x. ranged x x 0) (sym (held_00 places 0))
    ∙ sym (ap₂ (λ l u. ranged l u (bend_of 0 g)) (one_sum (λ a b. low mode (a ∷ b ∷ []) (g a b)) ∙ low_plane mode 0 0 (g 0 0)) (one_sum (λ a b. high mode (a ∷ b ∷ []) (g a b)) ∙ high_plane mode 0 0 (g 0 0))
    ∙ ap (ranged (g 0 0) (g 0 0)) (rw (bent_plane 0 0 (g 0 0))))
