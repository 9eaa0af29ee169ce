-- A verdict is cleared with a colour or open, and what examining a cell gives in each case. The verdicts themselves are not opened.
use mathlib.Core.Path.{◌≡◌, refl, ap}
use mathlib.Core.Bool.{true, false, true≢false, false≢true}
use mathlib.Core.List.{[], ◌∷◌}
use Prim.Native.Nat.{ℕ, zero, suc, ◌+◌, ◌-◌, ◌/◌, ◌^◌, ◌<◌}
use native.Mathlib.Nat as Nat
use native.Mathlib.Omega.{arith}
use lib.Dec.{eqb}
use Rattle.verdicts.specs.declared.Verdict.{Verdict}
use Rattle.verdicts.specs.declared.Verdict.TheVariants.{Above, Below, Open}
use Rattle.verdicts.specs.Judging.{carried_bend}
use Rattle.verdicts.specs.Walking.{Verdicts, is_open, colour_of, in_turn, record_of}
use Rattle.verdicts.specs.Operational.{by_verdict, four, largest_four, visited_from, coloured_from, bend_from, records_from, colour_from}

-- ---- the two kinds of verdict
-- cleared with the colour c, which is not that of a coloured cell
pub record Cleared (w : Verdict) (c : ℕ) : Type 0 where
  pub closed : is_open w ≡ false
  pub painted : colour_of (w ∷ []) ≡ c
  pub plain : eqb c 1 ≡ false

-- open: the finest cell is coloured then
pub record Opened (w : Verdict) : Type 0 where
  pub free : is_open w ≡ true
  pub coloured : colour_of (w ∷ []) ≡ 1

-- each verdict is of one of them
pub data Kind (w : Verdict) : Type 0 where
  clears : (c : ℕ) → Cleared w c → Kind w
  opens : Opened w → Kind w

-- what a verdict that is known says
pub cleared_above : {l u b : _} {w : Verdict} → Above l u b ≡ w → Cleared w 2
cleared_above e = rw (← e) (record { closed = refl; painted = refl; plain = refl })

pub cleared_below : {l u b : _} {w : Verdict} → Below l u b ≡ w → Cleared w 3
cleared_below e = rw (← e) (record { closed = refl; painted = refl; plain = refl })

opened : {l u b : _} {w : Verdict} → Open l u b ≡ w → Opened w
opened e = rw (← e) (record { free = refl; coloured = refl })

pub kind : (w : Verdict) → Kind w
kind (Above l u b) = clears 2 (cleared_above refl)
kind (Below l u b) = clears 3 (cleared_below refl)
kind (Open l u b) = opens (opened refl)

-- ---- what depends on a verdict, by its kind
pub by_cleared : {X : Type 0} {w : Verdict} {c : ℕ} → Cleared w c → (f : ℕ → X) (o : X) → by_verdict w f o ≡ f c
by_cleared {w = Above l u b} s f o = ap f s.painted
by_cleared {w = Below l u b} s f o = ap f s.painted
by_cleared {w = Open l u b} s f o = absurd (true≢false s.closed)

pub by_opened : {X : Type 0} {w : Verdict} → Opened w → (f : ℕ → X) (o : X) → by_verdict w f o ≡ o
by_opened {w = Above l u b} s f o = absurd (false≢true s.free)
by_opened {w = Below l u b} s f o = absurd (false≢true s.free)
by_opened {w = Open l u b} s f o = refl

-- ---- what examining a cell gives
-- of a cleared cell
module _ (v : Verdicts) (level p q : ℕ) {c : ℕ} (s : Cleared (v level p q) c) where
  pub visited_cleared : (n : ℕ) → visited_from v level n p q ≡ 1
  unfolding visited_from
  visited_cleared zero = refl
  visited_cleared (suc n) = by_cleared s (λ c. 1) _

  pub coloured_cleared : (n : ℕ) → coloured_from v level n p q ≡ 0
  unfolding coloured_from
  coloured_cleared zero = by_cleared s (λ c. 0) _
  coloured_cleared (suc n) = by_cleared s (λ c. 0) _

  pub bend_cleared : (n : ℕ) → bend_from v level n p q ≡ 0
  unfolding bend_from
  bend_cleared zero = by_cleared s (λ c. 0) _
  bend_cleared (suc n) = by_cleared s (λ c. 0) _

  pub records_cleared : (n : ℕ) → records_from v level n p q ≡ record_of c level p q ∷ []
  unfolding records_from
  records_cleared zero = by_cleared s (λ c. record_of c level p q ∷ []) _
  records_cleared (suc n) = by_cleared s (λ c. record_of c level p q ∷ []) _

  pub colour_cleared : (n x y : ℕ) → x / 2 ^ n ≡ p → y / 2 ^ n ≡ q → colour_from v level n x y ≡ c
  unfolding colour_from
  colour_cleared zero x y e f = rw (← Nat.div-one x, ← Nat.div-one y, e, f) (by_cleared s (λ c. c) _)
  colour_cleared (suc n) x y e f = rw (e, f) (by_cleared s (λ c. c) _)

-- of an open cell: the finest one, and one with n + 1 levels below it
module _ (v : Verdicts) (level p q : ℕ) (s : Opened (v level p q)) where
  pub coloured_last : coloured_from v level 0 p q ≡ 1
  unfolding coloured_from
  coloured_last = by_opened s (λ c. 0) 1

  pub bend_last : bend_from v level 0 p q ≡ carried_bend (v level p q)
  unfolding bend_from
  bend_last = by_opened s (λ c. 0) _

  pub records_last : records_from v level 0 p q ≡ record_of 1 level p q ∷ []
  unfolding records_from
  records_last = by_opened s (λ c. record_of c level p q ∷ []) _

  pub colour_last : (x y : ℕ) → x / 2 ^ 0 ≡ p → y / 2 ^ 0 ≡ q → colour_from v level 0 x y ≡ 1
  unfolding colour_from
  colour_last x y e f = rw (← Nat.div-one x, ← Nat.div-one y, e, f) (by_opened s (λ c. c) 1)

  pub visited_open : (n : ℕ) → visited_from v level (suc n) p q ≡ 1 + four (visited_from v (level + 1) n) p q
  unfolding visited_from
  visited_open n = by_opened s (λ c. 1) _

  pub coloured_open : (n : ℕ) → coloured_from v level (suc n) p q ≡ four (coloured_from v (level + 1) n) p q
  unfolding coloured_from
  coloured_open n = by_opened s (λ c. 0) _

  pub bend_open : (n : ℕ) → bend_from v level (suc n) p q ≡ largest_four (bend_from v (level + 1) n) p q
  unfolding bend_from
  bend_open n = by_opened s (λ c. 0) _

  pub records_open : (n : ℕ) → records_from v level (suc n) p q ≡ in_turn (records_from v (level + 1) n) p q
  unfolding records_from
  records_open n = by_opened s (λ c. record_of c level p q ∷ []) _

  pub colour_open : (n x y : ℕ) → x / 2 ^ suc n ≡ p → y / 2 ^ suc n ≡ q → colour_from v level (suc n) x y ≡ colour_from v (level + 1) n x y
  unfolding colour_from
  colour_open n x y e f = rw (e, f) (by_opened s (λ c. c) _)

-- the finest cell is visited whatever its verdict
pub visited_last : (v : Verdicts) (level p q : ℕ) → visited_from v level 0 p q ≡ 1
unfolding visited_from
visited_last v level p q = refl

-- the levels below a cell, as a walk down to level k counts them
pub levels_below : {level k : ℕ} → level < k → k - level ≡ suc (k - (level + 1))
levels_below h = omega arith

-- ---- a property of cells holds of all if it holds of the cleared ones, of the finest ones, and of an open one by its four parts
pub walk_induction : (v : Verdicts) (P : ℕ → ℕ → ℕ → ℕ → Type 0)
    → ((level n p q c : ℕ) → Cleared (v level p q) c → P level n p q)
    → ((level p q : ℕ) → Opened (v level p q) → P level 0 p q)
    → ((level n p q : ℕ) → Opened (v level p q) → ((a b : ℕ) → a / 2 ≡ p → b / 2 ≡ q → P (level + 1) n a b) → P level (suc n) p q)
    → (level n p q : ℕ) → P level n p q
walk_induction v P clear last cut level zero p q = elim (kind (v level p q)) [
  | clears c s ↦ clear level 0 p q c s
  | opens s ↦ last level p q s
]
walk_induction v P clear last cut level (suc n) p q = elim (kind (v level p q)) [
  | clears c s ↦ clear level (suc n) p q c s
  | opens s ↦ cut level n p q s (λ a b e f. walk_induction v P clear last cut (level + 1) n a b)
]
