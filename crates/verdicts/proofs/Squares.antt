-- Sums over a square of cells: those that are m levels below a cell. The square is cut into four.
use mathlib.Core.Path.{◌≡◌}
use mathlib.Core.List.{List, [], ◌∷◌, ◌++◌, Memᴰ}
use Prim.Native.Nat.{ℕ, suc, ◌+◌, ◌*◌, ◌/◌, ◌^◌}
use native.Mathlib.Nat as Nat
use native.Mathlib.Omega.{arith}
use Rattle.algebra.specs.Sum.{sumℕ, span}
use Rattle.algebra.proofs.Sum.{sumℕ_cong, sumℕ-++, sumℕ-+, sumℕ_zero}
use Rattle.algebra.proofs.Run.{span_member, span-++, span_one}
use Rattle.verdicts.specs.Operational.{four}

-- a sum over the four parts of a cell
pub sumℕ_four : {A : Type 0} (xs : List A) (g : A → ℕ → ℕ → ℕ) (p q : ℕ)
    → sumℕ xs (λ x. four (g x) p q) ≡ four (λ a b. sumℕ xs (λ x. g x a b)) p q
sumℕ_four xs g p q = simp sumℕ-+

-- ---- the columns, or the rows, that are m levels below the one at p
abbrev columns : ℕ → ℕ → List ℕ
columns m p = span (p * 2 ^ m) ((p + 1) * 2 ^ m)

columns_member : (m p : ℕ) {x : ℕ} → Memᴰ x (columns m p) → x / 2 ^ m ≡ p
columns_member m p {x} h = let (l, k) = span_member (p * 2 ^ m) ((p + 1) * 2 ^ m) h in Nat.div-eq_of_lt-le (2 ^ m) l k

twice : (m p : ℕ) → p * 2 ^ suc m ≡ 2 * p * 2 ^ m
twice m p = rw (Nat.pow-succ' 2 m, ← Nat.mul_assoc p 2 (2 ^ m), Nat.mul_comm p 2)

columns_cut : (m p : ℕ) → columns (suc m) p ≡ columns m (2 * p) ++ columns m (2 * p + 1)
columns_cut m p =
    let to : 2 * (p + 1) ≡ 2 * p + 1 + 1 = omega arith in
    rw (twice m p, twice m (p + 1), to) (span-++ (2 * p * 2 ^ m) ((2 * p + 1) * 2 ^ m) ((2 * p + 1 + 1) * 2 ^ m)
    (Nat.mul-le-mul_right (2 ^ m) (omega arith)) (Nat.mul-le-mul_right (2 ^ m) (omega arith)))

columns_self : (p : ℕ) → columns 0 p ≡ p ∷ []
columns_self p = simp (Nat.mul-one, span_one)

-- ---- the sum of g over the cells that are m levels below the cell p, q
unfoldable pub under : ℕ → (ℕ → ℕ → ℕ) → ℕ → ℕ → ℕ
under m g p q = sumℕ (columns m q) (λ y. sumℕ (columns m p) (λ x. g x y))

pub under_cut : (m : ℕ) (g : ℕ → ℕ → ℕ) (p q : ℕ) → under (suc m) g p q ≡ four (under m g) p q
unfolding under
under_cut m g p q = simp (columns_cut, sumℕ-++, sumℕ-+) (omega arith)

pub under_cong : (m : ℕ) (g h : ℕ → ℕ → ℕ) (p q : ℕ) → ((x y : ℕ) → x / 2 ^ m ≡ p → y / 2 ^ m ≡ q → g x y ≡ h x y)
    → under m g p q ≡ under m h p q
unfolding under
under_cong m g h p q e =
    sumℕ_cong (columns m q) (λ y j. sumℕ_cong (columns m p) (λ x i. e x y (columns_member m p i) (columns_member m q j)))

pub under_none : (m : ℕ) (g : ℕ → ℕ → ℕ) (p q : ℕ) → ((x y : ℕ) → x / 2 ^ m ≡ p → y / 2 ^ m ≡ q → g x y ≡ 0)
    → under m g p q ≡ 0
unfolding under
under_none m g p q e =
    sumℕ_zero (columns m q) (λ y j. sumℕ_zero (columns m p) (λ x i. e x y (columns_member m p i) (columns_member m q j)))

pub under_self : (g : ℕ → ℕ → ℕ) (p q : ℕ) → under 0 g p q ≡ g p q
unfolding under sumℕ
under_self g p q = rw (columns_self p, columns_self q) (omega arith)

-- of the cell of level 0: the whole level m
pub under_whole : (m : ℕ) (g : ℕ → ℕ → ℕ) → under m g 0 0 ≡ sumℕ (span 0 (2 ^ m)) (λ y. sumℕ (span 0 (2 ^ m)) (λ x. g x y))
unfolding under
under_whole m g = simp (Nat.zero-mul, Nat.one-mul)
