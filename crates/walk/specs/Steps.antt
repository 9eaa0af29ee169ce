-- What the contracts of the walk's own functions say. None of it is the page's.
use Rattle.std.specs.Prelude.{◌≡◌, cond, List, [], ◌∷◌, ℕ, ◌-◌, ◌/◌, ◌%◌, ◌^◌, eqb, ℤ}
use Rattle.forms.specs.Bounds.{mode_of}
use Rattle.verdicts.specs.Judging.{carried_bend}
use Rattle.verdicts.specs.Walking.{Verdicts, colour_of, record_of}
use Rattle.verdicts.specs.Operational.{visited_from, coloured_from, bend_from, records_from, colour_from}
use Rattle.page.specs.Sheet.{Sheet}
use Rattle.page.specs.Bounds.{verdict}
use Rattle.marks.specs.Steps.{Painted, in_block}
use Rattle.cells.specs.Cell.{CellForm, Near}
use Rattle.local.specs.declared.Form.{Form}
use Rattle.marks.specs.declared.Seen.{Seen}

-- ---- what is seen of a cell is what the walk counts
pub record Counted (v : Verdicts) (k level p q : ℕ) (r : Seen) : Type 0 where
  pub visits : r.visited ≡ visited_from v level (k - level) p q
  pub colours : r.coloured ≡ coloured_from v level (k - level) p q
  pub bends : r.bend ≡ bend_from v level (k - level) p q

-- a cell of the colour c that is not cut, with n levels below it: it is cleared, or a finest one
pub record Settled (v : Verdicts) (level n p q c : ℕ) : Type 0 where
  pub visits : visited_from v level n p q ≡ 1
  pub colours : coloured_from v level n p q ≡ cond (eqb c 1) 1 0
  pub bends : bend_from v level n p q ≡ cond (eqb c 1) (carried_bend (v level p q)) 0
  pub records : records_from v level n p q ≡ record_of c level p q ∷ []
  pub paints : (x y : ℕ) → x / 2 ^ n ≡ p → y / 2 ^ n ≡ q → colour_from v level n x y ≡ c

-- the finest cells in the cell get their colours, and no other entry changes
abbrev pub Finest : Verdicts → ℕ → ℕ → ℕ → ℕ → List ℕ → List ℕ → Type 0
Finest v k level p q old now = Painted (in_block k (k - level) p q) (λ i. colour_from v level (k - level) (i % 2 ^ k) (i / 2 ^ k)) old now

-- what is left of a cell, in one place or another
abbrev pub Leaving : Type 0 → Type 1
Leaving X = Verdicts → ℕ → ℕ → ℕ → ℕ → X → X → Type 0

-- the cell is left, and it is counted
pub record Examined {X : Type 0} (left : Leaving X) (v : Verdicts) (k level p q : ℕ) (old now : X) (r : Seen) : Type 0 where
  pub leaves : left v k level p q old now
  pub counted : Counted v k level p q r

-- ---- a form that is carried: near to that of the cell, or the cell's own
pub record NearForm (S : Sheet) (form : Form) (across along : ℤ) (k level p q : ℕ) : Type 0 where
  pub degree : form.degree ≡ S.d
  pub depth : S.k ≡ k
  pub near : Near S level p q across along form.places

pub record OwnForm (S : Sheet) (form : Form) (k level p q : ℕ) : Type 0 where
  pub degree : form.degree ≡ S.d
  pub depth : S.k ≡ k
  pub own : CellForm S level p q form.places

-- it is so for some sheet: what `examine` and `cut` ask for
pub record Carried (form : Form) (across along : ℤ) (k level p q : ℕ) : Type 0 where
  pub sheet : Sheet
  pub near : NearForm sheet form across along k level p q

pub record Owned (form : Form) (k level p q : ℕ) : Type 0 where
  pub sheet : Sheet
  pub own : OwnForm sheet form k level p q

-- and then, whichever sheet it is, what they do is what its verdicts say
abbrev pub EachExamined : {X : Type 0} → Leaving X → Form → ℤ → ℤ → ℕ → ℕ → ℕ → ℕ → ℕ → X → X → Seen → Type 0
EachExamined left form across along k mode level p q old now r = (S : Sheet) → NearForm S form across along k level p q → Examined left (verdict S (mode_of mode)) k level p q old now r

abbrev pub EachCut : {X : Type 0} → Leaving X → Form → ℕ → ℕ → ℕ → ℕ → ℕ → X → X → Seen → Type 0
EachCut left form k mode level p q old now r =
    (S : Sheet) → OwnForm S form k level p q → colour_of (verdict S (mode_of mode) level p q ∷ []) ≡ 1 → Examined left (verdict S (mode_of mode)) k level p q old now r
