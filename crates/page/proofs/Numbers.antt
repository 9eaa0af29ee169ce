-- The refusals by name: each number of a table names the refusal that has it.
use mathlib.Core.Path.{◌≡◌, refl, ap}
use mathlib.Core.Bool.{Bool, true, false, cond}
use mathlib.Core.List.{List, [], ◌∷◌}
use Prim.Native.Nat.{ℕ, zero, suc}
use native.Mathlib.Omega.{arith}
use Rattle.page.specs.declared.Refusal.TheVariants.{Degree, Count, Depth, Range, Mode, Weight, Place, Outside, Visited, Text, NotPlain, Sides, Letter, Fields, Written, Within, Beyond, Twice, Unended}
use Rattle.page.specs.Refusals.{Row, first, table, unless}
use Rattle.page.specs.Numbers.{number_of, by_number, NamedByNumber, TableNamed}

-- ---- a number names a refusal that has it
abbrev pub Names : ℕ → Type 0
Names n = number_of (by_number n) ≡ n

pub named_by_number : NamedByNumber
unfolding by_number
named_by_number Degree = refl
named_by_number Count = refl
named_by_number Depth = refl
named_by_number Range = refl
named_by_number Mode = refl
named_by_number Weight = refl
named_by_number Place = refl
named_by_number Outside = refl
named_by_number Visited = refl
named_by_number Text = refl
named_by_number NotPlain = refl
named_by_number Sides = refl
named_by_number Letter = refl
named_by_number Fields = refl
named_by_number Written = refl
named_by_number Within = refl
named_by_number Beyond = refl
named_by_number Twice = refl
named_by_number Unended = refl

-- ---- where every row's number names one, so does the first that holds
abbrev pub AllName : List Row → Type 0
AllName [] = Unit
AllName (r ∷ rs) = Names r.number × AllName rs

pub first_names : (rs : List Row) → AllName rs → (first rs ≡ 0 → ⊥) → Names (first rs)
unfolding first
first_names [] h z = absurd (z refl)
first_names (r ∷ rs) h z = go r.holds (first_names rs h.1) z
  where
    go : (b : Bool) → ((first rs ≡ 0 → ⊥) → Names (first rs)) → (cond b r.number (first rs) ≡ 0 → ⊥) → Names (cond b r.number (first rs))
    go true later z = h.0
    go false later z = later z

pub table_named : TableNamed
unfolding table by_number
table_named c = first_names (table c) (refl, (refl, (refl, (refl, (refl, (refl, (refl, (refl, (refl, tt)))))))))

-- ---- so the number of the refusal that an answer's number names is that number
pub unless_named : {X : Type 0} (refused : ℕ → X) (values : X) (n : ℕ) → ((n ≡ 0 → ⊥) → Names n) → unless n (λ m. refused (number_of (by_number m))) values ≡ unless n refused values
unless_named refused values zero h = refl
unless_named refused values (suc n) h = ap refused (h (λ e. absurd (omega arith)))
