-- Places: what stands at a number, in a row, and in a table that is written out row by row.
use Rattle.std.specs.Prelude.{List, ℕ, ◌+◌, ℤ, pos, get_or}
use Rattle.algebra.specs.Triangle.{place}

-- what stands at n; zero past the end
abbrev pub at : List ℤ → ℕ → ℤ
at xs n = get_or xs n (pos 0)

-- c(j) of the row from `first` on
abbrev pub row_of : List ℤ → ℕ → ℕ → ℤ
row_of places first j = at places (first + j)

-- f(i,j) of the table of degree d from `start` on
abbrev pub held_from : List ℤ → ℕ → ℕ → ℕ → ℕ → ℤ
held_from places start d i j = at places (start + place d i j)

-- and of the one from the first place on
abbrev pub held : List ℤ → ℕ → ℕ → ℕ → ℤ
held places d i j = at places (place d i j)
