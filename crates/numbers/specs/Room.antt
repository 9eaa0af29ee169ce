-- Room for a sum of two products.
use Rattle.std.specs.Prelude.{◌+◌, ◌*◌, ◌^◌, ◌<◌, ℤ, nat_abs}

-- x u, y h and their sum fit 64 bits
abbrev pub Room : ℤ → ℤ → ℤ → ℤ → Type 0
Room x u y h = nat_abs x * nat_abs u + nat_abs y * nat_abs h < 2 ^ 63
