-- A pick by several tests, of a new value or the old one.
use mathlib.Core.Path.{◌≡◌, refl}
use mathlib.Core.Bool.{Bool, true, false, ◌&&◌, ◌||◌, cond}
use Prim.Native.Nat.{ℕ}

-- a second pick over a first, of the same new value
pub pick_more : (e b c : Bool) (n o : ℕ) → cond (e && c) n (cond (b && c) n o) ≡ cond ((b || e) && c) n o
pick_more true true true n o = refl
pick_more true true false n o = refl
pick_more true false true n o = refl
pick_more true false false n o = refl
pick_more false true true n o = refl
pick_more false true false n o = refl
pick_more false false true n o = refl
pick_more false false false n o = refl

-- four picks of the same new value, by a column and a row
pub pick_four : (a a' b b' : Bool) (n o : ℕ) → cond (a' && b') n (cond (a && b') n (cond (a' && b) n (cond (a && b) n o))) ≡ cond ((a || a') && (b || b')) n o
pick_four true true true true n o = refl
pick_four true true true false n o = refl
pick_four true true false true n o = refl
pick_four true true false false n o = refl
pick_four true false true true n o = refl
pick_four true false true false n o = refl
pick_four true false false true n o = refl
pick_four true false false false n o = refl
pick_four false true true true n o = refl
pick_four false true true false n o = refl
pick_four false true false true n o = refl
pick_four false true false false n o = refl
pick_four false false true true n o = refl
pick_four false false true false n o = refl
pick_four false false false true n o = refl
pick_four false false false false n o = refl
