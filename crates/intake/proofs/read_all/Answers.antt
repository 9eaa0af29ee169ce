-- What one read more puts behind what was read is what came next.
use Rattle.std.proofs.Common.{◌≡◌, ◌≤◌, ◌+◌, ◌-◌, drop, length, ℕ, List, ◌++◌, take, rules, sym, ap, ◌∙◌, subst, drop_at, length-take-le, le_refl, arith}
use Rattle.std.proofs.Math.Seq.{take-add, take-append-le}
use Rattle.std.proofs.lemmas.Slice.{take-put_mid_below}
use Rattle.std.proofs.KnownBytes.{Consumes-trans}
use Rattle.std.specs.Io.KnownBytes.{Consumes}
use borrow.Rule.Slice.PartMut.{put_mid, post_of}
use Rattle.intake.proofs.read_all.Goals as goal

put_behind : (at k n : ℕ) (xs ys : List ℕ) → at ≤ length xs → n ≤ length ys → take at xs ++ take n ys ≡ take (at + n) (put_mid at k xs ys)
put_behind at k n xs ys within fits =
    let front = take-put_mid_below at k xs ys at (le_refl at) within in
    let behind = ap (take n) (drop_at (take at xs) (ys ++ post_of at k xs) at (length-take-le at xs within)) ∙ take-append-le n ys (post_of at k xs) fits in
    sym (take-add at n (put_mid at k xs ys) ∙ ap (λ l. l ++ take n (drop at (put_mid at k xs ys))) front ∙ ap (λ l. take at xs ++ l) behind)

pub loop-at-preserved : goal.loop-at-preserved
loop-at-preserved g c =
    let more = put_behind c.loop-at.at (length c.loop-at.place - c.loop-at.at) c.in_ok-n.n c.loop-at.place c.read.new.buf c.loop-at.invariant.0 (search rules) in
    (search rules, subst (Consumes _ _) more (Consumes-trans _ _ _ _ _ c.loop-at.invariant.1 c.in_ok-n.ensures.bytes.0))

-- each turn fills more of the place
pub loop-at-smaller : goal.loop-at-smaller
loop-at-smaller g c = omega arith
