-- ℤ is an ordered commutative ring: the laws in one statement.
use lib.IntN.{ℤ, pos, ◌+ℤ◌, ◌*ℤ◌, neg_ℤ, +ℤ_assoc, +ℤ_comm, +ℤ_idr, +ℤ_invr, *ℤ_comm}
use lib.Signed.{◌≤ℤ◌, ≤ℤ_refl}
use Rattle.algebra.specs.OrderedRing.{OrderedRing}
use Rattle.algebra.proofs.Integer.{*ℤ_assoc, *ℤ_idr, *ℤ-+ℤ}
use Rattle.algebra.proofs.Order.{≤ℤ_trans, ≤ℤ_antisymm, ≤ℤ-total, +ℤ_mono, *ℤ_nonneg}

pub ℤ_ordered_ring : OrderedRing ℤ (pos 0) (pos 1) ◌+ℤ◌ ◌*ℤ◌ neg_ℤ ◌≤ℤ◌
ℤ_ordered_ring = record {
  +_assoc = +ℤ_assoc;
  +_comm = +ℤ_comm;
  +_zero = +ℤ_idr;
  +_neg = +ℤ_invr;
  *_assoc = *ℤ_assoc;
  *_comm = *ℤ_comm;
  *_one = *ℤ_idr;
  *-+ = *ℤ-+ℤ;
  ≤_refl = ≤ℤ_refl;
  ≤_trans = ≤ℤ_trans;
  ≤_antisymm = ≤ℤ_antisymm;
  ≤-total = ≤ℤ-total;
  +_mono = +ℤ_mono;
  *_nonneg = *ℤ_nonneg;
}
