-- Bounds of an exact value: weaker ones follow, and those of one point are in order. Assumes nothing.
use Rattle.std.proofs.Common.{◌+◌, ◌<◌, ℤ, pos, ◌≤ℤ◌}
use native.Mathlib.Nat.{one-le-pow}
use lib.IntN.{*ℤ_comm}
use Rattle.arith.proofs.Order.{le_trans, mul_le_right, mul_le_cancel}
use Rattle.mapping.specs.Points.{Point, Rational}
use Rattle.mapping.specs.Values.{degree, weight, AtLeast, AtMost}
use Rattle.mapping.specs.declared.mapping.Mapping.{Mapping}

module _ (m : Mapping) (p : Point) where
  pub at_least_weaker : (y z : ℤ) → y ≤ℤ z → AtLeast m p z → AtLeast m p y
  unfolding AtLeast
  at_least_weaker y z h a = le_trans (mul_le_right (weight m p) h) a

  pub at_most_weaker : (y z : ℤ) → y ≤ℤ z → AtMost m p y → AtMost m p z
  unfolding AtMost
  at_most_weaker y z h a = le_trans a (mul_le_right (weight m p) h)

  pub weight_above : Rational p → 0 < weight m p
  unfolding weight
  weight_above r =
      one-le-pow (degree m 0 + degree m 1 + degree m 2) p.denominator r.0

  -- a lower bound and an upper bound of one value
  pub bounds_in_order : Rational p → (y z : ℤ) → AtLeast m p y → AtMost m p z → y ≤ℤ z
  unfolding AtLeast AtMost
  bounds_in_order r y z a b =
      mul_le_cancel (weight m p) (weight_above r) (rw (*ℤ_comm (pos (weight m p)) y, *ℤ_comm (pos (weight m p)) z) (le_trans a b))
