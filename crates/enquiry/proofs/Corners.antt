-- Corners are rational points, and a witness stands for its corner. Assumes nothing.
use Rattle.std.proofs.Common.{ℕ, zero, suc, ◌<◌, ◌≤◌, arith}
use Rattle.mapping.specs.Cells.{Valid}
use Rattle.mapping.specs.Points.{Rational}
use Rattle.mapping.specs.Values.{AtLeast, AtMost, value, weight, scaled}
use Rattle.mapping.specs.declared.cell.Shape.{Shape}
use Rattle.mapping.specs.declared.mapping.Mapping.{Mapping}
use Rattle.enquiry.specs.InRegister.{InRegister}
use Rattle.forms.specs.Nested.{corner_point, corner_ends}
use Rattle.forms.specs.Corners.{corner_rational, at_corner}
use Rattle.enquiry.specs.Corners.{witness_at, witness_point}

module _ (s : Shape) (k : ℕ) (ok : Valid s) where
  pub corner_holds : (m : Mapping) → AtLeast m (corner_point s k) (corner_ends m s k).0 × AtMost m (corner_point s k) (corner_ends m s k).1
  corner_holds m = let at = at_corner s k ok m in (at.low, at.high)

  pub witness_rational : Rational (witness_point (witness_at s k))
  unfolding witness_point
  witness_rational = (omega arith, each)
    where
      each : (v : ℕ) → v < 3 → unfold witness_point in ((witness_point (witness_at s k)).numerator v ≤ 1024)
      each zero h = (corner_rational s k ok).1 0 h
      each (suc zero) h = (corner_rational s k ok).1 1 h
      each (suc (suc zero)) h = (corner_rational s k ok).1 2 h
      each (suc (suc (suc v))) h = absurd (omega arith)

  pub witness_held : (m : Mapping) → InRegister m (witness_point (witness_at s k)) → InRegister m (corner_point s k)
  unfolding InRegister AtLeast AtMost value scaled weight witness_point
  witness_held m h = h
