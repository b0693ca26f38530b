-- Corners of a cell as witnesses. Inputs are counted from 0 here: v stands for input v + 1. Corner k takes input v at its upper end where bit v of k is 1.
--     corner_at s k v    input v at the corner
--     witness_at s k     the corner as a witness: for each input numerator and depth
--     at_none            what stands where there is no input
--     witness_point w    the witness as a point
-- Assumes nothing.
use Rattle.std.specs.Prelude.{ℕ, ◌+◌, ◌-◌, ◌*◌, ◌^◌, [], ◌∷◌, slice_index_or}
use Rattle.mapping.specs.Cells.{depth, place}
use Rattle.mapping.specs.Points.{Point}
use Rattle.mapping.specs.declared.cell.Shape.{Shape}
use Rattle.forms.specs.Nested.{bit}
use Rattle.enquiry.specs.declared.witness.Fraction.{Fraction}
use Rattle.enquiry.specs.declared.witness.Witness.{Witness}

abbrev pub corner_at : Shape → ℕ → ℕ → Fraction
corner_at s k v = record { numerator = place s v + bit k v; depth = depth s v }

abbrev pub witness_at : Shape → ℕ → Witness
witness_at s k = record { at = corner_at s k 0 ∷ (corner_at s k 1 ∷ (corner_at s k 2 ∷ [])) }

abbrev pub at_none : Fraction
at_none = record { numerator = 0; depth = 0 }

unfoldable pub witness_point : Witness → Point
witness_point w = record {
  denominator = 1024;
  numerator = λ v. (slice_index_or w.at v at_none).numerator * 2 ^ (10 - (slice_index_or w.at v at_none).depth);
}
