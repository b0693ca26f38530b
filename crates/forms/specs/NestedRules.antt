-- The nested form keeps the rules of a form. Assumes nothing.
use Rattle.std.specs.Prelude.{◌^◌, ℤ, ◌+ℤ◌, ◌-ℤ◌, ◌≤ℤ◌}
use Rattle.std.proofs.Common.{arith, pow_pos}
use Rattle.arith.proofs.Ring.{lin}
use Rattle.arith.proofs.Quotients.{up_above}
use Rattle.mapping.specs.Cells.{depth}
use Rattle.mapping.specs.Points.{Point, Rational, In}
use Rattle.mapping.specs.Values.{AtLeast, AtMost}
use Rattle.mapping.specs.declared.cell.Cell.{Cell}
use Rattle.mapping.specs.declared.mapping.Mapping.{Mapping}
use Rattle.mapping.proofs.Bounds.{at_least_weaker, at_most_weaker}
use Rattle.mapping.proofs.Halving.{valid_cell}
use Rattle.forms.specs.Rules.{Rules}
use Rattle.forms.specs.Nested.{cell_factors, moment, nested_slack, nested, corner_point}
use Rattle.forms.specs.Enclosed.{nested_bounds}
use Rattle.forms.specs.Widths.{Close, nested_width}
use Rattle.forms.specs.Corners.{corner_rational, corner_in}

module _ (m : Mapping) (c : Cell) where
  pub cell_close : Close (cell_factors c.shape)
  cell_close v h = omega (arith, c.inside v h)

  slack_covers : ((nested m c).high -ℤ (nested m c).low) ≤ℤ (nested m c).slack
  unfolding nested_slack
  slack_covers =
      nested_width m (cell_factors c.shape) cell_close _ _ _
      (up_above (2 ^ depth c.shape 0) (pow_pos (depth c.shape 0)) (moment m 0))
      (up_above (2 ^ depth c.shape 1) (pow_pos (depth c.shape 1)) (moment m 1))
      (up_above (2 ^ depth c.shape 2) (pow_pos (depth c.shape 2)) (moment m 2))

  bounds : (p : Point) → In p c.shape → AtLeast m p (nested m c).low × AtMost m p (nested m c).high
  bounds p i = nested_bounds m (cell_factors c.shape) p i

  -- a point that serves for both ends: the lowest corner
  abbrev near : Point
  near = corner_point c.shape 0

  near_rational : Rational near
  near_rational = corner_rational c.shape 0 (valid_cell c)

  near_in : In near c.shape
  near_in = corner_in c.shape 0 (valid_cell c)

  near_bounds : AtLeast m near (nested m c).low × AtMost m near (nested m c).high
  near_bounds = bounds near near_in

-- ends apart by at most s
up_to : (l h s : ℤ) → (h -ℤ l) ≤ℤ s → h ≤ℤ (l +ℤ s)
up_to l h s w = omega (arith, lin)

down_to : (l h s : ℤ) → (h -ℤ l) ≤ℤ s → (h -ℤ s) ≤ℤ l
down_to l h s w = omega (arith, lin)

pub nested_rules : Rules nested
nested_rules = record {
  low_holds = λ m c p r i. (bounds m c p i).0;
  high_holds = λ m c p r i. (bounds m c p i).1;
  low_near = λ m c. (near m c, near_rational m c, near_in m c, at_most_weaker m (near m c) _ _ (up_to (nested m c).low (nested m c).high (nested m c).slack (slack_covers m c)) (near_bounds m c).1);
  high_near = λ m c. (near m c, near_rational m c, near_in m c, at_least_weaker m (near m c) _ _ (down_to (nested m c).low (nested m c).high (nested m c).slack (slack_covers m c)) (near_bounds m c).0);
}
