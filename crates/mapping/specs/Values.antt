-- The exact value of a mapping at a rational point. Inputs are counted from 0 here: v stands for input v + 1.
--     degree m v         the degree of an input
--     coefficient m i j k    the coefficient with these exponents
--     scaled m u D       the value at u v / D v for each input v, times D v to the degree of v
--     value m p          the value at the point, times its weight
--     weight m p         the denominator to the sum of the degrees
--     AtLeast m p z      the value at the point is at least z
--     AtMost m p z       it is at most z
-- Assumes nothing.
use Rattle.std.specs.Prelude.{ℕ, ◌+◌, ◌^◌, ℤ, pos, ◌*ℤ◌, ◌≤ℤ◌, slice_index, slice_index_or}
use Rattle.mapping.specs.Terms.{flat}
use Rattle.mapping.specs.Points.{Point}
use Rattle.mapping.specs.Polynomials.{poly}
use Rattle.mapping.specs.declared.mapping.Mapping.{Mapping}

abbrev pub degree : Mapping → ℕ → ℕ
degree m v = slice_index m.degrees v

abbrev pub coefficient : Mapping → ℕ → ℕ → ℕ → ℤ
coefficient m i j k = slice_index_or m.coefficients (flat m.degrees i j k) (pos 0)

unfoldable pub scaled : Mapping → (ℕ → ℕ) → (ℕ → ℕ) → ℤ
scaled m u D = poly (degree m 0) (degree m 1) (degree m 2) (coefficient m) (u 0) (D 0) (u 1) (D 1) (u 2) (D 2)

unfoldable pub value : Mapping → Point → ℤ
value m p = scaled m p.numerator (λ v. p.denominator)

unfoldable pub weight : Mapping → Point → ℕ
weight m p = p.denominator ^ (degree m 0 + degree m 1 + degree m 2)

unfoldable pub AtLeast : Mapping → Point → ℤ → Type 0
AtLeast m p z = (z *ℤ pos (weight m p)) ≤ℤ value m p

unfoldable pub AtMost : Mapping → Point → ℤ → Type 0
AtMost m p z = value m p ≤ℤ (z *ℤ pos (weight m p))
