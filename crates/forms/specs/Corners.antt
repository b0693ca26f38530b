-- The corners of a cell: rational points of it, at which the nested form over one-point factors encloses the value. Assumes nothing.
use Rattle.std.specs.Prelude.{◌≡◌, ℕ, ◌+◌, ◌-◌, ◌*◌, ◌^◌, ◌≤◌}
use Rattle.std.proofs.Common.{sym, ap, ◌∙◌, mul-le-mul_right, mul_assoc, arith, lit≤, pow-add}
use Rattle.mapping.specs.Cells.{depth, place, Valid}
use Rattle.mapping.specs.Points.{Rational, In}
use Rattle.mapping.specs.Values.{AtLeast, AtMost}
use Rattle.mapping.specs.declared.cell.Shape.{Shape}
use Rattle.mapping.specs.declared.mapping.Mapping.{Mapping}
use Rattle.forms.specs.Nested.{bit, corner_factors, corner_ends, corner_point, AtCorner}
use Rattle.forms.specs.Enclosed.{Holds, nested_bounds}

pub bit_small : (k v : ℕ) → bit k v ≤ 1
bit_small k v = omega arith

-- 1024 is a power of the depth times the rest
whole : (d : ℕ) → d ≤ 10 → 2 ^ (10 - d) * 2 ^ d ≡ 1024
whole d h = let e : 10 - d + d ≡ 10 = omega arith in sym (pow-add 2 (10 - d) d) ∙ ap (λ n. 2 ^ n) e

-- a numerator over 2^d is the same over 1024
same_place : (a d : ℕ) → d ≤ 10 → a * 2 ^ (10 - d) * 2 ^ d ≡ a * 1024
same_place a d h = mul_assoc a (2 ^ (10 - d)) (2 ^ d) ∙ ap (λ n. a * n) (whole d h)

module _ (s : Shape) (k : ℕ) (ok : Valid s) where
  pub corner_rational : Rational (corner_point s k)
  corner_rational = (
    lit≤ tt,
    λ v h.
        let b : place s v + bit k v ≤ 2 ^ depth s v = omega (arith, ok.inside v h, bit_small k v) in
        let w : 2 ^ depth s v * 2 ^ (10 - depth s v) ≡ 1024 = omega (arith, whole (depth s v) (ok.shallow v h)) in
        omega (arith, mul-le-mul_right (2 ^ (10 - depth s v)) b),
  )

  pub corner_in : In (corner_point s k) s
  corner_in v h =
      let e = same_place (place s v + bit k v) (depth s v) (ok.shallow v h) in
      let b = bit_small k v in
      omega arith

  corner_holds : Holds (corner_factors s k) (corner_point s k).numerator (λ v. (corner_point s k).denominator)
  corner_holds v h = let e = same_place (place s v + bit k v) (depth s v) (ok.shallow v h) in omega arith

  corner_bounds : (m : Mapping) → AtLeast m (corner_point s k) (corner_ends m s k).0 × AtMost m (corner_point s k) (corner_ends m s k).1
  corner_bounds m = nested_bounds m (corner_factors s k) (corner_point s k) corner_holds

  pub at_corner : (m : Mapping) → AtCorner m s k (corner_ends m s k)
  at_corner m = record {
    rational = corner_rational;
    inside = corner_in;
    low = (corner_bounds m).0;
    high = (corner_bounds m).1;
  }
