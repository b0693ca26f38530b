-- The product of an enclosure, which runs from p to r, by a factor, which runs from e / 2^d to f / 2^d.
--     low_times p e f d       the low end: the smaller of p × e and p × f, over 2^d, rounded down
--     high_times r e f d      the high end: the larger of r × e and r × f, over 2^d, rounded up
--     Proper e f d            the limits on a factor's numbers
--     Tame z                  z lies between -2^47 and 2^47, so that z × e and z × f fit 64 bits
--     Laws e f d              what holds of the product by this factor, of every enclosure: the next three
--     Encloses                a number of the enclosure times a number of the factor is a number of the product. The first is
--                             X / W, the second u / D, and both sides are multiplied by W × D, so that no fraction is needed
--     BoundKept z z'          a bound A on the size of z, from above or from below, holds of z' too
--     WidthBounded            by a factor whose numerators are at most 1 apart, the width grows by at most A / 2^d + 2, where A is
--                             at least the enclosure's distance from 0. Both sides are multiplied by 2^d
-- Assumes nothing.
use Rattle.std.specs.Prelude.{ℕ, ◌+◌, ◌*◌, ◌^◌, ◌≤◌, ℤ, pos, ◌+ℤ◌, ◌-ℤ◌, ◌*ℤ◌, neg_ℤ, ◌≤ℤ◌}
use Rattle.std.specs.Int.{int_min, int_max}
use Rattle.arith.specs.Rounding.{quot_down, quot_up}

unfoldable pub low_times : ℤ → ℕ → ℕ → ℕ → ℤ
low_times p e f d = quot_down (int_min (p *ℤ pos e) (p *ℤ pos f)) (2 ^ d)

unfoldable pub high_times : ℤ → ℕ → ℕ → ℕ → ℤ
high_times r e f d = quot_up (int_max (r *ℤ pos e) (r *ℤ pos f)) (2 ^ d)

abbrev pub Proper : (e f d : ℕ) → Type 0
Proper e f d = (e ≤ f) × (f ≤ 2 ^ d) × (d ≤ 15)

abbrev pub Tame : ℤ → Type 0
Tame z = (neg_ℤ (pos (2 ^ 47)) ≤ℤ z) × (z ≤ℤ pos (2 ^ 47))

abbrev pub Encloses : (e f d : ℕ) → Type 0
Encloses e f d =
    (p r X : ℤ) (W D u : ℕ) → (p *ℤ pos W) ≤ℤ X → X ≤ℤ (r *ℤ pos W) → e * D ≤ u * 2 ^ d → u * 2 ^ d ≤ f * D →
    ((low_times p e f d *ℤ pos (W * D)) ≤ℤ (X *ℤ pos u)) × ((X *ℤ pos u) ≤ℤ (high_times r e f d *ℤ pos (W * D)))

abbrev pub BoundKept : (z z' : ℤ) → Type 0
BoundKept z z' = (A : ℕ) → (neg_ℤ (pos A) ≤ℤ z → neg_ℤ (pos A) ≤ℤ z') × (z ≤ℤ pos A → z' ≤ℤ pos A)

abbrev pub WidthBounded : (e f d : ℕ) → Type 0
WidthBounded e f d =
    (p r : ℤ) (A : ℕ) → p ≤ℤ r → f ≤ e + 1 → p ≤ℤ pos A → neg_ℤ (pos A) ≤ℤ r →
    (pos (2 ^ d) *ℤ (high_times r e f d -ℤ low_times p e f d)) ≤ℤ ((pos (2 ^ d) *ℤ (r -ℤ p)) +ℤ pos (A + 2 * 2 ^ d))

pub record Laws (e f d : ℕ) : Type 0 where
  pub encloses : Encloses e f d
  pub low_kept : (p : ℤ) → BoundKept p (low_times p e f d)
  pub high_kept : (r : ℤ) → BoundKept r (high_times r e f d)
  pub width : WidthBounded e f d
