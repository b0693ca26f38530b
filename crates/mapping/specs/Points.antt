-- Rational points of the input box, and the cells that they lie in. Inputs are counted from 0 here: v stands for input v + 1.
--     Point              one denominator for all inputs, and a numerator for each
--     Rational p         the denominator is at least 1, and no input is above 1
--     In p s             the cell covers each input: place/2^depth ≤ numerator/denominator ≤ (place + 1)/2^depth
-- Assumes nothing.
use Rattle.std.specs.Prelude.{ℕ, ◌+◌, ◌*◌, ◌^◌, ◌<◌, ◌≤◌}
use Rattle.mapping.specs.Cells.{depth, place}
use Rattle.mapping.specs.declared.cell.Shape.{Shape}

pub record Point : Type 0 where
  pub denominator : ℕ
  pub numerator : ℕ → ℕ

abbrev pub Rational : Point → Type 0
Rational p = (1 ≤ p.denominator) × ((v : ℕ) → v < 3 → p.numerator v ≤ p.denominator)

-- one input at u/D, in the part of depth d and place q
abbrev pub Covers : ℕ → ℕ → ℕ → ℕ → Type 0
Covers d q u D = (q * D ≤ u * 2 ^ d) × (u * 2 ^ d ≤ (q + 1) * D)

abbrev pub In : Point → Shape → Type 0
In p s = (v : ℕ) → v < 3 → Covers (depth s v) (place s v) (p.numerator v) p.denominator
