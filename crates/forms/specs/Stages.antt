-- The stages by which code gets to the answer of the Bernstein form.
--     end s a            the low or the high end of an answer
--     Within m j         each of the three numbers j is at most the degree of its input
--     share_at m j i     what the coefficient with exponents i counts for in the Bernstein coefficient at j, times n1! · n2! · n3!
--     on_box s m         the mapping's Bernstein coefficients on the whole box, rounded to the side s
--     on_cell s m c T    the table T of the box on the cell, halved with the means of the side s
--     minus T            the table with each number negated
--     held s T           what an array holds for a table T of the side s: T on the low side, and minus T on the high side, so that code
--                        rounds down everywhere
--     bends m v          the sum of |a| · i(i - 1) over all coefficients a, with i the exponent of input v, counted from 0
-- Assumes nothing.
use Rattle.std.specs.Prelude.{ℕ, zero, suc, ◌*◌, ◌<◌, ◌≤◌, List, ℤ, neg_ℤ, slice_index}
use Rattle.mapping.specs.Cells.{depth, place}
use Rattle.mapping.specs.Values.{degree, coefficient}
use Rattle.mapping.specs.declared.mapping.Mapping.{Mapping}
use Rattle.mapping.specs.declared.cell.Cell.{Cell}
use Rattle.forms.specs.declared.answer.Answer.{Answer}
use Rattle.forms.specs.declared.side.Side.{Side}
use Rattle.forms.specs.declared.side.Side.TheVariants.{Low, High}
use Rattle.forms.specs.Choose.{weight}
use Rattle.forms.specs.Polynomial.{Table}
use Rattle.forms.specs.Sides.{quotient, mean}
use Rattle.forms.specs.Tables.{first, halved, bends1, bends2, bends3}

abbrev pub end : Side → Answer → ℤ
end Low a = a.low
end High a = a.high

abbrev pub Within : Mapping → List ℕ → Type 0
Within m j = (v : ℕ) → v < 3 → slice_index j v ≤ degree m v

abbrev pub share_at : Mapping → List ℕ → List ℕ → ℕ
share_at m j i =
    weight (degree m 0) (slice_index j 0) (slice_index i 0)
    * (weight (degree m 1) (slice_index j 1) (slice_index i 1) * weight (degree m 2) (slice_index j 2) (slice_index i 2))

abbrev pub on_box : Side → Mapping → Table
on_box s m = first (quotient s) (degree m 0) (degree m 1) (degree m 2) (coefficient m)

abbrev pub on_cell : Side → Mapping → Cell → Table → Table
on_cell s m c =
    halved (mean s) (degree m 0) (degree m 1) (degree m 2) (depth c.shape 0) (place c.shape 0) (depth c.shape 1) (place c.shape 1)
    (depth c.shape 2) (place c.shape 2)

abbrev pub minus : Table → Table
minus T i j k = neg_ℤ (T i j k)

abbrev pub held : Side → Table → Table
held Low T = T
held High T = minus T

abbrev pub bends : Mapping → ℕ → ℤ
bends m zero = bends1 (degree m 0) (degree m 1) (degree m 2) (coefficient m)
bends m (suc zero) = bends2 (degree m 0) (degree m 1) (degree m 2) (coefficient m)
bends m (suc (suc v)) = bends3 (degree m 0) (degree m 1) (degree m 2) (coefficient m)
