-- The Bernstein form of a polynomial in three inputs on a cell: its tables, its enclosure and its slack. A cell is given by a depth d
-- and a place m for each input; the polynomial by its degrees n1, n2, n3 and its coefficients a.
--     numerator …        the Bernstein coefficient at j1, j2, j3 on the whole box, times n1! · n2! · n3!
--     first q …          the table of the Bernstein coefficients on the whole box, each rounded once by q
--     along1 g T         T with g applied to each of its rows along input 1; along2 and along3 are the same for inputs 2 and 3
--     halved f …         a table halved by all digits of the place of input 1, then of input 2, then of input 3, with the means f
--     low_table, high_table   the table on the cell, everything rounded down, and everything rounded up
--     least n r          the least of r 0, … r n; greatest is the opposite
--     low, high          the least number of the low table, and the greatest of the high one: the enclosure
--     sizes a            the sizes of the coefficients, without their signs
--     pairs i            i(i - 1)
--     bends1 …           the sum of |a| · i(i - 1) over all coefficients, with i the exponent of input 1; bends2 and bends3 likewise
--     loss n d S         what one input of degree n and depth d adds to the slack, where its sum is S
--     slack              how far the ends of the enclosure may lie from values of the polynomial
-- Assumes nothing.
use Rattle.std.specs.Prelude.{ℕ, zero, suc, ◌-◌, ◌*◌, ◌^◌, ℤ, pos, ◌+ℤ◌, unsigned_abs}
use Rattle.std.specs.Int.{int_min, int_max}
use Rattle.arith.specs.Rounding.{quot_down, quot_up}
use Rattle.forms.specs.Choose.{factorial, weight}
use Rattle.forms.specs.Halving.{Row, mean_down, mean_up, kept, deep}
use Rattle.forms.specs.Polynomial.{Table, weighed}

-- ---- the tables

unfoldable pub numerator : ℕ → ℕ → ℕ → Table → Table
numerator n1 n2 n3 a j1 j2 j3 =
    weighed n1 n2 n3 a (λ i. pos (weight n1 j1 i)) (λ i. pos (weight n2 j2 i)) (λ i. pos (weight n3 j3 i))

unfoldable pub first : (ℤ → ℕ → ℤ) → ℕ → ℕ → ℕ → Table → Table
first q n1 n2 n3 a j1 j2 j3 = q (numerator n1 n2 n3 a j1 j2 j3) (factorial n1 * (factorial n2 * factorial n3))

abbrev pub along1 : (Row → Row) → Table → Table
along1 g T i j k = g (λ x. T x j k) i

abbrev pub along2 : (Row → Row) → Table → Table
along2 g T i j k = g (λ x. T i x k) j

abbrev pub along3 : (Row → Row) → Table → Table
along3 g T i j k = g (λ x. T i j x) k

unfoldable pub halved : (ℤ → ℤ → ℤ) → ℕ → ℕ → ℕ → ℕ → ℕ → ℕ → ℕ → ℕ → ℕ → Table → Table
halved f n1 n2 n3 d1 m1 d2 m2 d3 m3 T =
    along3 (deep (kept f n3) d3 m3) (along2 (deep (kept f n2) d2 m2) (along1 (deep (kept f n1) d1 m1) T))

unfoldable pub low_table : ℕ → ℕ → ℕ → Table → ℕ → ℕ → ℕ → ℕ → ℕ → ℕ → Table
low_table n1 n2 n3 a d1 m1 d2 m2 d3 m3 = halved mean_down n1 n2 n3 d1 m1 d2 m2 d3 m3 (first quot_down n1 n2 n3 a)

unfoldable pub high_table : ℕ → ℕ → ℕ → Table → ℕ → ℕ → ℕ → ℕ → ℕ → ℕ → Table
high_table n1 n2 n3 a d1 m1 d2 m2 d3 m3 = halved mean_up n1 n2 n3 d1 m1 d2 m2 d3 m3 (first quot_up n1 n2 n3 a)

-- ---- the enclosure

unfoldable pub least : ℕ → Row → ℤ
least zero r = r zero
least (suc n) r = int_min (least n r) (r (suc n))

unfoldable pub greatest : ℕ → Row → ℤ
greatest zero r = r zero
greatest (suc n) r = int_max (greatest n r) (r (suc n))

unfoldable pub least_of : ℕ → ℕ → ℕ → Table → ℤ
least_of n1 n2 n3 T = least n1 λ i. least n2 λ j. least n3 λ k. T i j k

unfoldable pub greatest_of : ℕ → ℕ → ℕ → Table → ℤ
greatest_of n1 n2 n3 T = greatest n1 λ i. greatest n2 λ j. greatest n3 λ k. T i j k

unfoldable pub low : ℕ → ℕ → ℕ → Table → ℕ → ℕ → ℕ → ℕ → ℕ → ℕ → ℤ
low n1 n2 n3 a d1 m1 d2 m2 d3 m3 = least_of n1 n2 n3 (low_table n1 n2 n3 a d1 m1 d2 m2 d3 m3)

unfoldable pub high : ℕ → ℕ → ℕ → Table → ℕ → ℕ → ℕ → ℕ → ℕ → ℕ → ℤ
high n1 n2 n3 a d1 m1 d2 m2 d3 m3 = greatest_of n1 n2 n3 (high_table n1 n2 n3 a d1 m1 d2 m2 d3 m3)

-- ---- the slack

abbrev pub sizes : Table → Table
sizes a i j k = pos (unsigned_abs (a i j k))

abbrev pub pairs : Row
pairs i = pos (i * (i - 1))

abbrev pub ones : Row
ones i = pos 1

unfoldable pub bends1 : ℕ → ℕ → ℕ → Table → ℤ
bends1 n1 n2 n3 a = weighed n1 n2 n3 (sizes a) pairs ones ones

unfoldable pub bends2 : ℕ → ℕ → ℕ → Table → ℤ
bends2 n1 n2 n3 a = weighed n1 n2 n3 (sizes a) ones pairs ones

unfoldable pub bends3 : ℕ → ℕ → ℕ → Table → ℤ
bends3 n1 n2 n3 a = weighed n1 n2 n3 (sizes a) ones ones pairs

unfoldable pub loss : ℕ → ℕ → ℤ → ℤ
loss zero d S = pos 0
loss (suc m) d S = quot_up (pos (suc m * d)) 2 +ℤ quot_up S (2 * suc m * 4 ^ d)

unfoldable pub slack : ℕ → ℕ → ℕ → Table → ℕ → ℕ → ℕ → ℤ
slack n1 n2 n3 a d1 d2 d3 =
    pos 1 +ℤ (loss n1 d1 (bends1 n1 n2 n3 a) +ℤ (loss n2 d2 (bends2 n1 n2 n3 a) +ℤ loss n3 d3 (bends3 n1 n2 n3 a)))
