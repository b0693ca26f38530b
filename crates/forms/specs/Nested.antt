-- The nested form: the inputs are worked off in the order 3, 2, 1, each by Horner's rule, with enclosures for numbers.
-- Inputs are counted from 0 here: v stands for input v + 1.
--     horner by n row    the row's numbers 0 to n by Horner's rule: from number n down, `by` of what there is, plus the next number
--     Factors            for each input a range of factors, from from/2^depth to to/2^depth
--     low_by g v         the low end's product by the factor of input v
--     high_by g v        the high end's
--     after_3 by m i j   input 3 worked off: the coefficient for input 2, with exponents i and j of inputs 1 and 2
--     after_2 by m i     input 2 worked off too: the coefficient for input 1, with exponent i
--     over by m          all inputs worked off, input v by `by v`
--     nested_low m g     the low end over these factors
--     nested_high m g    the high end
--     cell_factors s     a cell's factors: each input from place to place + 1
--     bit k v            digit v of the corner number k: 0 for the lower end of input v, 1 for the upper one
--     corner_factors s k the factors of the cell's corner k: each input at one point
--     moment m v         over all coefficients, the sum of the exponent of input v times the coefficient's size
--     nested_slack m s   2 for each product, and for each input its moment over 2^depth, rounded up
--     nested m c         the form's answer for a cell
--     corner_ends m s k  low and high end at corner k of the cell
--     corner_point s k   that corner, as a point
--     AtCorner m s k ends    the corner is a rational point of the cell, and the value there lies between the ends
-- Assumes nothing.
use Rattle.std.specs.Prelude.{ℕ, zero, suc, ◌+◌, ◌-◌, ◌*◌, ◌/◌, ◌%◌, ◌^◌, ℤ, pos, ◌+ℤ◌, slice_index, slice_index_or, unsigned_abs}
use Rattle.arith.specs.Product.{low_times, high_times}
use Rattle.arith.specs.Rounding.{quot_up}
use Rattle.arith.specs.Sums.{sum}
use Rattle.mapping.specs.Cells.{depth, place}
use Rattle.mapping.specs.Points.{Point, Rational, In}
use Rattle.mapping.specs.Terms.{terms, exponents}
use Rattle.mapping.specs.Values.{degree, coefficient, AtLeast, AtMost}
use Rattle.mapping.specs.declared.cell.Cell.{Cell}
use Rattle.mapping.specs.declared.cell.Shape.{Shape}
use Rattle.mapping.specs.declared.mapping.Mapping.{Mapping}
use Rattle.forms.specs.declared.answer.Answer.{Answer}

unfoldable pub horner : (ℤ → ℤ) → ℕ → (ℕ → ℤ) → ℤ
horner by zero row = row 0
horner by (suc n) row = by (horner by n (λ k. row (suc k))) +ℤ row 0

pub record Factors : Type 0 where
  pub from : ℕ → ℕ
  pub to : ℕ → ℕ
  pub power : ℕ → ℕ

abbrev pub low_by : Factors → ℕ → ℤ → ℤ
low_by g v p = low_times p (g.from v) (g.to v) (g.power v)

abbrev pub high_by : Factors → ℕ → ℤ → ℤ
high_by g v r = high_times r (g.from v) (g.to v) (g.power v)

abbrev pub after_3 : (ℕ → ℤ → ℤ) → Mapping → ℕ → ℕ → ℤ
after_3 by m i j = horner (by 2) (degree m 2) (λ k. coefficient m i j k)

abbrev pub after_2 : (ℕ → ℤ → ℤ) → Mapping → ℕ → ℤ
after_2 by m i = horner (by 1) (degree m 1) (λ j. after_3 by m i j)

abbrev pub over : (ℕ → ℤ → ℤ) → Mapping → ℤ
over by m = horner (by 0) (degree m 0) (λ i. after_2 by m i)

unfoldable pub nested_low : Mapping → Factors → ℤ
nested_low m g = over (low_by g) m

unfoldable pub nested_high : Mapping → Factors → ℤ
nested_high m g = over (high_by g) m

abbrev pub cell_factors : Shape → Factors
cell_factors s = record { from = place s; to = λ v. place s v + 1; power = depth s }

abbrev pub bit : ℕ → ℕ → ℕ
bit k v = k / 2 ^ v % 2

abbrev pub corner_factors : Shape → ℕ → Factors
corner_factors s k = record { from = λ v. place s v + bit k v; to = λ v. place s v + bit k v; power = depth s }

unfoldable pub moment : Mapping → ℕ → ℤ
moment m v =
    sum (terms m.degrees) (λ t. pos (slice_index (exponents m.degrees t) v * unsigned_abs (slice_index_or m.coefficients t (pos 0))))

unfoldable pub nested_slack : Mapping → Shape → ℤ
nested_slack m s =
    pos (2 * (terms m.degrees - 1))
    +ℤ ((quot_up (moment m 0) (2 ^ depth s 0) +ℤ quot_up (moment m 1) (2 ^ depth s 1)) +ℤ quot_up (moment m 2) (2 ^ depth s 2))

abbrev pub nested : Mapping → Cell → Answer
nested m c = record {
  low = nested_low m (cell_factors c.shape);
  high = nested_high m (cell_factors c.shape);
  slack = nested_slack m c.shape;
}

abbrev pub corner_ends : Mapping → Shape → ℕ → ℤ × ℤ
corner_ends m s k = (nested_low m (corner_factors s k), nested_high m (corner_factors s k))

abbrev pub corner_point : Shape → ℕ → Point
corner_point s k = record { denominator = 1024; numerator = λ v. (place s v + bit k v) * 2 ^ (10 - depth s v) }

pub record AtCorner (m : Mapping) (s : Shape) (k : ℕ) (ends : ℤ × ℤ) : Type 0 where
  pub rational : Rational (corner_point s k)
  pub inside : In (corner_point s k) s
  pub low : AtLeast m (corner_point s k) ends.0
  pub high : AtMost m (corner_point s k) ends.1
