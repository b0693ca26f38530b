-- The two sides of an enclosure, low and high.
--     quotient s         a quotient, rounded down on the low side and up on the high side
--     mean s             half a sum, rounded likewise
--     outer s            the smaller of two numbers on the low side, the larger on the high side
--     extreme s n r      the least of r 0, … r n on the low side, the greatest on the high side
-- Assumes nothing.
use Rattle.std.specs.Prelude.{ℕ, ℤ}
use Rattle.std.specs.Int.{int_min, int_max}
use Rattle.arith.specs.Rounding.{quot_down, quot_up}
use Rattle.forms.specs.Halving.{Row, mean_down, mean_up}
use Rattle.forms.specs.Tables.{least, greatest}
use Rattle.forms.specs.declared.side.Side.{Side}
use Rattle.forms.specs.declared.side.Side.TheVariants.{Low, High}

abbrev pub quotient : Side → ℤ → ℕ → ℤ
quotient Low = quot_down
quotient High = quot_up

abbrev pub mean : Side → ℤ → ℤ → ℤ
mean Low = mean_down
mean High = mean_up

abbrev pub outer : Side → ℤ → ℤ → ℤ
outer Low = int_min
outer High = int_max

abbrev pub extreme : Side → ℕ → Row → ℤ
extreme Low = least
extreme High = greatest
