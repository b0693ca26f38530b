-- Rows of whole numbers and de Casteljau's halving of them. A row of degree n is the numbers at 0, 1, … n of a function.
--     mean_down x y      half the sum of x and y, rounded down
--     mean_up x y        the same, rounded up
--     rounds f t r       the row r after t rounds, each of which replaces neighbours x, y by f x y
--     kept f n b r       what a halving keeps of the n rounds of r. Digit b = 0, the lower half: place k has the first number of
--                        round k. Digit b = 1, the upper half: place k has the last number of round n - k
--     deep g d p r       r after the halvings g b, one for each of the d binary digits b of the place p, from the most significant on
-- Assumes nothing.
use Rattle.std.specs.Prelude.{ℕ, zero, suc, ◌-◌, ◌/◌, ◌%◌, ℤ, ◌+ℤ◌}
use Rattle.arith.specs.Rounding.{quot_down, quot_up}

abbrev pub Row : Type 0
Row = ℕ → ℤ

unfoldable pub mean_down : ℤ → ℤ → ℤ
mean_down x y = quot_down (x +ℤ y) 2

unfoldable pub mean_up : ℤ → ℤ → ℤ
mean_up x y = quot_up (x +ℤ y) 2

unfoldable pub rounds : (ℤ → ℤ → ℤ) → ℕ → Row → Row
rounds f zero r i = r i
rounds f (suc t) r i = f (rounds f t r i) (rounds f t r (suc i))

unfoldable pub kept : (ℤ → ℤ → ℤ) → ℕ → ℕ → Row → Row
kept f n zero r k = rounds f k r 0
kept f n (suc b) r k = rounds f (n - k) r k

unfoldable pub deep : (ℕ → Row → Row) → ℕ → ℕ → Row → Row
deep g zero p r = r
deep g (suc d) p r = g (p % 2) (deep g d (p / 2) r)
