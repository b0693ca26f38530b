-- Factorials and binomial coefficients.
--     factorial n        1 · 2 · … · n
--     choose n i         the binomial coefficient "n over i", 0 where i is above n
--     weight n j i       n! · choose j i / choose n i, a whole number where i is at most n
-- Assumes nothing.
use Rattle.std.specs.Prelude.{ℕ, zero, suc, ◌+◌, ◌-◌, ◌*◌}

unfoldable pub factorial : ℕ → ℕ
factorial zero = 1
factorial (suc n) = suc n * factorial n

unfoldable pub choose : ℕ → ℕ → ℕ
choose n zero = 1
choose zero (suc i) = 0
choose (suc n) (suc i) = choose n i + choose n (suc i)

unfoldable pub weight : ℕ → ℕ → ℕ → ℕ
weight n j i = choose j i * (factorial i * factorial (n - i))
