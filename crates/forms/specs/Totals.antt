-- Sums of the sizes of a mapping's coefficients, weighed by exponents.
--     total n f              f 0 + f 1 + … + f (n - 1), of naturals
--     row_sum n xs s         the sum of the n + 1 numbers of xs from place s on
--     row_weighed ws n xs s  the same with each number times the weight of its place in the row
--     weighed_sizes ws m v   over all coefficients, the sum of the weight of the exponent of input v, counted from 0, times the
--                            coefficient's size
-- Assumes nothing.
use Rattle.std.specs.Prelude.{ℕ, zero, suc, ◌+◌, ◌*◌, List, pos, slice_index, slice_index_or, unsigned_abs}
use Rattle.mapping.specs.Terms.{terms, exponents}
use Rattle.mapping.specs.declared.mapping.Mapping.{Mapping}

unfoldable pub total : ℕ → (ℕ → ℕ) → ℕ
total zero f = 0
total (suc n) f = total n f + f n

abbrev pub row_sum : ℕ → List ℕ → ℕ → ℕ
row_sum n xs s = total (n + 1) (λ k. slice_index xs (s + k))

abbrev pub row_weighed : List ℕ → ℕ → List ℕ → ℕ → ℕ
row_weighed ws n xs s = total (n + 1) (λ k. slice_index ws k * slice_index xs (s + k))

unfoldable pub weighed_sizes : List ℕ → Mapping → ℕ → ℕ
weighed_sizes ws m v =
    total (terms m.degrees) (λ t. slice_index ws (slice_index (exponents m.degrees t) v) * unsigned_abs (slice_index_or m.coefficients t (pos 0)))
