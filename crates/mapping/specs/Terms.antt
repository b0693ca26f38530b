-- The coefficients of a mapping, from the degrees of its inputs: how many they are, and where each stands.
-- The exponent of input 3 runs fastest, then that of input 2, then that of input 1.
--     terms ns           how many coefficients: the product of the three numbers n + 1
--     flat ns i j k      where the coefficient with exponents i, j and k stands
--     exponents ns t     the three exponents of the coefficient that stands at t
-- Assumes nothing.
use Rattle.std.specs.Prelude.{ℕ, ◌+◌, ◌*◌, ◌/◌, ◌%◌, List, [], ◌∷◌, slice_index}

abbrev pub terms : List ℕ → ℕ
terms ns = (slice_index ns 0 + 1) * ((slice_index ns 1 + 1) * (slice_index ns 2 + 1))

abbrev pub flat : List ℕ → ℕ → ℕ → ℕ → ℕ
flat ns i j k = (i * (slice_index ns 1 + 1) + j) * (slice_index ns 2 + 1) + k

abbrev pub exponents : List ℕ → ℕ → List ℕ
exponents ns t =
    t / (slice_index ns 2 + 1) / (slice_index ns 1 + 1) ∷ (t / (slice_index ns 2 + 1) % (slice_index ns 1 + 1) ∷ (t % (slice_index ns 2 + 1) ∷ []))
