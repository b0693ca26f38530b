-- The sums that the slack of the Bernstein form takes, by the flat places of coefficients.
--     bend m v t         what the coefficient at the flat place t adds to the sum of input v
-- Assumes nothing.
use Rattle.std.proofs.Common.{◌≡◌, ℕ, ◌-◌, ◌*◌, ◌<◌, ◌≤◌, ℤ, pos, nat_abs, sym, ap, ◌∙◌, one-mul, mul-one, arith}
use Rattle.arith.specs.Sums.{sum}
use Rattle.arith.proofs.Sums.{sum_ext}
use Rattle.mapping.specs.Terms.{terms}
use Rattle.mapping.specs.declared.mapping.Mapping.{Mapping}
use Rattle.forms.specs.Arrays.{numbers}
use Rattle.forms.specs.Stages.{bends}
use Rattle.forms.specs.Tables.{pairs, ones, bends1, bends2, bends3}
use Rattle.forms.proofs.Numerators.{exponents_within}
use Rattle.forms.proofs.Places.{exponent, weighed_places}
use Rattle.forms.specs.BernsteinSound.{three_cases}

abbrev pub bend : Mapping → ℕ → ℕ → ℤ
bend m v t = pos (nat_abs (numbers m.coefficients t) * (exponent m.degrees v t * (exponent m.degrees v t - 1)))

-- ---- all terms

pub all_bends : (m : Mapping) (v : ℕ) → v < 3 → sum (terms m.degrees) (bend m v) ≡ bends m v
unfolding bends1 bends2 bends3
all_bends m =
    three_cases (λ v. sum (terms m.degrees) (bend m v) ≡ bends m v)
    (sum_ext N (bend m 0) (λ t. pos (a t * (p 0 t * (1 * 1)))) (λ t l. ap (λ x. pos (a t * x)) (sym (mul-one (p 0 t))))
    ∙ weighed_places (λ z. pos (nat_abs z)) m.degrees m.coefficients pairs ones ones)
    (sum_ext N (bend m 1) (λ t. pos (a t * (1 * (p 1 t * 1)))) (λ t l. ap (λ x. pos (a t * x)) (sym (one-mul (p 1 t * 1) ∙ mul-one (p 1 t))))
    ∙ weighed_places (λ z. pos (nat_abs z)) m.degrees m.coefficients ones pairs ones)
    (sum_ext N (bend m 2) (λ t. pos (a t * (1 * (1 * p 2 t)))) (λ t l. ap (λ x. pos (a t * x)) (sym (one-mul (1 * p 2 t) ∙ one-mul (p 2 t))))
    ∙ weighed_places (λ z. pos (nat_abs z)) m.degrees m.coefficients ones ones pairs)
  where
    N : ℕ
    N = terms m.degrees

    a : ℕ → ℕ
    a t = nat_abs (numbers m.coefficients t)

    p : ℕ → ℕ → ℕ
    p v t = exponent m.degrees v t * (exponent m.degrees v t - 1)

-- ---- exponents

pub exponent_small : (m : Mapping) (v : ℕ) → v < 3 → (t : ℕ) → t < terms m.degrees → exponent m.degrees v t ≤ 7
exponent_small m v v-lt t l = omega (arith, exponents_within m t l v v-lt, m.low v v-lt)
