-- The weights of exponents from which the two slacks come: the exponent i itself, and i(i - 1). Assumes nothing.
use Rattle.std.proofs.Common.{◌≡◌, ℕ, zero, suc, ◌-◌, ◌*◌, ◌<◌, ◌≤◌, List, [], ◌∷◌, get_or, pos, nat_abs, refl, ap, ◌∙◌, mul_comm, arith}
use Rattle.arith.proofs.Sums.{sum_ext}
use Rattle.mapping.specs.Terms.{terms}
use Rattle.mapping.specs.declared.mapping.Mapping.{Mapping}
use Rattle.forms.specs.Nested.{moment}
use Rattle.forms.specs.Stages.{bends}
use Rattle.forms.specs.Totals.{weighed_sizes}
use Rattle.forms.proofs.Added.{pos_total}
use Rattle.forms.proofs.Bends.{bend, all_bends, exponent_small}
use Rattle.forms.proofs.Places.{exponent}

eight_cases : (P : ℕ → Type 0) → P 0 → P 1 → P 2 → P 3 → P 4 → P 5 → P 6 → P 7 → (i : ℕ) → i ≤ 7 → P i
eight_cases P a b c d e f g h zero l = a
eight_cases P a b c d e f g h (suc zero) l = b
eight_cases P a b c d e f g h (suc (suc zero)) l = c
eight_cases P a b c d e f g h (suc (suc (suc zero))) l = d
eight_cases P a b c d e f g h (suc (suc (suc (suc zero)))) l = e
eight_cases P a b c d e f g h (suc (suc (suc (suc (suc zero))))) l = f
eight_cases P a b c d e f g h (suc (suc (suc (suc (suc (suc zero)))))) l = g
eight_cases P a b c d e f g h (suc (suc (suc (suc (suc (suc (suc zero))))))) l = h
eight_cases P a b c d e f g h (suc (suc (suc (suc (suc (suc (suc (suc i)))))))) l = absurd (omega arith)

abbrev pub by_exponent : List ℕ
by_exponent = 0 ∷ (1 ∷ (2 ∷ (3 ∷ (4 ∷ (5 ∷ (6 ∷ (7 ∷ [])))))))

abbrev pub by_pairs : List ℕ
by_pairs = 0 ∷ (0 ∷ (2 ∷ (6 ∷ (12 ∷ (20 ∷ (30 ∷ (42 ∷ [])))))))

exponent_is : (i : ℕ) → i ≤ 7 → get_or by_exponent i 0 ≡ i
exponent_is = eight_cases (λ i. get_or by_exponent i 0 ≡ i) refl refl refl refl refl refl refl refl

pairs_is : (i : ℕ) → i ≤ 7 → get_or by_pairs i 0 ≡ i * (i - 1)
pairs_is = eight_cases (λ i. get_or by_pairs i 0 ≡ i * (i - 1)) refl refl refl refl refl refl refl refl

module _ (m : Mapping) (v : ℕ) (input : v < 3) where
  abbrev size : ℕ → ℕ
  size t = nat_abs (get_or m.coefficients t (pos 0))

  pub moment_is : pos (weighed_sizes by_exponent m v) ≡ moment m v
  unfolding weighed_sizes moment
  moment_is =
      pos_total (terms m.degrees) (λ t. get_or by_exponent (exponent m.degrees v t) 0 * size t)
      ∙ sum_ext (terms m.degrees) (λ t. pos (get_or by_exponent (exponent m.degrees v t) 0 * size t)) (λ t. pos (exponent m.degrees v t * size t)) (λ t l.
      ap (λ e. pos (e * size t)) (exponent_is (exponent m.degrees v t) (exponent_small m v input t l)))

  pub bends_is : pos (weighed_sizes by_pairs m v) ≡ bends m v
  unfolding weighed_sizes
  bends_is =
      pos_total (terms m.degrees) (λ t. get_or by_pairs (exponent m.degrees v t) 0 * size t)
      ∙ sum_ext (terms m.degrees) (λ t. pos (get_or by_pairs (exponent m.degrees v t) 0 * size t)) (bend m v) (λ t l.
      ap (λ e. pos (e * size t)) (pairs_is (exponent m.degrees v t) (exponent_small m v input t l))
      ∙ ap pos (mul_comm (exponent m.degrees v t * (exponent m.degrees v t - 1)) (size t)))
      ∙ all_bends m v input

-- the sums that code has for the three inputs
module _ (m : Mapping) (sums : List ℕ) where
  pub moments_are : ((v : ℕ) → v < 3 → get_or sums v 0 ≡ weighed_sizes by_exponent m v) → (v : ℕ) → v < 3 → pos (get_or sums v 0) ≡ moment m v
  moments_are is v l = ap pos (is v l) ∙ moment_is m v l

  pub bends_are : ((v : ℕ) → v < 3 → get_or sums v 0 ≡ weighed_sizes by_pairs m v) → (v : ℕ) → v < 3 → pos (get_or sums v 0) ≡ bends m v
  bends_are is v l = ap pos (is v l) ∙ bends_is m v l
