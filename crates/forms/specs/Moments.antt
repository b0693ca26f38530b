-- The moments of a mapping, from a sum over flat places to one over the three exponents. Assumes nothing.
use Rattle.std.specs.Prelude.{◌≡◌, ℕ, suc, ◌+◌, ◌*◌, ◌/◌, ◌%◌, ◌<◌, ℤ, pos, ◌*ℤ◌, unsigned_abs}
use Rattle.std.proofs.Common.{sym, ◌∙◌, mul_assoc, add-one, arith}
use Rattle.std.proofs.Math.Path.{ap}
use Rattle.std.proofs.lemmas.Nat.{div-mul-add, mod-mul-add}
use Rattle.arith.specs.Sums.{sum}
use Rattle.arith.proofs.Sums.{sum_ext, sum_scale, sum_split₃}
use Rattle.mapping.specs.Terms.{terms, flat}
use Rattle.mapping.specs.Values.{degree, coefficient}
use Rattle.mapping.specs.declared.mapping.Mapping.{Mapping}
use Rattle.forms.specs.Nested.{moment}

-- the size of a coefficient, as an integer
abbrev pub size : Mapping → ℕ → ℕ → ℕ → ℤ
size m i j k = pos (unsigned_abs (coefficient m i j k))

module _ (m : Mapping) where
  -- a sum over all places is one over all exponents
  module _ (f : ℕ → ℤ) (g : ℕ → ℕ → ℕ → ℤ) (same : (i j k : ℕ) → j < suc (degree m 1) → k < suc (degree m 2) → f (flat m.degrees i j k) ≡ g i j k) where
    row : (i j : ℕ) → j < suc (degree m 1) → sum (degree m 2 + 1) (λ k. f (flat m.degrees i j k)) ≡ sum (suc (degree m 2)) (λ k. g i j k)
    row i j h =
        ap (λ n. sum n (λ k. f (flat m.degrees i j k))) (add-one (degree m 2))
        ∙ sum_ext (suc (degree m 2)) _ _ (λ k l. same i j k h l)

    rows : (i : ℕ) → sum (degree m 1 + 1) (λ j. sum (degree m 2 + 1) (λ k. f (flat m.degrees i j k))) ≡ sum (suc (degree m 1)) (λ j. sum (suc (degree m 2)) (λ k. g i j k))
    rows i =
        ap (λ n. sum n (λ j. sum (degree m 2 + 1) (λ k. f (flat m.degrees i j k)))) (add-one (degree m 1))
        ∙ sum_ext (suc (degree m 1)) _ _ (λ j h. row i j h)

    by_exponents : sum (terms m.degrees) f ≡ sum (suc (degree m 0)) (λ i. sum (suc (degree m 1)) (λ j. sum (suc (degree m 2)) (λ k. g i j k)))
    by_exponents =
        ap (λ n. sum n f) (sym (mul_assoc (degree m 0 + 1) (degree m 1 + 1) (degree m 2 + 1)))
        ∙ sum_split₃ (degree m 0 + 1) (degree m 1 + 1) (degree m 2 + 1) f
        ∙ ap (λ n. sum n (λ i. sum (degree m 1 + 1) (λ j. sum (degree m 2 + 1) (λ k. f (flat m.degrees i j k))))) (add-one (degree m 0))
        ∙ sum_ext (suc (degree m 0)) _ _ (λ i h. rows i)

  exponent_3 : (i j k : ℕ) → k < suc (degree m 2) → flat m.degrees i j k % (degree m 2 + 1) ≡ k
  exponent_3 i j k l = mod-mul-add (i * (degree m 1 + 1) + j) (degree m 2 + 1) k (omega arith)

  row_of : (i j k : ℕ) → k < suc (degree m 2) → flat m.degrees i j k / (degree m 2 + 1) ≡ i * (degree m 1 + 1) + j
  row_of i j k l = div-mul-add (i * (degree m 1 + 1) + j) (degree m 2 + 1) k (omega arith)

  exponent_2 : (i j k : ℕ) → j < suc (degree m 1) → k < suc (degree m 2) → flat m.degrees i j k / (degree m 2 + 1) % (degree m 1 + 1) ≡ j
  exponent_2 i j k h l = ap (λ n. n % (degree m 1 + 1)) (row_of i j k l) ∙ mod-mul-add i (degree m 1 + 1) j (omega arith)

  exponent_1 : (i j k : ℕ) → j < suc (degree m 1) → k < suc (degree m 2) → flat m.degrees i j k / (degree m 2 + 1) / (degree m 1 + 1) ≡ i
  exponent_1 i j k h l = ap (λ n. n / (degree m 1 + 1)) (row_of i j k l) ∙ div-mul-add i (degree m 1 + 1) j (omega arith)

  pub moment_3 : moment m 2 ≡ sum (suc (degree m 0)) (λ i. sum (suc (degree m 1)) (λ j. sum (suc (degree m 2)) (λ k. pos k *ℤ size m i j k)))
  unfolding moment
  moment_3 = by_exponents _ _ (λ i j k h l. ap (λ n. pos (n * unsigned_abs (coefficient m i j k))) (exponent_3 i j k l))

  pub moment_2 : moment m 1 ≡ sum (suc (degree m 0)) (λ i. sum (suc (degree m 1)) (λ j. pos j *ℤ sum (suc (degree m 2)) (λ k. size m i j k)))
  unfolding moment
  moment_2 =
      by_exponents _ (λ i j k. pos j *ℤ size m i j k) (λ i j k h l. ap (λ n. pos (n * unsigned_abs (coefficient m i j k))) (exponent_2 i j k h l))
      ∙ sum_ext (suc (degree m 0)) _ _ (λ i hi.
      sum_ext (suc (degree m 1)) _ _ (λ j hj. sum_scale (suc (degree m 2)) (pos j) (λ k. size m i j k)))

  pub moment_1 : moment m 0 ≡ sum (suc (degree m 0)) (λ i. pos i *ℤ sum (suc (degree m 1)) (λ j. sum (suc (degree m 2)) (λ k. size m i j k)))
  unfolding moment
  moment_1 =
      by_exponents _ (λ i j k. pos i *ℤ size m i j k) (λ i j k h l. ap (λ n. pos (n * unsigned_abs (coefficient m i j k))) (exponent_1 i j k h l))
      ∙ sum_ext (suc (degree m 0)) _ _ (λ i hi.
      sum_ext (suc (degree m 1)) _ _ (λ j hj. sum_scale (suc (degree m 2)) (pos i) (λ k. size m i j k))
      ∙ sum_scale (suc (degree m 1)) (pos i) (λ j. sum (suc (degree m 2)) (λ k. size m i j k)))
