-- The nested form over any factors encloses the mapping's exact value at each point that the factors hold. Assumes nothing.
use Rattle.std.specs.Prelude.{◌≡◌, ℕ, suc, ◌+◌, ◌*◌, ◌^◌, ◌<◌, ◌≤◌, ℤ, pos, ◌*ℤ◌}
use Rattle.std.proofs.Math.Path.{sym}
use Rattle.std.proofs.Common.{ap, ◌∙◌, arith, pow-add}
use Rattle.arith.specs.Sums.{sum}
use Rattle.arith.proofs.Ring.{*ℤ-assoc, mul-one}
use Rattle.arith.proofs.Order.{le_eq}
use Rattle.arith.proofs.Sums.{sum_ext, sum_scale_right}
use Rattle.mapping.specs.Points.{Point}
use Rattle.mapping.specs.Polynomials.{share, poly}
use Rattle.mapping.specs.Values.{degree, coefficient, scaled, value, weight, AtLeast, AtMost}
use Rattle.mapping.specs.declared.mapping.Mapping.{Mapping}
use Rattle.forms.specs.Nested.{Factors, low_by, high_by, after_3, after_2, nested_low, nested_high}
use Rattle.forms.specs.Horner.{exact, Between, row_encloses}

-- ---- the exact value, one input at a time
inner : (a : ℤ) (x y z : ℕ) → a *ℤ pos (x * (y * z)) ≡ (a *ℤ pos z) *ℤ pos (y * x)
inner a x y z = ap (λ n. a *ℤ pos n) (turned x y z) ∙ sym (*ℤ-assoc a (pos z) (pos (y * x)))
  where
    turned : (x y z : ℕ) → x * (y * z) ≡ z * (y * x)
    turned x y z = omega arith

module _ (n₁ n₂ n₃ : ℕ) (a : ℕ → ℕ → ℕ → ℤ) (u₁ D₁ u₂ D₂ u₃ D₃ : ℕ) where
  abbrev s₁ : ℕ → ℕ
  s₁ i = share n₁ i u₁ D₁

  abbrev s₂ : ℕ → ℕ
  s₂ j = share n₂ j u₂ D₂

  abbrev s₃ : ℕ → ℕ
  s₃ k = share n₃ k u₃ D₃

  abbrev row : ℕ → ℕ → ℤ
  row i j = sum (suc n₃) (λ k. a i j k *ℤ pos (s₃ k))

  in_row : (i j : ℕ) → sum (suc n₃) (λ k. a i j k *ℤ pos (s₁ i * (s₂ j * s₃ k))) ≡ (row i j *ℤ pos (s₂ j)) *ℤ pos (s₁ i)
  in_row i j =
      sum_ext (suc n₃) _ (λ k. (a i j k *ℤ pos (s₃ k)) *ℤ pos (s₂ j * s₁ i)) (λ k l. inner (a i j k) (s₁ i) (s₂ j) (s₃ k))
      ∙ sum_scale_right (suc n₃) (pos (s₂ j * s₁ i)) (λ k. a i j k *ℤ pos (s₃ k))
      ∙ sym (*ℤ-assoc (row i j) (pos (s₂ j)) (pos (s₁ i)))

  in_rows : (i : ℕ) → sum (suc n₂) (λ j. sum (suc n₃) (λ k. a i j k *ℤ pos (s₁ i * (s₂ j * s₃ k)))) ≡ sum (suc n₂) (λ j. row i j *ℤ pos (s₂ j)) *ℤ pos (s₁ i)
  in_rows i =
      sum_ext (suc n₂) _ (λ j. (row i j *ℤ pos (s₂ j)) *ℤ pos (s₁ i)) (λ j l. in_row i j)
      ∙ sum_scale_right (suc n₂) (pos (s₁ i)) (λ j. row i j *ℤ pos (s₂ j))

  pub by_inputs : exact u₁ D₁ n₁ (λ i. exact u₂ D₂ n₂ (λ j. exact u₃ D₃ n₃ (λ k. a i j k))) ≡ poly n₁ n₂ n₃ a u₁ D₁ u₂ D₂ u₃ D₃
  unfolding exact poly
  by_inputs = sym (sum_ext (suc n₁) _ (λ i. sum (suc n₂) (λ j. row i j *ℤ pos (s₂ j)) *ℤ pos (s₁ i)) (λ i l. in_rows i))

-- ---- the form
-- each input's factors hold the point
abbrev pub Holds : Factors → (ℕ → ℕ) → (ℕ → ℕ) → Type 0
Holds g u D = (v : ℕ) → v < 3 → (g.from v * D v ≤ u v * 2 ^ g.power v) × (u v * 2 ^ g.power v ≤ g.to v * D v)

module _ (m : Mapping) (g : Factors) (u D : ℕ → ℕ) (h : Holds g u D) where
  -- the weights after input 3, after input 2, and after input 1
  abbrev w₃ : ℕ
  w₃ = 1 * D 2 ^ degree m 2

  abbrev w₂ : ℕ
  w₂ = w₃ * D 1 ^ degree m 1

  abbrev w₁ : ℕ
  w₁ = w₂ * D 0 ^ degree m 0

  coefficient_between : (i j k : ℕ) → Between 1 (coefficient m i j k) (coefficient m i j k) (coefficient m i j k)
  coefficient_between i j k = (le_eq (mul-one (coefficient m i j k)), le_eq (sym (mul-one (coefficient m i j k))))

  between_3 : (i j : ℕ) → Between w₃ (after_3 (low_by g) m i j) (after_3 (high_by g) m i j) (exact (u 2) (D 2) (degree m 2) (λ k. coefficient m i j k))
  between_3 i j =
      let at = h 2 (omega arith) in
      row_encloses (g.from 2) (g.to 2) (g.power 2) (u 2) (D 2) 1 at.0 at.1 (degree m 2) _ _ _ (λ k. coefficient_between i j k)

  between_2 : (i : ℕ) → Between w₂ (after_2 (low_by g) m i) (after_2 (high_by g) m i) (exact (u 1) (D 1) (degree m 1) (λ j. exact (u 2) (D 2) (degree m 2) (λ k. coefficient m i j k)))
  between_2 i =
      let at = h 1 (omega arith) in
      row_encloses (g.from 1) (g.to 1) (g.power 1) (u 1) (D 1) w₃ at.0 at.1 (degree m 1) _ _ _ (λ j. between_3 i j)

  pub nested_encloses : Between w₁ (nested_low m g) (nested_high m g) (scaled m u D)
  unfolding nested_low nested_high scaled
  nested_encloses =
      let at = h 0 (omega arith) in
      rw (← by_inputs (degree m 0) (degree m 1) (degree m 2) (coefficient m) (u 0) (D 0) (u 1) (D 1) (u 2) (D 2))
      (row_encloses (g.from 0) (g.to 0) (g.power 0) (u 0) (D 0) w₂ at.0 at.1 (degree m 0) _ _ _ (λ i. between_2 i))

-- with one denominator for all inputs: the bounds of a value
one_weight : (D a b c : ℕ) → 1 * D ^ c * D ^ b * D ^ a ≡ D ^ (a + b + c)
one_weight D a b c =
    let s : D ^ (a + b + c) ≡ D ^ a * D ^ b * D ^ c = pow-add D (a + b) c ∙ ap (λ x. x * D ^ c) (pow-add D a b) in
    turned (D ^ a) (D ^ b) (D ^ c) ∙ sym s
  where
    turned : (x y z : ℕ) → 1 * z * y * x ≡ x * y * z
    turned x y z = omega arith

pub nested_bounds : (m : Mapping) (g : Factors) (p : Point) → Holds g p.numerator (λ v. p.denominator)
    → AtLeast m p (nested_low m g) × AtMost m p (nested_high m g)
unfolding AtLeast AtMost value weight
nested_bounds m g p h =
    rw (← one_weight p.denominator (degree m 0) (degree m 1) (degree m 2)) (nested_encloses m g p.numerator (λ v. p.denominator) h)
