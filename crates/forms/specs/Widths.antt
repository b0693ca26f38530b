-- The width of the nested form over a cell is at most its slack. Everything is kept times the powers of two of all inputs, so that
-- no fraction is needed. Assumes nothing.
use Rattle.std.specs.Prelude.{◌≡◌, ℕ, suc, ◌+◌, ◌-◌, ◌*◌, ◌^◌, ◌<◌, ◌≤◌, ℤ, pos, negsuc, ◌+ℤ◌, ◌-ℤ◌, ◌*ℤ◌, ◌≤ℤ◌, unsigned_abs, refl}
use Rattle.std.proofs.Common.{ap, ap₂, ◌∙◌, mul-one, mul-pos, arith, pow_pos}
use Rattle.std.proofs.Math.IntN.{*ℤ-zero, +ℤ_idl}
use Rattle.std.specs.Int.Signed.{≤ℤ_refl}
use Rattle.arith.specs.Sums.{sum}
use Rattle.arith.proofs.Ring.{lin, ring, one-mul}
use Rattle.arith.proofs.Order.{le_trans, le_eq, add_le, mul-le, mul_le_cancel}
use Rattle.arith.proofs.Sums.{sum_ext, sum_add, sum_scale, sum_const, sum_zero}
use Rattle.mapping.specs.Terms.{terms}
use Rattle.mapping.specs.Values.{degree, coefficient}
use Rattle.mapping.specs.declared.mapping.Mapping.{Mapping}
use Rattle.forms.specs.Nested.{Factors, low_by, high_by, after_3, after_2, nested_low, nested_high, moment}
use Rattle.forms.specs.Horner.{Span, spread, row_span}
use Rattle.forms.specs.Moments.{size, moment_1, moment_2, moment_3}

-- a coefficient is an enclosure of width 0
coefficient_span : (a : ℤ) → Span 1 a a (pos (unsigned_abs a)) (pos 0)
coefficient_span (pos n) = omega (arith, lin)
coefficient_span (negsuc n) = omega (arith, lin)

-- a row with the same number added everywhere
sum_past : (n : ℕ) (f : ℕ → ℤ) (c : ℤ) → sum n (λ k. f k +ℤ c) ≡ sum n f +ℤ (pos n *ℤ c)
sum_past n f c = sum_add n f (λ _. c) ∙ ap (λ x. sum n f +ℤ x) (sum_const n c)

-- one row over coefficients, whose own widths are 0
spread_first : (m n : ℕ) (a : ℕ → ℤ) → spread 1 m n a (λ _. pos 0) ≡ sum (suc n) (λ k. pos k *ℤ a k) +ℤ pos (2 * n * m)
spread_first m n a =
    ap₂ ◌+ℤ◌ (ap (λ x. pos m *ℤ x) (sum_zero (suc n) (λ _. pos 0) (λ k l. refl)) ∙ *ℤ-zero (pos m)) (one-mul (sum (suc n) (λ k. pos k *ℤ a k) +ℤ pos (2 * n * m)))
    ∙ +ℤ_idl (sum (suc n) (λ k. pos k *ℤ a k) +ℤ pos (2 * n * m))

-- the widths of several rows together
spread_sum : (N c m n : ℕ) (a t : ℕ → ℕ → ℤ)
    → sum N (λ i. spread c m n (a i) (t i))
    ≡ (pos m *ℤ sum N (λ i. sum (suc n) (t i))) +ℤ (pos c *ℤ (sum N (λ i. sum (suc n) (λ k. pos k *ℤ a i k)) +ℤ (pos N *ℤ pos (2 * n * m))))
spread_sum N c m n a t =
    let x : ℕ → ℤ = λ i. sum (suc n) (t i) in
    let y : ℕ → ℤ = λ i. sum (suc n) (λ k. pos k *ℤ a i k) in
    sum_add N (λ i. pos m *ℤ x i) (λ i. pos c *ℤ (y i +ℤ pos (2 * n * m)))
    ∙ ap₂ ◌+ℤ◌ (sum_scale N (pos m) x) (sum_scale N (pos c) (λ i. y i +ℤ pos (2 * n * m)) ∙ ap (λ z. pos c *ℤ z) (sum_past N y (pos (2 * n * m))))

-- ---- three inputs: degrees n, denominators m, and the sizes s of the coefficients
module _ (n₁ n₂ n₃ m₁ m₂ m₃ : ℕ) (s : ℕ → ℕ → ℕ → ℤ) where
  -- the sizes summed over input 3, and over inputs 3 and 2
  abbrev sizes_3 : ℕ → ℕ → ℤ
  sizes_3 i j = sum (suc n₃) (λ k. s i j k)

  abbrev sizes_2 : ℕ → ℤ
  sizes_2 i = sum (suc n₂) (λ j. sizes_3 i j)

  -- the widths after input 3, after input 2, and after input 1
  abbrev width_3 : ℕ → ℕ → ℤ
  width_3 i j = spread 1 m₃ n₃ (λ k. s i j k) (λ _. pos 0)

  abbrev width_2 : ℕ → ℤ
  width_2 i = spread m₃ m₂ n₂ (sizes_3 i) (width_3 i)

  abbrev width_1 : ℤ
  width_1 = spread (m₂ * m₃) m₁ n₁ sizes_2 width_2

  -- the moments
  abbrev moved_3 : ℤ
  moved_3 = sum (suc n₁) (λ i. sum (suc n₂) (λ j. sum (suc n₃) (λ k. pos k *ℤ s i j k)))

  abbrev moved_2 : ℤ
  moved_2 = sum (suc n₁) (λ i. sum (suc n₂) (λ j. pos j *ℤ sizes_3 i j))

  abbrev moved_1 : ℤ
  moved_1 = sum (suc n₁) (λ i. pos i *ℤ sizes_2 i)

  in_row : (i : ℕ) → sum (suc n₂) (width_3 i) ≡ sum (suc n₂) (λ j. sum (suc n₃) (λ k. pos k *ℤ s i j k)) +ℤ (pos (suc n₂) *ℤ pos (2 * n₃ * m₃))
  in_row i =
      sum_ext (suc n₂) (width_3 i) (λ j. sum (suc n₃) (λ k. pos k *ℤ s i j k) +ℤ pos (2 * n₃ * m₃)) (λ j l. spread_first m₃ n₃ (λ k. s i j k))
      ∙ sum_past (suc n₂) (λ j. sum (suc n₃) (λ k. pos k *ℤ s i j k)) (pos (2 * n₃ * m₃))

  total_3 : sum (suc n₁) (λ i. sum (suc n₂) (width_3 i)) ≡ moved_3 +ℤ (pos (suc n₁) *ℤ (pos (suc n₂) *ℤ pos (2 * n₃ * m₃)))
  total_3 =
      sum_ext (suc n₁) (λ i. sum (suc n₂) (width_3 i)) (λ i. sum (suc n₂) (λ j. sum (suc n₃) (λ k. pos k *ℤ s i j k)) +ℤ (pos (suc n₂) *ℤ pos (2 * n₃ * m₃))) (λ i l. in_row i)
      ∙ sum_past (suc n₁) (λ i. sum (suc n₂) (λ j. sum (suc n₃) (λ k. pos k *ℤ s i j k))) (pos (suc n₂) *ℤ pos (2 * n₃ * m₃))

  total_2 : sum (suc n₁) width_2 ≡ (pos m₂ *ℤ (moved_3 +ℤ (pos (suc n₁) *ℤ (pos (suc n₂) *ℤ pos (2 * n₃ * m₃))))) +ℤ (pos m₃ *ℤ (moved_2 +ℤ (pos (suc n₁) *ℤ pos (2 * n₂ * m₂))))
  total_2 =
      spread_sum (suc n₁) m₃ m₂ n₂ sizes_3 width_3
      ∙ ap (λ x. (pos m₂ *ℤ x) +ℤ (pos m₃ *ℤ (moved_2 +ℤ (pos (suc n₁) *ℤ pos (2 * n₂ * m₂))))) total_3

  total : width_1
      ≡ (pos m₁ *ℤ ((pos m₂ *ℤ (moved_3 +ℤ (pos (suc n₁) *ℤ (pos (suc n₂) *ℤ pos (2 * n₃ * m₃))))) +ℤ (pos m₃ *ℤ (moved_2 +ℤ (pos (suc n₁) *ℤ pos (2 * n₂ * m₂))))))
      +ℤ (pos (m₂ * m₃) *ℤ (moved_1 +ℤ pos (2 * n₁ * m₁)))
  total = ap (λ x. (pos m₁ *ℤ x) +ℤ (pos (m₂ * m₃) *ℤ (moved_1 +ℤ pos (2 * n₁ * m₁)))) total_2

-- larger moments, larger widths
larger : (m₁ m₂ m₃ : ℕ) (x₁ x₂ x₃ y₁ y₂ y₃ z₁ z₂ z₃ : ℤ) → x₁ ≤ℤ y₁ → x₂ ≤ℤ y₂ → x₃ ≤ℤ y₃
    → ((pos m₁ *ℤ ((pos m₂ *ℤ (x₃ +ℤ z₃)) +ℤ (pos m₃ *ℤ (x₂ +ℤ z₂)))) +ℤ (pos (m₂ * m₃) *ℤ (x₁ +ℤ z₁)))
    ≤ℤ ((pos m₁ *ℤ ((pos m₂ *ℤ (y₃ +ℤ z₃)) +ℤ (pos m₃ *ℤ (y₂ +ℤ z₂)))) +ℤ (pos (m₂ * m₃) *ℤ (y₁ +ℤ z₁)))
larger m₁ m₂ m₃ x₁ x₂ x₃ y₁ y₂ y₃ z₁ z₂ z₃ h₁ h₂ h₃ =
    add_le
    (mul-le m₁ (add_le (mul-le m₂ (add_le h₃ (≤ℤ_refl z₃))) (mul-le m₃ (add_le h₂ (≤ℤ_refl z₂)))))
    (mul-le (m₂ * m₃) (add_le h₁ (≤ℤ_refl z₁)))

-- the common factor taken out
gathered : (m₁ m₂ m₃ a b k₁ k₂ k₃ q₁ q₂ q₃ : ℤ)
    → (m₁ *ℤ ((m₂ *ℤ ((m₃ *ℤ q₃) +ℤ (a *ℤ (b *ℤ (k₃ *ℤ m₃))))) +ℤ (m₃ *ℤ ((m₂ *ℤ q₂) +ℤ (a *ℤ (k₂ *ℤ m₂)))))) +ℤ ((m₂ *ℤ m₃) *ℤ ((m₁ *ℤ q₁) +ℤ (k₁ *ℤ m₁)))
    ≡ (m₁ *ℤ (m₂ *ℤ m₃)) *ℤ ((((a *ℤ (b *ℤ k₃)) +ℤ (a *ℤ k₂)) +ℤ k₁) +ℤ ((q₁ +ℤ q₂) +ℤ q₃))
gathered m₁ m₂ m₃ a b k₁ k₂ k₃ q₁ q₂ q₃ = simp ring

-- how many products there are
products : (a b c : ℕ) → suc a * (suc b * (2 * c)) + suc a * (2 * b) + 2 * a ≡ 2 * ((a + 1) * ((b + 1) * (c + 1)) - 1)
products a b c = omega arith

-- ---- the form
-- proper factors whose numerators are at most 1 apart
abbrev pub Close : Factors → Type 0
Close g = (v : ℕ) → v < 3 → (g.from v ≤ g.to v) × (g.to v ≤ 2 ^ g.power v) × (g.to v ≤ g.from v + 1)

module _ (m : Mapping) (g : Factors) (close : Close g) where
  abbrev n₁ : ℕ
  n₁ = degree m 0

  abbrev n₂ : ℕ
  n₂ = degree m 1

  abbrev n₃ : ℕ
  n₃ = degree m 2

  abbrev m₁ : ℕ
  m₁ = 2 ^ g.power 0

  abbrev m₂ : ℕ
  m₂ = 2 ^ g.power 1

  abbrev m₃ : ℕ
  m₃ = 2 ^ g.power 2

  span_3 : (i j : ℕ) → Span m₃ (after_3 (low_by g) m i j) (after_3 (high_by g) m i j) (sizes_3 n₁ n₂ n₃ m₁ m₂ m₃ (size m) i j) (width_3 n₁ n₂ n₃ m₁ m₂ m₃ (size m) i j)
  span_3 i j =
      let k = close 2 (omega arith) in
      let s = row_span (g.from 2) (g.to 2) (g.power 2) k.0 k.1 k.2 1 n₃ (λ k. coefficient m i j k) (λ k. coefficient m i j k) (λ k. size m i j k) (λ _. pos 0)
      (λ k. coefficient_span (coefficient m i j k)) in
      rw mul-one at s

  span_2 : (i : ℕ) → Span (m₂ * m₃) (after_2 (low_by g) m i) (after_2 (high_by g) m i) (sizes_2 n₁ n₂ n₃ m₁ m₂ m₃ (size m) i) (width_2 n₁ n₂ n₃ m₁ m₂ m₃ (size m) i)
  span_2 i =
      let k = close 1 (omega arith) in
      row_span (g.from 1) (g.to 1) (g.power 1) k.0 k.1 k.2 m₃ n₂ _ _ _ _ (λ j. span_3 i j)

  span_1 : Span (m₁ * (m₂ * m₃)) (nested_low m g) (nested_high m g) (sum (suc n₁) (sizes_2 n₁ n₂ n₃ m₁ m₂ m₃ (size m))) (width_1 n₁ n₂ n₃ m₁ m₂ m₃ (size m))
  unfolding nested_low nested_high
  span_1 =
      let k = close 0 (omega arith) in
      row_span (g.from 0) (g.to 0) (g.power 0) k.0 k.1 k.2 (m₂ * m₃) n₁ _ _ _ _ (λ i. span_2 i)

  -- within any bounds of the moments, each over its power of two
  pub nested_width : (q₁ q₂ q₃ : ℤ)
      → moment m 0 ≤ℤ (pos m₁ *ℤ q₁) → moment m 1 ≤ℤ (pos m₂ *ℤ q₂) → moment m 2 ≤ℤ (pos m₃ *ℤ q₃)
      → (nested_high m g -ℤ nested_low m g) ≤ℤ (pos (2 * (terms m.degrees - 1)) +ℤ ((q₁ +ℤ q₂) +ℤ q₃))
  nested_width q₁ q₂ q₃ h₁ h₂ h₃ =
      let t = total n₁ n₂ n₃ m₁ m₂ m₃ (size m) in
      let l = larger m₁ m₂ m₃ (moved_1 n₁ n₂ n₃ m₁ m₂ m₃ (size m)) (moved_2 n₁ n₂ n₃ m₁ m₂ m₃ (size m)) (moved_3 n₁ n₂ n₃ m₁ m₂ m₃ (size m))
      (pos m₁ *ℤ q₁) (pos m₂ *ℤ q₂) (pos m₃ *ℤ q₃)
      (pos (2 * n₁ * m₁)) (pos (suc n₁) *ℤ pos (2 * n₂ * m₂)) (pos (suc n₁) *ℤ (pos (suc n₂) *ℤ pos (2 * n₃ * m₃)))
      (rw moment_1 at h₁) (rw moment_2 at h₂) (rw moment_3 at h₃) in
      let s = gathered (pos m₁) (pos m₂) (pos m₃) (pos (suc n₁)) (pos (suc n₂)) (pos (2 * n₁)) (pos (2 * n₂)) (pos (2 * n₃)) q₁ q₂ q₃ in
      let n = ap (λ x. pos (m₁ * (m₂ * m₃)) *ℤ (pos x +ℤ ((q₁ +ℤ q₂) +ℤ q₃))) (products n₁ n₂ n₃) in
      mul_le_cancel (m₁ * (m₂ * m₃)) (mul-pos (pow_pos (g.power 0)) (mul-pos (pow_pos (g.power 1)) (pow_pos (g.power 2)))) (le_trans span_1.4 (le_trans (le_eq t) (le_trans l (le_eq (s ∙ n)))))
