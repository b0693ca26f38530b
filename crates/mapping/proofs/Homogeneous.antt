-- The scaled value is homogeneous in each input: a numerator and a denominator times c give the value times c to the degree.
-- So a point with a denominator for each input is one with a common denominator. Assumes nothing.
use Rattle.std.proofs.Common.{◌≡◌, ℕ, zero, suc, ◌-◌, ◌*◌, ◌^◌, ◌<◌, ◌≤◌, cond, eqb, ℤ, pos, ◌*ℤ◌, sym, ap, ◌∙◌, arith, pow-add}
use Rattle.std.proofs.lemmas.Nat.{mul-pow}
use Rattle.arith.specs.Sums.{sum}
use Rattle.arith.proofs.Ring.{*ℤ-left-comm}
use Rattle.arith.proofs.Sums.{sum_ext, sum_scale}
use Rattle.mapping.specs.Polynomials.{share, poly}
use Rattle.mapping.specs.Values.{degree, coefficient, scaled}
use Rattle.mapping.specs.declared.mapping.Mapping.{Mapping}

-- what one input gives, stretched by c
pub share_stretched : (c n i u D : ℕ) → i ≤ n → share n i (c * u) (c * D) ≡ c ^ n * share n i u D
share_stretched c n i u D h =
    let whole : c ^ n ≡ c ^ i * c ^ (n - i) = ap (λ k. c ^ k) (omega arith) ∙ pow-add c i (n - i) in
    ap (λ x. x * (c * D) ^ (n - i)) (mul-pow c u i) ∙ ap (λ x. c ^ i * u ^ i * x) (mul-pow c D (n - i))
    ∙ regroup (c ^ i) (c ^ (n - i)) (u ^ i) (D ^ (n - i)) ∙ ap (λ x. x * (u ^ i * D ^ (n - i))) (sym whole)
  where
    regroup : (a b x y : ℕ) → a * x * (b * y) ≡ a * b * (x * y)
    regroup a b x y = omega arith

-- a sum of three sums, each term times c
scale_sums : (n₁ n₂ n₃ : ℕ) (c : ℤ) (f g : ℕ → ℕ → ℕ → ℤ)
    → ((i j k : ℕ) → i < suc n₁ → j < suc n₂ → k < suc n₃ → g i j k ≡ c *ℤ f i j k)
    → sum (suc n₁) (λ i. sum (suc n₂) (λ j. sum (suc n₃) (λ k. g i j k))) ≡ c *ℤ sum (suc n₁) (λ i. sum (suc n₂) (λ j. sum (suc n₃) (λ k. f i j k)))
scale_sums n₁ n₂ n₃ c f g e =
    sum_ext (suc n₁) (λ i. sum (suc n₂) (λ j. sum (suc n₃) (λ k. g i j k))) (λ i. c *ℤ sum (suc n₂) (λ j. sum (suc n₃) (λ k. f i j k))) (λ i hi.
    sum_ext (suc n₂) (λ j. sum (suc n₃) (λ k. g i j k)) (λ j. c *ℤ sum (suc n₃) (λ k. f i j k)) (λ j hj.
    sum_ext (suc n₃) (λ k. g i j k) (λ k. c *ℤ f i j k) (λ k hk. e i j k hi hj hk)
    ∙ sum_scale (suc n₃) c (λ k. f i j k))
    ∙ sum_scale (suc n₂) c (λ j. sum (suc n₃) (λ k. f i j k)))
    ∙ sum_scale (suc n₁) c (λ i. sum (suc n₂) (λ j. sum (suc n₃) (λ k. f i j k)))

-- the numbers of each input, with those of input v times c
abbrev pub stretched : ℕ → ℕ → (ℕ → ℕ) → ℕ → ℕ
stretched v c f w = cond (eqb w v) (c * f w) (f w)

-- a coefficient times a product of which one part is s times as large
moved : (a : ℤ) (s y x : ℕ) → y ≡ s * x → a *ℤ pos y ≡ pos s *ℤ (a *ℤ pos x)
moved a s y x e = ap (λ n. a *ℤ pos n) e ∙ *ℤ-left-comm a (pos s) (pos x)

module _ (m : Mapping) (c : ℕ) (u D : ℕ → ℕ) where
  part : ℕ → ℕ → ℕ
  part v i = share (degree m v) i (u v) (D v)

  parts : ℕ → ℕ → ℕ → ℕ
  unfolding part
  parts i j k = part 0 i * (part 1 j * part 2 k)

  terms : ℕ → ℕ → ℕ → ℤ
  unfolding parts
  terms i j k = coefficient m i j k *ℤ pos (parts i j k)

  larger : (v i : ℕ) → i < suc (degree m v) → share (degree m v) i (c * u v) (c * D v) ≡ c ^ degree m v * part v i
  unfolding part
  larger v i h = share_stretched c (degree m v) i (u v) (D v) (omega arith)

  pub homogeneous : (v : ℕ) → v < 3 → scaled m (stretched v c u) (stretched v c D) ≡ pos (c ^ degree m v) *ℤ scaled m u D
  unfolding scaled poly terms
  homogeneous zero h =
      scale_sums (degree m 0) (degree m 1) (degree m 2) (pos (c ^ degree m 0)) terms _ (λ i j k hi hj hk.
      moved (coefficient m i j k) (c ^ degree m 0) _ (parts i j k)
      (ap (λ x. x * (part 1 j * part 2 k)) (larger 0 i hi) ∙ out (c ^ degree m 0) (part 0 i) (part 1 j * part 2 k)))
    where
      out : (s x y : ℕ) → s * x * y ≡ s * (x * y)
      out s x y = omega arith
  homogeneous (suc zero) h =
      scale_sums (degree m 0) (degree m 1) (degree m 2) (pos (c ^ degree m 1)) terms _ (λ i j k hi hj hk.
      moved (coefficient m i j k) (c ^ degree m 1) _ (parts i j k)
      (ap (λ x. part 0 i * (x * part 2 k)) (larger 1 j hj) ∙ out (c ^ degree m 1) (part 0 i) (part 1 j) (part 2 k)))
    where
      out : (s x y z : ℕ) → x * (s * y * z) ≡ s * (x * (y * z))
      out s x y z = omega arith
  homogeneous (suc (suc zero)) h =
      scale_sums (degree m 0) (degree m 1) (degree m 2) (pos (c ^ degree m 2)) terms _ (λ i j k hi hj hk.
      moved (coefficient m i j k) (c ^ degree m 2) _ (parts i j k)
      (ap (λ x. part 0 i * (part 1 j * x)) (larger 2 k hk) ∙ out (c ^ degree m 2) (part 0 i) (part 1 j) (part 2 k)))
    where
      out : (s x y z : ℕ) → x * (y * (s * z)) ≡ s * (x * (y * z))
      out s x y z = omega arith
  homogeneous (suc (suc (suc v))) h = absurd (omega arith)
