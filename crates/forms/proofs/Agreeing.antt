-- Factors that agree at each input give the same ends. Assumes nothing.
use Rattle.std.proofs.Common.{◌≡◌, ℕ, zero, suc, ◌<◌, [], ◌∷◌, ℤ, arith, lit<}
use Rattle.arith.specs.Product.{low_times, high_times}
use Rattle.arith.specs.declared.factor.Factor.{Factor}
use Rattle.mapping.specs.Values.{degree, coefficient}
use Rattle.mapping.specs.declared.mapping.Mapping.{Mapping}
use Rattle.forms.specs.Nested.{horner, Factors, nested_low, nested_high}
use Rattle.forms.specs.Worked.{factors, Agrees}

abbrev pub Alike : Factors → Factors → Type 0
Alike g h = (v : ℕ) → v < 3 → (g.from v ≡ h.from v) × (g.to v ≡ h.to v) × (g.power v ≡ h.power v)

module _ (m : Mapping) (g h : Factors) (alike : Alike g h) where
  abbrev at : ℕ → ℕ → ℕ → ℕ → ℕ → ℕ → ℕ → ℕ → ℕ → (ℤ → ℕ → ℕ → ℕ → ℤ) → ℤ
  at e₀ f₀ d₀ e₁ f₁ d₁ e₂ f₂ d₂ times =
      horner (λ p. times p e₀ f₀ d₀) (degree m 0) (λ i. horner (λ p. times p e₁ f₁ d₁) (degree m 1) (λ j. horner (λ p. times p e₂ f₂ d₂) (degree m 2) (λ k. coefficient m i j k)))

  same : (times : ℤ → ℕ → ℕ → ℕ → ℤ)
      → at (g.from 0) (g.to 0) (g.power 0) (g.from 1) (g.to 1) (g.power 1) (g.from 2) (g.to 2) (g.power 2) times
      ≡ at (h.from 0) (h.to 0) (h.power 0) (h.from 1) (h.to 1) (h.power 1) (h.from 2) (h.to 2) (h.power 2) times
  same times =
      let a = alike 0 (lit< tt) in
      let b = alike 1 (lit< tt) in
      let c = alike 2 (lit< tt) in
      λ i. at (a.0 i) (a.1 i) (a.2 i) (b.0 i) (b.1 i) (b.2 i) (c.0 i) (c.1 i) (c.2 i) times

  pub alike_low : nested_low m g ≡ nested_low m h
  unfolding nested_low
  alike_low = same low_times

  pub alike_high : nested_high m g ≡ nested_high m h
  unfolding nested_high
  alike_high = same high_times

-- a list of three factors
module _ (m : Mapping) (g : Factors) (a b c : Factor) (first : Agrees a g 0) (second : Agrees b g 1) (third : Agrees c g 2) where
  alike : Alike (factors (a ∷ (b ∷ (c ∷ [])))) g
  alike zero h = first
  alike (suc zero) h = second
  alike (suc (suc zero)) h = third
  alike (suc (suc (suc v))) h = absurd (omega arith)

  pub three_low : nested_low m (factors (a ∷ (b ∷ (c ∷ [])))) ≡ nested_low m g
  three_low = alike_low m (factors (a ∷ (b ∷ (c ∷ [])))) g alike

  pub three_high : nested_high m (factors (a ∷ (b ∷ (c ∷ [])))) ≡ nested_high m g
  three_high = alike_high m (factors (a ∷ (b ∷ (c ∷ [])))) g alike
