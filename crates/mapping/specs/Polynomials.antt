-- Polynomials in three inputs, at rational points, kept whole: no fraction is needed.
--     share n i u D      u^i × D^(n − i): what an input of degree n at u/D gives to exponent i, times D^n
--     poly n₁ n₂ n₃ a .. the polynomial with coefficients a i j k, at u₁/D₁, u₂/D₂ and u₃/D₃, times D₁^n₁ × D₂^n₂ × D₃^n₃
-- Assumes nothing.
use Rattle.std.specs.Prelude.{ℕ, suc, ◌-◌, ◌*◌, ◌^◌, ℤ, pos, ◌*ℤ◌}
use Rattle.arith.specs.Sums.{sum}

abbrev pub share : ℕ → ℕ → ℕ → ℕ → ℕ
share n i u D = u ^ i * D ^ (n - i)

unfoldable pub poly : ℕ → ℕ → ℕ → (ℕ → ℕ → ℕ → ℤ) → ℕ → ℕ → ℕ → ℕ → ℕ → ℕ → ℤ
poly n₁ n₂ n₃ a u₁ D₁ u₂ D₂ u₃ D₃ =
    sum (suc n₁) (λ i. sum (suc n₂) (λ j. sum (suc n₃) (λ k.
    a i j k *ℤ pos (share n₁ i u₁ D₁ * (share n₂ j u₂ D₂ * share n₃ k u₃ D₃)))))
