-- Sums as a loop over the coefficients adds them up in 64 bits. Assumes nothing.
use Rattle.std.proofs.Common.{◌≡◌, ℕ, ◌+◌, ◌<◌, ◌≤◌, length, take, ℤ, pos, ◌+ℤ◌, sym, ap, ◌∙◌, subst, ap₂, add-one, arith, length-take, get_or-take, w64, SFits, to_z, of_z}
use Rattle.std.proofs.lemmas.Int.{to_z-of_z}
use Rattle.arith.specs.Sums.{sum}
use Rattle.arith.proofs.Sums.{sum_last}
use Rattle.mapping.specs.Terms.{terms}
use Rattle.mapping.specs.declared.mapping.Mapping.{Mapping}
use Rattle.mapping.specs.Values.{degree}
use Rattle.forms.specs.Arrays.{numbers}
use Rattle.forms.proofs.Places.{exponent, exponent_first, exponent_second, exponent_third}
use Rattle.forms.specs.BernsteinSound.{three_cases}

pub exponents_within : (m : Mapping) (t : ℕ) → t < terms m.degrees → (v : ℕ) → v < 3 → exponent m.degrees v t ≤ degree m v
exponents_within m t l =
    three_cases (λ v. exponent m.degrees v t ≤ degree m v)
    (exponent_first m.degrees t l) (exponent_second m.degrees t l) (exponent_third m.degrees t l)

-- one more term of a sum in 64 bits
module _ (f : ℕ → ℤ) (t : ℕ) (s p : ℤ) (e : s ≡ sum t f) (g : p ≡ f t) (here : SFits w64 (f t)) (next : SFits w64 (sum (t + 1) f)) where
  step : s +ℤ to_z w64 (of_z w64 p) ≡ sum (t + 1) f
  step =
      ap₂ (λ x y. x +ℤ to_z w64 (of_z w64 y)) e g ∙ ap (λ y. sum t f +ℤ y) (to_z-of_z w64 (f t) here) ∙ sym (sum_last t f) ∙ ap (λ k. sum k f) (sym (add-one t))

  pub step_fits : SFits w64 (s +ℤ to_z w64 (of_z w64 p))
  step_fits = subst (SFits w64) (sym step) next

  pub step_is : to_z w64 (of_z w64 (s +ℤ to_z w64 (of_z w64 p))) ≡ sum (t + 1) f
  step_is = ap (λ z. to_z w64 (of_z w64 z)) step ∙ to_z-of_z w64 (sum (t + 1) f) next

-- the used part of the coefficients
pub used : (m : Mapping) (n : ℕ) → n ≡ terms m.degrees → length (take n m.coefficients) ≡ terms m.degrees
used m n e = length-take n m.coefficients ∙ omega (arith, m.small, m.table)

pub used_at : (m : Mapping) (n t : ℕ) → t < length (take n m.coefficients) → numbers (take n m.coefficients) t ≡ numbers m.coefficients t
used_at m n t l = get_or-take n m.coefficients t (pos 0) (omega (arith, length-take n m.coefficients))
