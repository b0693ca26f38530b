-- Coefficients by their flat place: sums over all of them, and the exponents at a place.
--     exponent ns v t    the exponent of input v, counted from 0, at the flat place t
-- Assumes nothing.
use Rattle.std.proofs.Common.{◌≡◌, ℕ, zero, suc, ◌+◌, ◌*◌, ◌/◌, ◌%◌, ◌<◌, ◌≤◌, List, get_or, ℤ, ◌*ℤ◌, sym, ap, ◌∙◌, mod-lt, mul_assoc, add-one, arith}
use Rattle.std.proofs.lemmas.Nat.{div_below}
use Rattle.arith.specs.Sums.{sum}
use Rattle.arith.proofs.Sums.{sum_ext}
use Rattle.mapping.specs.Terms.{terms, flat, exponents}
use Rattle.mapping.proofs.Exponents.{flat_exponents}
use Rattle.forms.specs.Arrays.{numbers, grid}
use Rattle.forms.specs.Halving.{Row}
use Rattle.forms.specs.Polynomial.{Table, weighed}
use Rattle.forms.proofs.Filling.{pair_below}
use Rattle.forms.proofs.Flat.{weighed_flat}

abbrev pub exponent : List ℕ → ℕ → ℕ → ℕ
exponent ns v t = get_or (exponents ns t) v 0

-- ---- sums

by_place : (n1 n2 n3 A B C : ℕ) (a : Table) (x y z : Row) → A ≡ suc n1 → B ≡ suc n2 → C ≡ suc n3
    → sum (A * (B * C)) (λ t. a (t / C / B) (t / C % B) (t % C) *ℤ (x (t / C / B) *ℤ (y (t / C % B) *ℤ z (t % C)))) ≡ weighed n1 n2 n3 a x y z
by_place n1 n2 n3 A B C a x y z eA eB eC =
    rw (eA, eB, eC, ← mul_assoc (suc n1) (suc n2) (suc n3)) (weighed_flat n1 n2 n3 a x y z)

-- h is what the sum takes of each coefficient: itself, or its size
pub weighed_places : (h : ℤ → ℤ) (ns : List ℕ) (xs : List ℤ) (x y z : Row)
    → sum (terms ns) (λ t. h (numbers xs t) *ℤ (x (exponent ns 0 t) *ℤ (y (exponent ns 1 t) *ℤ z (exponent ns 2 t))))
    ≡ weighed (get_or ns 0 0) (get_or ns 1 0) (get_or ns 2 0) (λ i j k. h (grid ns xs i j k)) x y z
weighed_places h ns xs x y z =
    sum_ext (terms ns)
    (λ t. h (numbers xs t) *ℤ (x (exponent ns 0 t) *ℤ (y (exponent ns 1 t) *ℤ z (exponent ns 2 t))))
    (λ t. h (grid ns xs (exponent ns 0 t) (exponent ns 1 t) (exponent ns 2 t)) *ℤ (x (exponent ns 0 t) *ℤ (y (exponent ns 1 t) *ℤ z (exponent ns 2 t))))
    (λ t l. ap (λ s. h (numbers xs s) *ℤ (x (exponent ns 0 t) *ℤ (y (exponent ns 1 t) *ℤ z (exponent ns 2 t)))) (sym (flat_exponents ns t)))
    ∙ by_place (get_or ns 0 0) (get_or ns 1 0) (get_or ns 2 0) (get_or ns 0 0 + 1) (get_or ns 1 0 + 1) (get_or ns 2 0 + 1) (λ i j k. h (grid ns xs i j k)) x y z
    (add-one (get_or ns 0 0)) (add-one (get_or ns 1 0)) (add-one (get_or ns 2 0))

-- ---- exponents

module _ (ns : List ℕ) (t : ℕ) (l : t < terms ns) where
  pub exponent_first : exponent ns 0 t ≤ get_or ns 0 0
  exponent_first =
      let B : ℕ = get_or ns 1 0 + 1 in
      let C : ℕ = get_or ns 2 0 + 1 in
      let e : t < (get_or ns 0 0 + 1) * B * C = rw (mul_assoc (get_or ns 0 0 + 1) B C) l in
      let a : t / C < (get_or ns 0 0 + 1) * B = div_below t C ((get_or ns 0 0 + 1) * B) (omega arith) e in
      let b : t / C / B < get_or ns 0 0 + 1 = div_below (t / C) B (get_or ns 0 0 + 1) (omega arith) a in
      omega arith

  pub exponent_second : exponent ns 1 t ≤ get_or ns 1 0
  exponent_second =
      let B : ℕ = get_or ns 1 0 + 1 in
      let B0 : 0 < B = omega arith in
      omega (arith, mod-lt (t / (get_or ns 2 0 + 1)) B0)

  pub exponent_third : exponent ns 2 t ≤ get_or ns 2 0
  exponent_third =
      let C : ℕ = get_or ns 2 0 + 1 in
      let C0 : 0 < C = omega arith in
      omega (arith, mod-lt t C0)

module _ (ns : List ℕ) (i j k : ℕ) (il : i ≤ get_or ns 0 0) (jl : j ≤ get_or ns 1 0) (kl : k ≤ get_or ns 2 0) where
  pub flat_below : flat ns i j k < terms ns
  flat_below =
      let a : i * (get_or ns 1 0 + 1) + j < (get_or ns 0 0 + 1) * (get_or ns 1 0 + 1) = pair_below (get_or ns 0 0) (get_or ns 1 0) i j il jl in
      rw (← mul_assoc (get_or ns 0 0 + 1) (get_or ns 1 0 + 1) (get_or ns 2 0 + 1)) (row_below (i * (get_or ns 1 0 + 1) + j) ((get_or ns 0 0 + 1) * (get_or ns 1 0 + 1)) a)
    where
      row_below : (s m : ℕ) → s < m → s * (get_or ns 2 0 + 1) + k < m * (get_or ns 2 0 + 1)
      row_below s zero h = absurd (omega arith)
      row_below s (suc m) h = rw (← add-one m) (pair_below m (get_or ns 2 0) s k (omega arith) kl)
