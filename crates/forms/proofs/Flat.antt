-- Sums over all coefficients by one flat index t: the exponents are t / N3 / N2, t / N3 % N2 and t % N3, with N2 = n2 + 1 and N3 = n3 + 1.
-- Assumes nothing.
use Rattle.std.proofs.Common.{◌≡◌, ℕ, suc, ◌+◌, ◌*◌, ◌/◌, ◌%◌, ℤ, ◌*ℤ◌, ◌∙◌, ap₂}
use Rattle.arith.specs.Sums.{sum}
use Rattle.forms.specs.Halving.{Row}
use Rattle.forms.specs.Polynomial.{Table, weighed}
use Rattle.std.proofs.lemmas.Nat.{div-mul-add, mod-mul-add}
use Rattle.arith.proofs.Sums.{sum_ext, sum_split}

-- two indices
pub sum_flat : (m n : ℕ) (f : ℕ → ℕ → ℤ) → sum (m * n) (λ t. f (t / n) (t % n)) ≡ sum m (λ i. sum n (f i))
sum_flat m n f =
    sum_split m n (λ t. f (t / n) (t % n))
    ∙ sum_ext m (λ i. sum n (λ j. f ((i * n + j) / n) ((i * n + j) % n))) (λ i. sum n (f i)) (λ i _.
    sum_ext n (λ j. f ((i * n + j) / n) ((i * n + j) % n)) (f i) (λ j h. ap₂ f (div-mul-add i n j h) (mod-mul-add i n j h)))

-- three
pub weighed_flat : (n1 n2 n3 : ℕ) (a : Table) (x y z : Row)
    → sum (suc n1 * suc n2 * suc n3) (λ t. a (t / suc n3 / suc n2) (t / suc n3 % suc n2) (t % suc n3) *ℤ (x (t / suc n3 / suc n2) *ℤ (y (t / suc n3 % suc n2) *ℤ z (t % suc n3))))
    ≡ weighed n1 n2 n3 a x y z
unfolding weighed
weighed_flat n1 n2 n3 a x y z =
    sum_flat (suc n1 * suc n2) (suc n3) (λ s k. a (s / suc n2) (s % suc n2) k *ℤ (x (s / suc n2) *ℤ (y (s % suc n2) *ℤ z k)))
    ∙ sum_flat (suc n1) (suc n2) (λ i j. sum (suc n3) (λ k. a i j k *ℤ (x i *ℤ (y j *ℤ z k))))
