-- Tables of whole numbers over three inputs, and sums over them.
--     Table              a whole number for each triple of places, such as the coefficient of each triple of exponents
--     weighed n1 n2 n3 a x y z   the sum of a i j k · x i · y j · z k over i ≤ n1, j ≤ n2, k ≤ n3
-- Assumes nothing.
use Rattle.std.specs.Prelude.{ℕ, suc, ℤ, ◌*ℤ◌}
use Rattle.arith.specs.Sums.{sum}
use Rattle.forms.specs.Halving.{Row}

abbrev pub Table : Type 0
Table = ℕ → ℕ → ℕ → ℤ

unfoldable pub weighed : ℕ → ℕ → ℕ → Table → Row → Row → Row → ℤ
weighed n1 n2 n3 a x y z =
    sum (suc n1) λ i. sum (suc n2) λ j. sum (suc n3) λ k. a i j k *ℤ (x i *ℤ (y j *ℤ z k))
