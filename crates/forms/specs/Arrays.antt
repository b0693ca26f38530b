-- Arrays as rows and tables.
--     numbers xs         an array as a row; past its end stand zeros
--     grid ns xs         an array as a table, in row-major order over the degrees ns
--     Holds n xs r       at each place up to n the array has the number of the row r
--     Fills ns xs T      at each triple of places up to the degrees ns the array has the number of the table T
--     Turned n b g xs ys the first input, of degree n, becomes the last: xs is n + 1 blocks of b numbers each, ys is b rows of n + 1
--                        numbers each, and row s of ys is g of the numbers at s in the blocks of xs
-- Assumes nothing.
use Rattle.std.specs.Prelude.{◌≡◌, ℕ, ◌+◌, ◌*◌, ◌<◌, ◌≤◌, List, ℤ, pos, slice_index, slice_index_or}
use Rattle.mapping.specs.Terms.{flat}
use Rattle.forms.specs.Halving.{Row}
use Rattle.forms.specs.Polynomial.{Table}

abbrev pub numbers : List ℤ → Row
numbers xs k = slice_index_or xs k (pos 0)

abbrev pub grid : List ℕ → List ℤ → Table
grid ns xs i j k = numbers xs (flat ns i j k)

abbrev pub Holds : ℕ → List ℤ → Row → Type 0
Holds n xs r = (k : ℕ) → k ≤ n → numbers xs k ≡ r k

abbrev pub Fills : List ℕ → List ℤ → Table → Type 0
Fills ns xs T = (i j k : ℕ) → i ≤ slice_index ns 0 → j ≤ slice_index ns 1 → k ≤ slice_index ns 2 → grid ns xs i j k ≡ T i j k

abbrev pub Turned : ℕ → ℕ → (Row → Row) → List ℤ → List ℤ → Type 0
Turned n b g xs ys = (s k : ℕ) → s < b → k ≤ n → numbers ys (s * (n + 1) + k) ≡ g (λ x. numbers xs (x * b + s)) k
