-- What is done to the rows of a table, and how large the numbers may be.
--     weighed_row n r    the numerators of the Bernstein coefficients of the row r of degree n: the sum of r i times the weight of i
--     summable           the largest size of two numbers that can be added up in 64 bits, whatever their signs
--     EachWithin b xs    each number of the array is at most b in size
--     Zeros xs           each number of the array is 0
--     grown n b          what weighing along an input of degree n makes of the bound b
--     Weighable n xs     there is a bound on the numbers with which sums of weighed numbers stay summable
--     Weighed n xs ys    how large numbers are after weighing: each bound grows
--     Halvable d n xs    the array is fit for halvings to the depth d
--     Halved n xs ys     how large numbers are after halvings: summable
--     Reads n g          g reads only the numbers of a row up to n
--     WorkRules done Fit Grown   what holds of all work on rows: done n is what it makes of a row of degree n, an array is fit for it
--                        along an input of degree n, and numbers have grown by it
-- Assumes nothing.
use Rattle.std.specs.Prelude.{◌≡◌, ℕ, suc, ◌-◌, ◌*◌, ◌^◌, ◌≤◌, List, ℤ, pos, ◌*ℤ◌}
use Rattle.arith.specs.Sums.{sum}
use Rattle.forms.specs.Arrays.{numbers}
use Rattle.forms.specs.Choose.{factorial, weight}
use Rattle.forms.specs.Halving.{Row}
use Rattle.forms.specs.Worked.{Within}

unfoldable pub weighed_row : ℕ → Row → Row
weighed_row n r j = sum (suc n) λ i. r i *ℤ pos (weight n j i)

abbrev pub summable : ℕ
summable = 2 ^ 62 - 1

abbrev pub EachWithin : ℕ → List ℤ → Type 0
EachWithin b xs = (k : ℕ) → Within b (numbers xs k)

abbrev pub Zeros : List ℤ → Type 0
Zeros xs = (k : ℕ) → numbers xs k ≡ pos 0

abbrev pub grown : ℕ → ℕ → ℕ
grown n b = suc n * (b * factorial n)

pub record Weighable (n : ℕ) (xs : List ℤ) : Type 0 where
  pub bound : ℕ
  pub each : EachWithin bound xs
  pub room : grown n bound ≤ summable

abbrev pub Weighed : ℕ → List ℤ → List ℤ → Type 0
Weighed n xs ys = (b : ℕ) → EachWithin b xs → EachWithin (grown n b) ys

abbrev pub Halvable : ℕ → ℕ → List ℤ → Type 0
Halvable d n xs = (d ≤ 10) × EachWithin summable xs

abbrev pub Halved : ℕ → List ℤ → List ℤ → Type 0
Halved n xs ys = EachWithin summable ys

abbrev pub Reads : ℕ → (Row → Row) → Type 0
Reads n g = (r s : Row) → ((k : ℕ) → k ≤ n → r k ≡ s k) → (k : ℕ) → k ≤ n → g r k ≡ g s k

pub record WorkRules (done : ℕ → Row → Row) (Fit : ℕ → List ℤ → Type 0) (Grown : ℕ → List ℤ → List ℤ → Type 0) : Type 0 where
  -- it reads no more than the row
  pub reads : (n : ℕ) → Reads n (done n)
  -- a row of a table is as fit as the table
  pub row_fit : (n : ℕ) (xs ys : List ℤ) → ((b : ℕ) → EachWithin b xs → EachWithin b ys) → Fit n xs → Fit n ys
  -- a table that no work was done on yet
  pub not_yet : (n : ℕ) (xs : List ℤ) → Fit n xs → Grown n xs xs
  -- one more row: old is read from the table xs, new is made of it and put into ys, which gives zs
  pub row_grown : (n : ℕ) (xs old new ys zs : List ℤ) → ((b : ℕ) → EachWithin b xs → EachWithin b old) → Grown n old new → Grown n xs ys
      → ((b : ℕ) → EachWithin b ys → EachWithin b new → EachWithin b zs) → Grown n xs zs
  -- a row of one number stays as it is
  pub lone : (r : Row) → done 0 r 0 ≡ r 0
