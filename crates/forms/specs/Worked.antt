-- What the nested form's code keeps: factors in a list, and numbers of limited size.
--     no_factor           what stands for a factor past the end of a list: the number 0
--     factors fs          a list of factors, one for each input
--     Agrees f g v        the factor f has the numbers that g has at input v
--     low_of f            the low end's product by a factor
--     high_of f           the high end's
--     worked by n xs s    the n + 1 numbers of xs from place s on, by Horner's rule
--     Within b z          the number z is at most b in size
--     Small b n xs        so is each of the first n numbers of xs
--     SmallRow b n xs s   so is each of the n + 1 numbers of xs from place s on
-- Assumes nothing.
use Rattle.std.specs.Prelude.{◌≡◌, ℕ, ◌+◌, ◌<◌, ◌≤◌, List, ℤ, pos, neg_ℤ, ◌≤ℤ◌, slice_index_or}
use Rattle.std.proofs.Common.{lit≤}
use Rattle.arith.specs.Product.{low_times, high_times}
use Rattle.arith.specs.declared.factor.Factor.{Factor}
use Rattle.forms.specs.Nested.{horner, Factors}

abbrev pub no_factor : Factor
no_factor = record { low = 0; high = 0; depth = 0; ordered = lit≤ tt; within = lit≤ tt; shallow = lit≤ tt }

abbrev pub factors : List Factor → Factors
factors fs = record {
  from = λ v. (slice_index_or fs v no_factor).low;
  to = λ v. (slice_index_or fs v no_factor).high;
  power = λ v. (slice_index_or fs v no_factor).depth;
}

abbrev pub Agrees : Factor → Factors → ℕ → Type 0
Agrees f g v = (f.low ≡ g.from v) × (f.high ≡ g.to v) × (f.depth ≡ g.power v)

abbrev pub low_of : Factor → ℤ → ℤ
low_of f p = low_times p f.low f.high f.depth

abbrev pub high_of : Factor → ℤ → ℤ
high_of f r = high_times r f.low f.high f.depth

unfoldable pub worked : (ℤ → ℤ) → ℕ → List ℤ → ℕ → ℤ
worked by n xs s = horner by n (λ k. slice_index_or xs (s + k) (pos 0))

abbrev pub Within : ℕ → ℤ → Type 0
Within b z = (neg_ℤ (pos b) ≤ℤ z) × (z ≤ℤ pos b)

abbrev pub Small : ℕ → ℕ → List ℤ → Type 0
Small b n xs = (k : ℕ) → k < n → Within b (slice_index_or xs k (pos 0))

abbrev pub SmallRow : ℕ → ℕ → List ℤ → ℕ → Type 0
SmallRow b n xs s = (k : ℕ) → s ≤ k → k ≤ s + n → Within b (slice_index_or xs k (pos 0))
