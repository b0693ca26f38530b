-- Halving and the least number read only the numbers of a row up to n, and of a table up to n1, n2, n3. Assumes nothing.
use Rattle.std.proofs.Common.{◌≡◌, ℕ, zero, suc, ◌≤◌, ℤ, ap₂, arith}
use Rattle.std.specs.Int.{int_min}
use Rattle.forms.specs.Halving.{Row, kept, deep}
use Rattle.forms.specs.Polynomial.{Table}
use Rattle.forms.specs.Tables.{halved, least, least_of}
use Rattle.forms.specs.WorkLemmas.{deep_reads}

-- two tables with the same numbers up to n1, n2, n3
abbrev pub Alike : ℕ → ℕ → ℕ → Table → Table → Type 0
Alike n1 n2 n3 S T = (i j k : ℕ) → i ≤ n1 → j ≤ n2 → k ≤ n3 → S i j k ≡ T i j k

pub halved_reads : (f : ℤ → ℤ → ℤ) (n1 n2 n3 d1 m1 d2 m2 d3 m3 : ℕ) (S T : Table) → Alike n1 n2 n3 S T
    → Alike n1 n2 n3 (halved f n1 n2 n3 d1 m1 d2 m2 d3 m3 S) (halved f n1 n2 n3 d1 m1 d2 m2 d3 m3 T)
unfolding halved
halved_reads f n1 n2 n3 d1 m1 d2 m2 d3 m3 S T h i j k a b c =
    deep_reads f n3 d3 m3 (λ z. deep (kept f n2) d2 m2 (λ y. deep (kept f n1) d1 m1 (λ x. S x y z) i) j)
    (λ z. deep (kept f n2) d2 m2 (λ y. deep (kept f n1) d1 m1 (λ x. T x y z) i) j)
    (λ z zl. deep_reads f n2 d2 m2 (λ y. deep (kept f n1) d1 m1 (λ x. S x y z) i) (λ y. deep (kept f n1) d1 m1 (λ x. T x y z) i)
    (λ y yl. deep_reads f n1 d1 m1 (λ x. S x y z) (λ x. T x y z) (λ x xl. h x y z xl yl zl) i a) j b) k c

-- ---- the enclosure

pub least_reads : (n : ℕ) (r s : Row) → ((k : ℕ) → k ≤ n → r k ≡ s k) → least n r ≡ least n s
unfolding least
least_reads zero r s h = h 0 (omega arith)
least_reads (suc n) r s h = ap₂ int_min (least_reads n r s (λ k l. h k (omega arith))) (h (suc n) (omega arith))

pub least_of_reads : (n1 n2 n3 : ℕ) (S T : Table) → Alike n1 n2 n3 S T → least_of n1 n2 n3 S ≡ least_of n1 n2 n3 T
unfolding least_of
least_of_reads n1 n2 n3 S T h =
    least_reads n1 (λ i. least n2 λ j. least n3 (S i j)) (λ i. least n2 λ j. least n3 (T i j)) λ i il.
    least_reads n2 (λ j. least n3 (S i j)) (λ j. least n3 (T i j)) λ j jl.
    least_reads n3 (S i j) (T i j) λ k kl. h i j k il jl kl
