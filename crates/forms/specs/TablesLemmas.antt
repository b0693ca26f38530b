-- The low table lies below the exact Bernstein coefficients on the cell, and close to them.
--     exact …            the exact coefficient at j1, j2, j3 on the cell, times unit …
--     unit …             n1! · n2! · n3! · 2^(n1·d1) · 2^(n2·d2) · 2^(n3·d3)
-- Assumes nothing.
use Rattle.std.specs.Prelude.{◌≡◌, ℕ, ◌+◌, ◌*◌, ◌^◌, ◌<◌, ◌≤◌, ℤ, pos, ◌+ℤ◌, ◌*ℤ◌, ◌≤ℤ◌, refl}
use Rattle.std.proofs.Common.{ap, ◌∙◌, mul-pos, arith}
use Rattle.std.proofs.Math.Path.{subst}
use Rattle.arith.specs.Rounding.{quot_down}
use Rattle.forms.specs.Choose.{factorial, weight}
use Rattle.forms.specs.Halving.{Row, mean_down, kept, deep}
use Rattle.forms.specs.Polynomial.{Table, weighed}
use Rattle.forms.specs.Tables.{numerator, first, halved, low_table, high_table, least_of, greatest_of, low, high, sizes, pairs, ones, bends1, bends2, bends3, loss, slack}
use Rattle.forms.specs.Extra.{quot_down_is}
use Rattle.forms.specs.ChooseLemmas.{factorial_pos}
use Rattle.forms.specs.Rows.{Linear}
use Rattle.forms.specs.HalvingLemmas.{deep_swap}
use Rattle.forms.specs.Rounded.{Near, near_deep}
use Rattle.forms.specs.Powers.{piece}
use Rattle.forms.specs.Weighed.{linear1, linear2, linear3}
use Rattle.arith.proofs.Ring.{lin, *ℤ-+ℤ, *ℤ-left-comm}

abbrev pub weights : ℕ → ℕ → Row
weights n j i = pos (weight n j i)

-- ---- one input

stage : (e W n d p : ℕ) (H : Row → ℤ) → Linear n H → (l : Row) → ((j : ℕ) → j ≤ n → Near e W (l j) (H (weights n j)))
    → (j : ℕ) → j ≤ n → Near (e + n * d) (2 ^ (n * d) * W) (deep (kept mean_down n) d p l j) (H (piece n d p j))
stage e W n d p H L l h j le =
    subst (Near (e + n * d) (2 ^ (n * d) * W) (deep (kept mean_down n) d p l j)) (deep_swap n H L n d p (weights n) j)
    (near_deep e W n d p l (λ j. H (weights n j)) h j le)

-- ---- the first rounding

rounded : (N : ℕ) (z : ℤ) → 0 < N → Near 2 N (quot_down z N) z
rounded N z N0 =
    let q : ℤ = quot_down z N in
    let lo : (pos N *ℤ q) ≤ℤ z = (quot_down_is z N N0).0 in
    let hi : (z +ℤ pos 1) ≤ℤ ((pos N *ℤ q) +ℤ pos N) = (quot_down_is z N N0).1 in
    let e : pos N *ℤ ((pos 2 *ℤ q) +ℤ pos 2) ≡ (pos 2 *ℤ (pos N *ℤ q)) +ℤ pos (N * 2) =
    *ℤ-+ℤ (pos N) (pos 2 *ℤ q) (pos 2) ∙ ap (λ m. m +ℤ pos (N * 2)) (*ℤ-left-comm (pos N) (pos 2) q) in
    record { below = lo; above = rw e (plain z (pos N *ℤ q) N hi) }
  where
    plain : (z m : ℤ) (N : ℕ) → (z +ℤ pos 1) ≤ℤ (m +ℤ pos N) → (pos 2 *ℤ z) ≤ℤ ((pos 2 *ℤ m) +ℤ pos (N * 2))
    plain z m N h = omega (arith, lin)

pub first_is : (q : ℤ → ℕ → ℤ) (n1 n2 n3 : ℕ) (a : Table) (j1 j2 j3 : ℕ)
    → q (weighed n1 n2 n3 a (weights n1 j1) (weights n2 j2) (weights n3 j3)) (factorial n1 * (factorial n2 * factorial n3)) ≡ first q n1 n2 n3 a j1 j2 j3
unfolding first numerator
first_is q n1 n2 n3 a j1 j2 j3 = refl

pub low_table_is : (n1 n2 n3 : ℕ) (a : Table) (d1 m1 d2 m2 d3 m3 j1 j2 j3 : ℕ)
    → deep (kept mean_down n3) d3 m3 (λ x3. deep (kept mean_down n2) d2 m2 (λ x2. deep (kept mean_down n1) d1 m1 (λ x1. first quot_down n1 n2 n3 a x1 x2 x3) j1) j2) j3
    ≡ low_table n1 n2 n3 a d1 m1 d2 m2 d3 m3 j1 j2 j3
unfolding low_table halved
low_table_is n1 n2 n3 a d1 m1 d2 m2 d3 m3 j1 j2 j3 = refl

-- the definitions once more, for proofs that keep them shut
pub low_is : (n1 n2 n3 : ℕ) (a : Table) (d1 m1 d2 m2 d3 m3 : ℕ)
    → least_of n1 n2 n3 (low_table n1 n2 n3 a d1 m1 d2 m2 d3 m3) ≡ low n1 n2 n3 a d1 m1 d2 m2 d3 m3
unfolding low
low_is n1 n2 n3 a d1 m1 d2 m2 d3 m3 = refl

pub high_is : (n1 n2 n3 : ℕ) (a : Table) (d1 m1 d2 m2 d3 m3 : ℕ)
    → greatest_of n1 n2 n3 (high_table n1 n2 n3 a d1 m1 d2 m2 d3 m3) ≡ high n1 n2 n3 a d1 m1 d2 m2 d3 m3
unfolding high
high_is n1 n2 n3 a d1 m1 d2 m2 d3 m3 = refl

pub slack_sizes : (n1 n2 n3 : ℕ) (a : Table) (d1 d2 d3 : ℕ) → slack n1 n2 n3 a d1 d2 d3
    ≡ pos 1 +ℤ (loss n1 d1 (weighed n1 n2 n3 (sizes a) pairs ones ones) +ℤ (loss n2 d2 (weighed n1 n2 n3 (sizes a) ones pairs ones) +ℤ loss n3 d3 (weighed n1 n2 n3 (sizes a) ones ones pairs)))
unfolding slack bends1 bends2 bends3
slack_sizes n1 n2 n3 a d1 d2 d3 = refl

-- ---- three inputs

unfoldable pub unit : ℕ → ℕ → ℕ → ℕ → ℕ → ℕ → ℕ
unit n1 n2 n3 d1 d2 d3 = 2 ^ (n3 * d3) * (2 ^ (n2 * d2) * (2 ^ (n1 * d1) * (factorial n1 * (factorial n2 * factorial n3))))

abbrev pub exact : ℕ → ℕ → ℕ → Table → ℕ → ℕ → ℕ → ℕ → ℕ → ℕ → Table
exact n1 n2 n3 a d1 m1 d2 m2 d3 m3 j1 j2 j3 = weighed n1 n2 n3 a (piece n1 d1 m1 j1) (piece n2 d2 m2 j2) (piece n3 d3 m3 j3)

module _ (n1 n2 n3 : ℕ) (a : Table) (d1 m1 d2 m2 d3 m3 : ℕ) where
  first_near : (j1 j2 j3 : ℕ) → Near 2 (factorial n1 * (factorial n2 * factorial n3)) (first quot_down n1 n2 n3 a j1 j2 j3)
      (weighed n1 n2 n3 a (weights n1 j1) (weights n2 j2) (weights n3 j3))
  first_near j1 j2 j3 =
      let F : ℕ = factorial n1 * (factorial n2 * factorial n3) in
      let z : ℤ = weighed n1 n2 n3 a (weights n1 j1) (weights n2 j2) (weights n3 j3) in
      subst (λ l. Near 2 F l z) (first_is quot_down n1 n2 n3 a j1 j2 j3)
      (rounded F z (mul-pos (factorial_pos n1) (mul-pos (factorial_pos n2) (factorial_pos n3))))

  pub table_near : (j1 j2 j3 : ℕ) → j1 ≤ n1 → j2 ≤ n2 → j3 ≤ n3
      → Near (((2 + n1 * d1) + n2 * d2) + n3 * d3) (unit n1 n2 n3 d1 d2 d3) (low_table n1 n2 n3 a d1 m1 d2 m2 d3 m3 j1 j2 j3) (exact n1 n2 n3 a d1 m1 d2 m2 d3 m3 j1 j2 j3)
  unfolding unit
  table_near j1 j2 j3 h1 h2 h3 =
      let F : ℕ = factorial n1 * (factorial n2 * factorial n3) in
      let W1 : ℕ = 2 ^ (n1 * d1) * F in
      let W2 : ℕ = 2 ^ (n2 * d2) * W1 in
      let T1 : Table = λ i x2 x3. deep (kept mean_down n1) d1 m1 (λ x1. first quot_down n1 n2 n3 a x1 x2 x3) i in
      let T2 : Table = λ i j x3. deep (kept mean_down n2) d2 m2 (λ x2. T1 i x2 x3) j in
      let one : (x2 x3 : ℕ) → Near (2 + n1 * d1) W1 (T1 j1 x2 x3) (weighed n1 n2 n3 a (piece n1 d1 m1 j1) (weights n2 x2) (weights n3 x3)) =
      λ x2 x3. stage 2 F n1 d1 m1 (λ x. weighed n1 n2 n3 a x (weights n2 x2) (weights n3 x3)) (linear1 n1 n2 n3 a (weights n2 x2) (weights n3 x3))
      (λ x1. first quot_down n1 n2 n3 a x1 x2 x3) (λ x1 _. first_near x1 x2 x3) j1 h1 in
      let two : (x3 : ℕ) → Near ((2 + n1 * d1) + n2 * d2) W2 (T2 j1 j2 x3) (weighed n1 n2 n3 a (piece n1 d1 m1 j1) (piece n2 d2 m2 j2) (weights n3 x3)) =
      λ x3. stage (2 + n1 * d1) W1 n2 d2 m2 (λ y. weighed n1 n2 n3 a (piece n1 d1 m1 j1) y (weights n3 x3)) (linear2 n1 n2 n3 a (piece n1 d1 m1 j1) (weights n3 x3))
      (λ x2. T1 j1 x2 x3) (λ x2 _. one x2 x3) j2 h2 in
      subst (λ l. Near (((2 + n1 * d1) + n2 * d2) + n3 * d3) (2 ^ (n3 * d3) * W2) l (exact n1 n2 n3 a d1 m1 d2 m2 d3 m3 j1 j2 j3))
      (low_table_is n1 n2 n3 a d1 m1 d2 m2 d3 m3 j1 j2 j3)
      (stage ((2 + n1 * d1) + n2 * d2) W2 n3 d3 m3 (λ z. weighed n1 n2 n3 a (piece n1 d1 m1 j1) (piece n2 d2 m2 j2) z)
      (linear3 n1 n2 n3 a (piece n1 d1 m1 j1) (piece n2 d2 m2 j2)) (λ x3. T2 j1 j2 x3) (λ x3 _. two x3) j3 h3)
