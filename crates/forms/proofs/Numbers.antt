-- The numerators of the Bernstein coefficients, input by input. Assumes nothing.
use Rattle.std.proofs.Common.{◌≡◌, ℕ, suc, ℤ, pos, ◌*ℤ◌, sym, ap, ◌∙◌}
use mathlib.Core.Path.{fun_ext}
use Rattle.arith.specs.Sums.{sum}
use Rattle.arith.proofs.Ring.{ring}
use Rattle.arith.proofs.Sums.{sum_swap, sum_scale_right}
use Rattle.forms.specs.Choose.{weight}
use Rattle.forms.specs.Halving.{Row}
use Rattle.forms.specs.Polynomial.{Table, weighed}
use Rattle.forms.specs.Tables.{numerator, along1, along2, along3}
use Rattle.forms.specs.Works.{weighed_row}

regroup : (a x y z : ℤ) → ((a *ℤ x) *ℤ y) *ℤ z ≡ a *ℤ (x *ℤ (y *ℤ z))
regroup a x y z = simp ring

-- sums of sums of sums, from the inside out
inside_out : (A B C : ℕ) (a : Table) (x y z : Row)
    → sum C (λ k. sum B (λ j. sum A (λ i. a i j k *ℤ x i) *ℤ y j) *ℤ z k) ≡ sum A (λ i. sum B (λ j. sum C (λ k. a i j k *ℤ (x i *ℤ (y j *ℤ z k)))))
inside_out A B C a x y z =
    let t : ℕ → ℕ → ℕ → ℤ = λ i j k. a i j k *ℤ (x i *ℤ (y j *ℤ z k)) in
    ap (sum C) (fun_ext λ k.
    sym (sum_scale_right B (z k) (λ j. sum A (λ i. a i j k *ℤ x i) *ℤ y j))
    ∙ ap (sum B) (fun_ext λ j.
    ap (λ s. s *ℤ z k) (sym (sum_scale_right A (y j) (λ i. a i j k *ℤ x i)))
    ∙ sym (sum_scale_right A (z k) (λ i. (a i j k *ℤ x i) *ℤ y j))
    ∙ ap (sum A) (fun_ext λ i. regroup (a i j k) (x i) (y j) (z k)))
    ∙ sum_swap B A (λ j i. t i j k))
    ∙ sum_swap C A (λ k i. sum B (λ j. t i j k))
    ∙ ap (sum A) (fun_ext λ i. sum_swap C B (λ k j. t i j k))

-- weighing along each input gives the numerators
pub weighed_along : (n1 n2 n3 : ℕ) (a : Table) (j1 j2 j3 : ℕ)
    → along3 (weighed_row n3) (along2 (weighed_row n2) (along1 (weighed_row n1) a)) j1 j2 j3 ≡ numerator n1 n2 n3 a j1 j2 j3
unfolding weighed_row numerator weighed
weighed_along n1 n2 n3 a j1 j2 j3 =
    inside_out (suc n1) (suc n2) (suc n3) a (λ i. pos (weight n1 j1 i)) (λ i. pos (weight n2 j2 i)) (λ i. pos (weight n3 j3 i))
