-- The sum of the numbers before i, each times its weight. Assumes nothing.
use Rattle.std.proofs.Common.{◌≡◌, pos, ◌*ℤ◌}
use Rattle.arith.specs.Sums.{sum}
use Rattle.forms.specs.Arrays.{numbers}
use Rattle.forms.specs.Choose.{weight}
use Rattle.forms.proofs.weighing.numerator.Given as goal

abbrev pub invariant-loop-i : goal.invariant-loop-i
invariant-loop-i g l = l.sum ≡ sum l.i (λ i. numbers l.row i *ℤ pos (weight g.row.N l.j i))
