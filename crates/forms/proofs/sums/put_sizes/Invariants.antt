-- The sizes of the coefficients before k stand in the array, and zeros past them. Assumes nothing.
use Rattle.std.proofs.Common.{◌≡◌, length, get_or, pos, nat_abs}
use Rattle.forms.proofs.Upto.{Upto}
use Rattle.forms.proofs.sums.put_sizes.Given as goal

abbrev pub invariant-loop-k : goal.invariant-loop-k
invariant-loop-k l = (length l.sizes ≡ 64) × Upto 0 (λ j. nat_abs (get_or l.m.coefficients j (pos 0))) (λ j. 0) l.k l.sizes
