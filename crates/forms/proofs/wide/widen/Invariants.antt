-- The coefficients before k, and zeros. Assumes nothing.
use Rattle.std.proofs.Common.{◌≡◌, length, pos}
use Rattle.forms.specs.Arrays.{numbers}
use Rattle.forms.proofs.Upto.{Upto}
use Rattle.forms.proofs.wide.widen.Given as goal

abbrev pub invariant-loop-k : goal.invariant-loop-k
invariant-loop-k l = (length l.table ≡ 64) × Upto (pos 0) (numbers l.m.coefficients) (λ j. pos 0) l.k l.table
