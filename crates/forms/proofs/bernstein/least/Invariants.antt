-- The least of the first number and of those that the loop has passed. Assumes nothing.
use Rattle.std.proofs.Common.{◌≡◌, ◌∷◌}
use Rattle.forms.specs.Arrays.{numbers}
use Rattle.forms.specs.Tables.{least}
use Rattle.forms.proofs.bernstein.least.Given as goal

abbrev pub invariant-loop-x : goal.invariant-loop-x
invariant-loop-x l = l.end ≡ least l.x-index (numbers (l.initial.end ∷ l.x-items))
