-- The sums of the numbers so far. Assumes nothing.
use Rattle.std.proofs.Common.{◌≡◌, ◌*◌, length, get_or}
use Rattle.forms.specs.Totals.{total}
use Rattle.forms.proofs.sums.add_row.Given as goal

abbrev pub invariant-loop-x : goal.invariant-loop-x
invariant-loop-x l =
    (l.sum ≡ total (length l.yielded) (λ i. get_or l.row i 0))
    × (l.weighed ≡ total (length l.yielded) (λ i. get_or l.weights.each i 0 * get_or l.row i 0))
