-- The rows before t are added up in place, and their weighed sums are in `all`. Assumes nothing.
use Rattle.std.proofs.Common.{◌≡◌, ◌+◌, ◌*◌, length, get_or}
use Rattle.forms.specs.Totals.{total, row_sum, row_weighed}
use Rattle.forms.proofs.Upto.{Upto}
use Rattle.forms.proofs.sums.add_rows.Given as goal

abbrev pub invariant-loop-t : goal.invariant-loop-t
invariant-loop-t l =
    (length l.numbers ≡ 64)
    × Upto 0 (λ j. row_sum l.degree l.initial.numbers (j * (l.degree + 1))) (λ j. get_or l.initial.numbers j 0) l.t l.numbers
    × (l.all ≡ total l.t (λ j. row_weighed l.weights.each l.degree l.initial.numbers (j * (l.degree + 1))))
