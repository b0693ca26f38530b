-- The numerators before j, within the bound that weighing lets grow. Assumes nothing.
use Rattle.std.proofs.Common.{◌≡◌, ℕ, ◌<◌, length}
use Rattle.forms.specs.Arrays.{numbers}
use Rattle.forms.specs.Works.{weighed_row, EachWithin, grown}
use Rattle.forms.proofs.weighing.weigh.Given as goal

abbrev pub invariant-loop-j : goal.invariant-loop-j
invariant-loop-j g l =
    (length l.sums ≡ 8)
    × ((k : ℕ) → k < l.j → numbers l.sums k ≡ weighed_row g.row.N (numbers l.row) k)
    × ((b : ℕ) → EachWithin b l.row → EachWithin (grown g.row.N b) l.sums)
