-- The row is written up to k, nothing before start is touched, and no bound is passed. Assumes nothing.
use Rattle.std.proofs.Common.{◌≡◌, ℕ, ◌+◌, ◌<◌, length}
use Rattle.forms.specs.Arrays.{numbers}
use Rattle.forms.specs.Works.{EachWithin}
use Rattle.forms.proofs.grid.put_row.Given as goal

abbrev pub invariant-loop-k : goal.invariant-loop-k
invariant-loop-k g l =
    (length l.table ≡ 64)
    × ((k : ℕ) → k < l.k → numbers l.table (l.start + k) ≡ numbers l.row k)
    × ((j : ℕ) → j < l.start → numbers l.table j ≡ numbers l.initial.table j)
    × ((b : ℕ) → EachWithin b l.initial.table → EachWithin b l.row → EachWithin b l.table)
