-- The numbers before k are read, and no bound is passed. Assumes nothing.
use Rattle.std.proofs.Common.{◌≡◌, ℕ, ◌+◌, ◌*◌, ◌<◌, length}
use Rattle.forms.specs.Arrays.{numbers}
use Rattle.forms.specs.Works.{EachWithin}
use Rattle.forms.proofs.grid.read_row.Given as goal

abbrev pub invariant-loop-k : goal.invariant-loop-k
invariant-loop-k g l =
    (length l.row ≡ 8)
    × ((k : ℕ) → k < l.k → numbers l.row k ≡ numbers l.table (k * l.stride + l.start))
    × ((b : ℕ) → EachWithin b l.table → EachWithin b l.row)
