-- The rows below start are worked on and in their new places, and no number has grown too large. Assumes nothing.
use Rattle.std.proofs.Common.{◌≡◌, ℕ, ◌+◌, ◌*◌, ◌<◌, ◌≤◌, length}
use Rattle.forms.specs.Arrays.{numbers}
use Rattle.forms.proofs.grid.turn.Given as goal

abbrev pub invariant-loop-start : goal.invariant-loop-start
invariant-loop-start g l =
    (length l.table ≡ 64)
    × ((s k : ℕ) → s < l.start → k ≤ g.row.N → numbers l.table (s * (g.row.N + 1) + k) ≡ g.W.Work.done l.work g.row.N (λ x. numbers l.before (x * l.rows + s)) k)
    × g.W.Work.growth l.work g.row.N l.before l.table
