-- Places below k are new, the others as they were, and all are summable. Assumes nothing.
use Rattle.std.proofs.Common.{◌≡◌, ℕ, ◌+◌, ◌<◌, ◌≤◌, length}
use Rattle.forms.specs.Arrays.{numbers}
use Rattle.forms.specs.Halving.{mean_down}
use Rattle.forms.specs.Works.{summable, EachWithin}
use Rattle.forms.proofs.casteljau.round.Given as goal

abbrev pub invariant-loop-k : goal.invariant-loop-k
invariant-loop-k l =
    (length l.row ≡ 8)
    × ((k : ℕ) → k < l.k → numbers l.row k ≡ mean_down (numbers l.initial.row k) (numbers l.initial.row (k + 1)))
    × ((k : ℕ) → l.k ≤ k → numbers l.row k ≡ numbers l.initial.row k)
    × EachWithin summable l.row
