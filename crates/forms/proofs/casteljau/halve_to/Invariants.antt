-- The row after all digits but the last t. Assumes nothing.
use Rattle.std.proofs.Common.{◌≡◌, ◌-◌, ◌/◌, ◌^◌, length}
use Rattle.forms.specs.Arrays.{numbers, Holds}
use Rattle.forms.specs.Halving.{mean_down, kept, deep}
use Rattle.forms.specs.Works.{summable, EachWithin}
use Rattle.forms.proofs.casteljau.halve_to.Given as goal

abbrev pub invariant-loop-t : goal.invariant-loop-t
invariant-loop-t g l =
    (length l.row ≡ 8)
    × Holds g.row.N l.row (deep (kept mean_down g.row.N) (l.part.depth - l.t) (l.part.place / 2 ^ l.t) (numbers l.initial.row))
    × EachWithin summable l.row
