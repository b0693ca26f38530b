-- After t rounds: the lower half up to place t, and the row of round t in place, all summable. Assumes nothing.
use Rattle.std.proofs.Common.{◌≡◌, length}
use Rattle.forms.specs.Arrays.{numbers, Holds}
use Rattle.forms.specs.Halving.{mean_down, kept}
use Rattle.forms.specs.Works.{summable, EachWithin}
use Rattle.forms.proofs.Loops.{partly}
use Rattle.forms.proofs.casteljau.halve.Given as goal

abbrev pub invariant-loop-t : goal.invariant-loop-t
invariant-loop-t g l =
    (length l.lower ≡ 8)
    × (length l.upper ≡ 8)
    × Holds l.t l.lower (kept mean_down g.row.N 0 (numbers l.initial.lower))
    × Holds g.row.N l.upper (partly mean_down g.row.N l.t (numbers l.initial.lower))
    × EachWithin summable l.lower
    × EachWithin summable l.upper
