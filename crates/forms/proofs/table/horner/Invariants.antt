-- What is left of both rows is their front, and the numbers behind it are worked off. Assumes nothing.
use Rattle.std.proofs.Common.{◌≡◌, ◌-◌, ◌≤◌, length, take}
use Rattle.forms.specs.Worked.{low_of, high_of, worked}
use Rattle.forms.proofs.table.horner.Given as goal

abbrev pub invariant-loop-x : goal.invariant-loop-x
invariant-loop-x l =
    let lows = l.x-iterator.a.iter.rest.now in
    let highs = l.x-iterator.b.iter.rest.now in
    (length lows ≤ l.last) × (length highs ≡ length lows) × (lows ≡ take (length lows) l.lows) × (highs ≡ take (length highs) l.highs)
    × (l.low ≡ worked (low_of l.by) (l.last - length lows) l.lows (length lows))
    × (l.high ≡ worked (high_of l.by) (l.last - length lows) l.highs (length lows))
