use Rattle.std.proofs.Common.{◌≡◌, ◌+◌, ◌-◌, ◌^◌, ◌<◌}
use Rattle.mapping.proofs.Windows.{ahead}
use Rattle.mapping.proofs.bits.BitReader.take.Given as goal

-- what is held and what is not yet fetched are together what was unread
abbrev pub invariant-loop-held : goal.invariant-loop-held
invariant-loop-held l =
    (l.held < l.width + 8)
    × (l.window < 2 ^ l.held)
    × (l.fn.self ≡ ahead l.held l.window l.rest)

abbrev pub decreases-loop-held : goal.decreases-loop-held
decreases-loop-held l = l.width - l.held
