use Rattle.std.proofs.Common.{◌≡◌, ◌+◌, ◌*◌, ◌^◌, ◌<◌, ◌++◌, length, take}
use lib.Signed.{mag}
use Rattle.std.specs.List.{All}
use Rattle.mapping.specs.Records.{value_bits}
use Rattle.mapping.proofs.record.coefficients.Given as goal

abbrev pub invariant-loop-value : goal.invariant-loop-value
invariant-loop-value l =
    (l.initial.bits ≡ value_bits (take l.value-index l.value-items) ++ l.bits)
    × (length l.initial.bits ≡ 32 * l.value-index + length l.bits)
    × All (λ x. mag x < 2 ^ 31) l.value-items
