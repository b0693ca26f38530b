use Rattle.std.proofs.Common.{◌≡◌, ◌*◌, take}
use Rattle.mapping.specs.Bits.{bits_of}
use Rattle.mapping.specs.Records.{value_bits}
use Rattle.mapping.proofs.writer.put_values.Given as goal

abbrev pub invariant-loop-k : goal.invariant-loop-k
invariant-loop-k l = bits_of (take (4 * l.k) l.out) ≡ value_bits (take l.k l.values)
