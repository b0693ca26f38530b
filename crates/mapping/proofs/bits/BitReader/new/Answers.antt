use Rattle.std.proofs.Common.{refl}
use Rattle.mapping.specs.Bits.{spell}
use Rattle.mapping.proofs.bits.BitReader.new.Goals as goal

pub returns : goal.returns
unfolding spell
returns c = record { value = refl }
