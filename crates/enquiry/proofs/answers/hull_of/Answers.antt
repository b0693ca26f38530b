use Rattle.std.proofs.Common.{arith}
use Rattle.std.proofs.lemmas.Int.{to_z-of_z}
use Rattle.enquiry.proofs.answers.hull_of.Goals as goal

pub returns : goal.returns
returns c = record { value = grind (arith, to_z-of_z) }
