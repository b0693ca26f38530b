use Rattle.std.proofs.Common.{refl}
use Rattle.mapping.proofs.RoundTrip.{record_accepted, one_mapping}
use Rattle.mapping.proofs.record.read.Goals as goal

pub returns-in_err-place-clause-back : goal.returns-in_err-place-clause-back
returns-in_err-place-clause-back c = λ m e. absurd (cc (record_accepted m c.args.bytes.now e, c.in_err-place.ensures.value))

pub returns-clause-back : goal.returns-clause-back
returns-clause-back c = λ m e. (refl, one_mapping _ m c.args.bytes.now c.in_ok-place.ensures.value.1 e)
