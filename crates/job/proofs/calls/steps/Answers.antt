use Rattle.std.proofs.Common.{rules}
use Rattle.std.proofs.lemmas.Iterator.{items_from_collect, YieldsList-from_map}
use Rattle.std.proofs.lemmas.List.{map-id}
use Rattle.job.specs.Calls.{steps_of}
use Rattle.job.proofs.Steps.{YieldsList-from_threes}
use Rattle.job.proofs.calls.steps.Goals as goal

pub returns : goal.returns
returns c =
    let bs = c.args.bytes.now in
    record { value = rw (← map-id (steps_of bs)) (items_from_collect _ c.collect.ensures.ran (YieldsList-from_map _ (λ r. r) (YieldsList-from_threes bs (cc) (cc)) c.map.ensures.closure (λ x r q k. search rules))) }
