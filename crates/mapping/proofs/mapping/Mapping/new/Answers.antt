use Rattle.mapping.proofs.Coefficients.{zeros_at, zeros_narrow}
use Rattle.mapping.proofs.mapping.Mapping.new.Goals as goal

pub invariant_of-result-clause-narrow : goal.invariant_of-result-clause-narrow
invariant_of-result-clause-narrow c = zeros_narrow 64

pub invariant_of-result-clause-unused : goal.invariant_of-result-clause-unused
invariant_of-result-clause-unused c k h = zeros_at 64 k
