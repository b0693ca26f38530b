-- Both roundings, from the quotient rounded down and whether something was cut off. Assumes nothing.
use Rattle.arith.proofs.Words.{same_is, next_fits, next_is}
use Rattle.arith.proofs.rounding.between.Goals as goal

pub returns-then-whole-clause-up : goal.returns-then-whole-clause-up
returns-then-whole-clause-up g c = same_is c.ranges.z (g.met.D.Divisor.positive c.args.by) c.divide-down.ensures.down c.divide-down.ensures.whole c.if-whole.true

pub overflow_add-result : goal.overflow_add-result
overflow_add-result g c = next_fits c.ranges.z (g.met.D.Divisor.positive c.args.by) c.divide-down.ensures.down c.divide-down.ensures.whole c.if-whole.false

pub returns-else-whole-clause-up : goal.returns-else-whole-clause-up
returns-else-whole-clause-up g c = next_is c.ranges.z (g.met.D.Divisor.positive c.args.by) c.divide-down.ensures.down c.divide-down.ensures.whole c.if-whole.false
