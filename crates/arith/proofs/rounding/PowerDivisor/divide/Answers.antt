-- The quotient by a power of two, from the shift and the count of zeros. Assumes nothing.
use Rattle.arith.proofs.Words.{shifted, whole_power}
use Rattle.arith.proofs.rounding.PowerDivisor.divide.Goals as goal

pub returns-then-z-eq0-clause-down : goal.returns-then-z-eq0-clause-down
returns-then-z-eq0-clause-down c = shifted c.args.z c.min.result c.args.self.0 c.ranges.z c.min.ensures

pub returns-else-z-eq0-clause-down : goal.returns-else-z-eq0-clause-down
returns-else-z-eq0-clause-down c = shifted c.args.z c.min.result c.args.self.0 c.ranges.z c.min.ensures

pub returns-else-z-eq0-clause-whole : goal.returns-else-z-eq0-clause-whole
returns-else-z-eq0-clause-whole c = whole_power c.args.z c.unsigned_abs.result c.args.self.0 c.ranges.z c.unsigned_abs.ensures.value c.if-z-eq0.false
