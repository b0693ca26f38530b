-- The quotient rounded down, by the sign of the number, and whether something is left over. Assumes nothing.
use Rattle.arith.proofs.Words.{divided, turned, whole_turned}
use Rattle.arith.proofs.rounding.NonZeroU64Divisor.divide.Goals as goal

pub returns-then-z-lt0 : goal.returns-then-z-lt0
returns-then-z-lt0 c =
    record {
      down = turned c.args.z c.div.result c.args.self.value c.ranges.z c.if-z-lt0.true c.div.ensures;
      whole = whole_turned c.args.z c.rem.result c.get.result c.args.self.value c.ranges.z c.if-z-lt0.true c.args.self.ok c.get.ensures.value c.rem.ensures;
    }

pub returns-else-z-lt0-clause-down : goal.returns-else-z-lt0-clause-down
returns-else-z-lt0-clause-down c = divided c.args.z c.div-else-z-lt0.result c.args.self.value c.ranges.z c.if-z-lt0.false c.div-else-z-lt0.ensures
