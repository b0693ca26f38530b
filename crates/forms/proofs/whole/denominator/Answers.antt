-- A product of factorials is not 0. Assumes nothing.
use Rattle.std.proofs.Common.{◌<◌, get_or, mul-pos, arith}
use Rattle.forms.specs.ChooseLemmas.{factorial_pos}
use Rattle.forms.proofs.whole.denominator.Goals as goal

pub unreachable-requires : goal.unreachable-requires
unreachable-requires c =
    let ns = c.degrees.result in
    let one : 0 < c.from.result = omega (arith, c.from.ensures, c.factorial.ensures.value, factorial_pos (get_or ns 0 0)) in
    let two : 0 < c.from-2.result = omega (arith, c.from-2.ensures, c.factorial-2.ensures.value, factorial_pos (get_or ns 1 0)) in
    let three : 0 < c.from-3.result = omega (arith, c.from-3.ensures, c.factorial-3.ensures.value, factorial_pos (get_or ns 2 0)) in
    omega (arith, c.in_default.ensures, mul-pos one (mul-pos two three))
