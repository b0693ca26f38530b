-- The coefficients in 64 bits, one more at each turn. Assumes nothing.
use Rattle.std.proofs.Common.{◌≤◌, pos, ◌∙◌, arith, length-set}
use Rattle.forms.specs.Arrays.{numbers}
use Rattle.forms.proofs.Inputs.{wide}
use Rattle.forms.proofs.Numerators.{used}
use Rattle.forms.proofs.Upto.{upto_more}
use Rattle.forms.proofs.wide.widen.Goals as goal

pub loop-k-preserved : goal.loop-k-preserved
loop-k-preserved c =
    let m = c.args.m.now in
    let k = c.loop-k.k in
    let n = c.terms.result in
    let inside : k ≤ 63 = omega (arith, c.loop-k-test.true, used m n c.terms.ensures.value, m.small) in (
      length-set c.loop-k.table k _ ∙ c.loop-k.invariant.0,
      upto_more (pos 0) (numbers m.coefficients) (λ j. pos 0) k c.loop-k.table _ (omega (arith, c.loop-k.invariant.0))
          (wide m n k c.from.result c.loop-k-test.true c.from.ensures) c.loop-k.invariant.1,
    )
