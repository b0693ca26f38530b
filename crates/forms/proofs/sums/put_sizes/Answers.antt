-- The sizes of the coefficients, one more at each turn. Assumes nothing.
use Rattle.std.proofs.Common.{◌≤◌, get_or, pos, nat_abs, ap, ◌∙◌, arith, length-set}
use Rattle.forms.proofs.Upto.{upto_more}
use Rattle.forms.proofs.Inputs.{narrow_read}
use Rattle.forms.proofs.Numerators.{used}
use Rattle.forms.proofs.sums.put_sizes.Goals as goal

pub loop-k-preserved : goal.loop-k-preserved
loop-k-preserved c =
    let m = c.args.m.now in
    let k = c.loop-k.k in
    let n = c.terms.result in
    let inside : k ≤ 63 = omega (arith, c.loop-k-test.true, used m n c.terms.ensures.value, m.small) in
    let size = c.from.ensures ∙ c.unsigned_abs.ensures.value ∙ ap nat_abs (narrow_read m n k c.loop-k-test.true) in (
      length-set c.loop-k.sizes k _ ∙ c.loop-k.invariant.0,
      upto_more 0 (λ j. nat_abs (get_or m.coefficients j (pos 0))) (λ j. 0) k c.loop-k.sizes _ (omega (arith, c.loop-k.invariant.0)) size c.loop-k.invariant.1,
    )
