-- All digits, one halving after the other. Assumes nothing.
use Rattle.std.proofs.Common.{sym, refl, ap, rules}
use Rattle.forms.specs.Arrays.{numbers}
use Rattle.forms.specs.Halving.{mean_down, kept}
use Rattle.forms.proofs.Loops.{deep_none, digit_more}
use Rattle.forms.proofs.casteljau.halve_to.Goals as goal

pub loop-t-init : goal.loop-t-init
loop-t-init g c =
    let part = c.args.part in
    (search rules, λ k l. ap (λ s. s k) (sym (deep_none (kept mean_down g.row.N) part.depth part.place (numbers c.args.row))), c.requires.size)

pub loop-t-preserved : goal.loop-t-preserved
loop-t-preserved g c = (
  search rules,
  digit_more mean_down g.row.N (numbers c.args.row) c.args.part.depth c.args.part.place c.loop-t.t _ c.loop-t.row c.halve-half.result
      c.loop-t-test.true c.loop-t.auto.t refl c.loop-t.invariant.1 c.halve-half.ensures.value,
  c.halve-half.ensures.size,
)
