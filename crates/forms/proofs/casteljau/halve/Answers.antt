-- A halving, round after round. Assumes nothing.
use Rattle.std.proofs.Common.{◌≡◌, ◌+◌, ◌<◌, length, sym, refl, subst, arith, length-set, rules}
use Rattle.forms.specs.Arrays.{numbers}
use Rattle.forms.specs.Halving.{mean_down}
use Rattle.forms.specs.Worked.{Within}
use Rattle.forms.specs.Works.{summable}
use Rattle.forms.proofs.Loops.{upper_start, upper_more, upper_end, lower_start, lower_more}
use Rattle.forms.proofs.Bounded.{all_set, word}
use Rattle.forms.proofs.casteljau.halve.Goals as goal

pub loop-t-init : goal.loop-t-init
loop-t-init g c =
    let r = numbers c.args.row in
    (search rules, search rules, lower_start mean_down g.row.N r c.args.row (λ k l. refl), upper_start mean_down g.row.N r c.args.row (λ k l. refl), c.requires.size, c.requires.size)

pub loop-t-preserved : goal.loop-t-preserved
loop-t-preserved g c =
    let r = numbers c.args.row in
    let next = c.round-next.result in
    let first = word (numbers next 0) (c.round-next.ensures.size 0) in
    let upper = upper_more mean_down g.row.N r c.loop-t.t c.loop-t.upper next c.loop-t-test.true c.loop-t.invariant.3 c.round-next.ensures.new c.round-next.ensures.rest in
    let room : c.loop-t.t + 1 < length c.loop-t.lower = omega (arith, c.loop-t.invariant.0, c.loop-t-test.true, c.requires.degree) in (
      simp length-set c.loop-t.invariant.0,
      search rules,
      lower_more mean_down g.row.N r c.loop-t.t c.loop-t.lower next _ c.loop-t-test.true room c.loop-t.invariant.2 upper first,
      upper,
      all_set summable c.loop-t.lower (c.loop-t.t + 1) _ room c.loop-t.invariant.4 (subst (Within summable) (sym first) (c.round-next.ensures.size 0)),
      c.round-next.ensures.size,
    )

pub returns-else-digit-eq0-clause-value : goal.returns-else-digit-eq0-clause-value
returns-else-digit-eq0-clause-value g c =
    let all : c.loop-t.t ≡ g.row.N = omega (arith, c.loop-t-test.false, c.loop-t.auto.t-end) in
    upper_end mean_down g.row.N (numbers c.args.row) c.args.digit c.loop-t.t c.loop-t.upper all c.if-digit-eq0.false c.loop-t.invariant.3
