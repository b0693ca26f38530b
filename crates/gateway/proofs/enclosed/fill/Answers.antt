use Rattle.std.proofs.Common.{◌*◌, sym, ◌∙◌, subst, arith}
use Rattle.mapping.specs.Cells.{Valid}
use Rattle.gateway.specs.Enclosing.{shape_in, Holds}
use Rattle.gateway.proofs.Listing.{one_more, behind_more}
use Rattle.gateway.proofs.enclosed.fill.Goals as goal

pub unreachable-requires : goal.unreachable-requires
unreachable-requires g c = c.in_default.ensures.value (subst Valid (sym c.from.ensures) (c.requires.valid c.loop-k.k c.loop-k-test.true))

pub loop-k-preserved : goal.loop-k-preserved
loop-k-preserved g c =
    let k = c.loop-k.k in
    let held : Holds (g.F.Form.meaning c.args.form.now c.args.m.now c.in-Some.cell) c.put.new.ends (3 * k) = subst (λ a. Holds a c.put.new.ends (3 * k)) c.ask.ensures.value c.put.ensures.holds in (
      one_more (g.F.Form.meaning c.args.form.now c.args.m.now) (shape_in c.args.cells.now) c.loop-k.ends c.put.new.ends k c.in-Some.cell (c.in-Some.ensures.value ∙ c.from.ensures)
          c.loop-k.invariant.0 held c.put.ensures.before,
      behind_more k c.args.ends.now c.loop-k.ends c.put.new.ends c.loop-k.invariant.1 c.put.ensures.size c.put.ensures.behind,
    )

pub returns-clause-answers : goal.returns-clause-answers
returns-clause-answers g c = λ k cell below is. c.loop-k.invariant.0 k cell (omega (arith, below, c.loop-k-test.false)) is
