-- A table turned, one more row at each turn. Assumes nothing.
use Rattle.std.proofs.Common.{rules}
use Rattle.forms.proofs.Filling.{row_more}
use Rattle.forms.proofs.grid.turn.Goals as goal

pub loop-start-preserved : goal.loop-start-preserved
loop-start-preserved g c =
    let before = c.args.table.now in
    let of_work = g.W.Work.sound c.args.work in (
      search rules,
      row_more (g.W.Work.done c.args.work g.row.N) g.row.N c.args.rows c.loop-start.start
          before c.loop-start.table c.put_row.new.table c.read_row-row.result c.on_row-worked.result
          (of_work.reads g.row.N) c.loop-start.invariant.1 c.read_row-row.ensures.value c.on_row-worked.ensures.value c.put_row.ensures.new c.put_row.ensures.before,
      of_work.row_grown g.row.N before c.read_row-row.result c.on_row-worked.result c.loop-start.table c.put_row.new.table
          c.read_row-row.ensures.size c.on_row-worked.ensures.size c.loop-start.invariant.2 c.put_row.ensures.size,
    )
