use Rattle.forms.specs.Worked.{low_of, high_of}
use Rattle.forms.proofs.Working.{Partly}
use Rattle.forms.proofs.table.Table.work_off.Given as goal

abbrev pub invariant-loop-t : goal.invariant-loop-t
invariant-loop-t l =
    Partly (low_of l.by) l.degree l.initial.self.low l.t l.self.low
    × Partly (high_of l.by) l.degree l.initial.self.high l.t l.self.high
