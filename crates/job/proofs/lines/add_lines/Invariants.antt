use Rattle.std.proofs.Common.{◌≡◌, ◌++◌, drop, vec_items}
use Rattle.std.specs.Slice.Iter.{iter_rest}
use Rattle.job.specs.Lines.{merged}
use Rattle.job.proofs.lines.add_lines.Given as goal

-- what was added, and what is left to add, is all
abbrev pub invariant-loop-step : goal.invariant-loop-step
invariant-loop-step l = vec_items l.lines ++ merged (drop l.step-index l.steps) (iter_rest l.replies) ≡ vec_items l.initial.lines ++ merged l.steps (iter_rest l.initial.replies)
