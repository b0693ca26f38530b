use Rattle.std.proofs.Common.{◌≡◌, ◌++◌, drop, string_bytes}
use Rattle.job.specs.Printed.{printed}
use Rattle.job.proofs.text.text_of.Given as goal

-- what is written and what is left to write make up the whole
abbrev pub invariant-loop-line : goal.invariant-loop-line
invariant-loop-line l = string_bytes l.text ++ printed (drop l.line-index l.lines) ≡ printed l.lines
