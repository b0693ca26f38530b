use Rattle.std.proofs.Common.{◌*◌}
use Rattle.gateway.specs.Enclosing.{shape_in, AnswersOver, Behind}
use Rattle.gateway.proofs.enclosed.fill.Given as goal

-- the answers of the cells so far, and nothing else
abbrev pub invariant-loop-k : goal.invariant-loop-k
invariant-loop-k g l =
    AnswersOver (g.F.Form.meaning l.form l.m) (shape_in l.cells) l.k l.ends
    × Behind (3 * l.k) l.initial.ends l.ends
