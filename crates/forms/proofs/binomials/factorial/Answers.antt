-- The rule of the table, as one test of its eight entries. Assumes nothing.
use Rattle.std.proofs.Common.{ℕ, Bool, eqb, List, [], ◌∷◌, get_or, eqb→eq}
use Rattle.forms.specs.Choose.{factorial}
use Rattle.forms.proofs.Computed.{at}
use Rattle.forms.proofs.binomials.factorial.Goals as goal

factorials : List ℕ
factorials = 1 ∷ 1 ∷ 2 ∷ 6 ∷ 24 ∷ 120 ∷ 720 ∷ 5040 ∷ []

right : ℕ → Bool
right n = eqb (get_or factorials n 0) (factorial n)

pub returns-clause-value : goal.returns-clause-value
unfolding factorials right factorial
returns-clause-value c = let n = c.args.n in eqb→eq (get_or factorials n 0) (factorial n) (at 8 right tt n c.requires)
