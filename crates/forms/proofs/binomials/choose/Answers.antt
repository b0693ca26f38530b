-- The rule of the table, as one test of its sixty-four entries. Assumes nothing.
use Rattle.std.proofs.Common.{ℕ, Bool, eqb, List, [], ◌∷◌, get_or, eqb→eq}
use Rattle.forms.specs.Choose.{choose}
use Rattle.forms.proofs.Computed.{each, at}
use Rattle.forms.proofs.binomials.choose.Goals as goal

binomials : List (List ℕ)
binomials = (1 ∷ 0 ∷ 0 ∷ 0 ∷ 0 ∷ 0 ∷ 0 ∷ 0 ∷ []) ∷ (1 ∷ 1 ∷ 0 ∷ 0 ∷ 0 ∷ 0 ∷ 0 ∷ 0 ∷ []) ∷ (1 ∷ 2 ∷ 1 ∷ 0 ∷ 0 ∷ 0 ∷ 0 ∷ 0 ∷ []) ∷ (1 ∷ 3 ∷ 3 ∷ 1 ∷ 0 ∷ 0 ∷ 0 ∷ 0 ∷ []) ∷ (1 ∷ 4 ∷ 6 ∷ 4 ∷ 1 ∷ 0 ∷ 0 ∷ 0 ∷ []) ∷ (1 ∷ 5 ∷ 10 ∷ 10 ∷ 5 ∷ 1 ∷ 0 ∷ 0 ∷ []) ∷ (1 ∷ 6 ∷ 15 ∷ 20 ∷ 15 ∷ 6 ∷ 1 ∷ 0 ∷ []) ∷ (1 ∷ 7 ∷ 21 ∷ 35 ∷ 35 ∷ 21 ∷ 7 ∷ 1 ∷ []) ∷ []

entry : ℕ → ℕ → ℕ
entry n i = get_or (get_or binomials n []) i 0

right : ℕ → ℕ → Bool
right n i = eqb (entry n i) (choose n i)

pub returns-clause-value : goal.returns-clause-value
unfolding binomials entry right choose
returns-clause-value c =
    let n = c.args.n in
    let i = c.args.i in
    eqb→eq (entry n i) (choose n i) (at 8 (right n) (at 8 (λ n. each 8 (right n)) tt n c.requires.upper) i c.requires.lower)
