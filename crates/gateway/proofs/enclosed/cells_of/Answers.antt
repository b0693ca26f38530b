use mathlib.Core.Bool.{false≢true}
use Rattle.std.proofs.Common.{sym, ◌∙◌, subst, arith, MatchOption}
use Rattle.gateway.specs.Enclosing.{Listed, Cut}
use Rattle.gateway.proofs.Chunks.{all_cells, each_cell, given_when}
use Rattle.gateway.proofs.enclosed.cells_of.Goals as goal

pub returns : goal.returns
returns c =
    let cs = c.args.list.now in
    let cut = c.as_chunks.ensures in
    let pieces = c.as_chunks.result.0 in
    record {
      value =
          subst (λ o. MatchOption o (Listed cs → ⊥) (λ cells. Cut cs cells.now)) (sym c.then_some.ensures)
          (given_when c.are_cells.result pieces (Listed cs → ⊥) (λ cells. Cut cs cells.now)
          (λ all. all_cells cs pieces.now cut.front cut.front_len (omega arith) (c.are_cells.ensures.value.0 all))
          (λ some ok. absurd (false≢true (sym some ∙ c.are_cells.ensures.value.1 (each_cell cs pieces.now cut.front cut.front_len ok)))));
    }
