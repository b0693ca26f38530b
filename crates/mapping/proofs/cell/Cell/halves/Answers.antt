use Rattle.std.proofs.Common.{◌⊎◌, sym, subst₂, arith}
use Rattle.mapping.specs.Points.{In}
use Rattle.mapping.proofs.Halving.{valid_cell, half_covers}
use Rattle.mapping.proofs.cell.Cell.halves.Goals as goal

pub returns-clause-holds : goal.returns-clause-holds
returns-clause-holds c p h =
    let self = c.args.self.now in
    let found = c.in_ok-get.ensures.lookup in
    let inside = half_covers self.shape c.in_ok-v.v p (valid_cell self) (omega arith) h in
    subst₂ (λ s t. In p s ⊎ In p t) (sym c.half.ensures.value) (sym c.half-2.ensures.value) inside
