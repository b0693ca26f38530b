use Rattle.std.proofs.Common.{◌≡◌, MatchOption, Decides, sym, subst}
use Rattle.mapping.specs.Cells.{Valid}
use Rattle.mapping.specs.Packed.{unpacked}
use Rattle.gateway.proofs.Chunks.{made}
use Rattle.gateway.proofs.enclosed.is_cell.Goals as goal

pub returns : goal.returns
returns c =
    let bytes = c.args.bytes.now in
    let made_here = subst (λ s. MatchOption c.new.result (Valid s → ⊥) (λ cell. cell.shape ≡ s)) c.from.ensures c.new.ensures.value in
    record { value = subst (λ b. Decides b (Valid (unpacked bytes))) (sym c.is_some.ensures) (made c.new.result (unpacked bytes) made_here) }
