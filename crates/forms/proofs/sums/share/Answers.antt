use Rattle.std.proofs.Common.{◌^◌, ℤ, pos, ◌≤ℤ◌, sym, ◌∙◌, subst, w64, SFits}
use Rattle.std.proofs.lemmas.Int.{to_z-of_z}
use Rattle.forms.proofs.Sizes.{share_is, share_small}
use Rattle.forms.proofs.sums.share.Goals as goal

pub returns : goal.returns
returns g c =
    let r = c.up_by.result in
    let fits : SFits w64 r = record { sfits = c.up_by.type_inv } in
    let read = to_z-of_z w64 r fits in
    let m = g.D.Divisor.number c.args.by in
    let small = share_small c.args.sum m r c.requires c.up_by.ensures.value in
    record {
      value = read ∙ share_is c.args.sum m r c.requires c.up_by.ensures.value;
      least = subst (λ (x : ℤ). pos 0 ≤ℤ x) (sym read) small.0;
      most = subst (λ (x : ℤ). x ≤ℤ pos (2 ^ 43)) (sym read) small.1;
    }
