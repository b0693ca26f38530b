-- One more mean at each turn. Assumes nothing.
use Rattle.std.proofs.Common.{◌≡◌, ◌+◌, ◌<◌, length, sym, ◌∙◌, subst, ap₂, arith, length-set, w64, SFits, to_z, of_z}
use Rattle.std.proofs.lemmas.Int.{to_z-of_z}
use Rattle.forms.specs.Arrays.{numbers}
use Rattle.forms.specs.Halving.{mean_down}
use Rattle.forms.specs.Worked.{Within}
use Rattle.forms.specs.Works.{summable}
use Rattle.forms.proofs.Filling.{place_more, places_behind}
use Rattle.forms.proofs.Bounded.{all_set, word}
use Rattle.forms.proofs.casteljau.round.Goals as goal

pub loop-k-preserved : goal.loop-k-preserved
loop-k-preserved c =
    let k = c.loop-k.k in
    let row = c.loop-k.row in
    let inv = c.loop-k.invariant in
    let len : k < length row = omega (arith, inv.0) in
    let fits : SFits w64 c.mean.result = record { sfits = c.mean.type_inv } in
    let read : to_z w64 (of_z w64 c.mean.result) ≡ c.mean.result = to_z-of_z w64 c.mean.result fits in
    let is : to_z w64 (of_z w64 c.mean.result) ≡ mean_down (numbers c.args.row k) (numbers c.args.row (k + 1)) =
    read ∙ c.mean.ensures.value
    ∙ ap₂ mean_down (word (numbers row k) (inv.3 k) ∙ inv.2 k (omega arith)) (word (numbers row (k + 1)) (inv.3 (k + 1)) ∙ inv.2 (k + 1) (omega arith)) in (
      simp length-set inv.0,
      place_more (λ j. mean_down (numbers c.args.row j) (numbers c.args.row (j + 1))) row k _ len is inv.1,
      places_behind row c.args.row k _ inv.2,
      all_set summable row k _ len inv.3 (subst (Within summable) (sym read) c.mean.ensures.size),
    )
