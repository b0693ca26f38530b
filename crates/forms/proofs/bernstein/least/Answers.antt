-- The least number, one more at each turn. Assumes nothing.
use Rattle.std.proofs.Common.{◌≡◌, ◌-◌, ◌∷◌, length, take, drop, ◌∙◌, arith, w64, SFits, to_z, of_z, rules}
use Rattle.std.proofs.lemmas.Int.{to_z-of_z}
use Rattle.forms.specs.Arrays.{numbers}
use Rattle.forms.proofs.Outermost.{least_one, item_more, items_all}
use Rattle.forms.proofs.bernstein.least.Goals as goal

pub loop-x-init : goal.loop-x-init
loop-x-init c = least_one (numbers (to_z w64 (of_z w64 (numbers c.args.xs.now 0)) ∷ take (length c.args.xs.now - 1) (drop 1 c.args.xs.now)))

pub loop-x-preserved : goal.loop-x-preserved
loop-x-preserved c =
    let items = take (length c.args.xs.now - 1) (drop 1 c.args.xs.now) in
    let fits : SFits w64 (numbers items c.loop-x.x-index) = search rules in
    item_more c.loop-x.x-index c.min-end.result _ _ items fits (record { sfits = c.min-end.type_inv }) c.min-end.ensures.value c.loop-x.invariant

pub returns : goal.returns
returns c =
    let fits : SFits w64 (numbers c.args.xs.now 0) = search rules in
    let n = length c.args.xs.now in
    let all : c.loop-x.x-index ≡ length (take (n - 1) (drop 1 c.args.xs.now)) = omega arith in
    record { value = c.loop-x.invariant ∙ items_all n c.loop-x.x-index _ c.args.xs.now c.requires (omega arith) (to_z-of_z w64 _ fits) all }
