-- The mean, from the shift of a sum. Assumes nothing.
use Rattle.std.proofs.Common.{◌≡◌, ◌+ℤ◌, w64, SFits, to_z, of_z}
use lib.Signed.{shr_z}
use Rattle.std.proofs.lemmas.Int.{to_z-of_z}
use Rattle.forms.specs.Halving.{mean_down}
use Rattle.forms.proofs.Means.{half_down, sum_fits, shift_fits}
use Rattle.forms.proofs.casteljau.mean.Goals as goal

pub returns-clause-value : goal.returns-clause-value
returns-clause-value c =
    let x = c.args.x in
    let y = c.args.y in
    let fx : SFits w64 x = c.ranges.x in
    let fy : SFits w64 y = c.ranges.y in
    let s : SFits w64 (x +ℤ y) = sum_fits x y c.requires.left c.requires.right in
    let h : SFits w64 (shr_z (x +ℤ y) 2) = shift_fits x y c.requires.left c.requires.right in
    let is : to_z w64 (of_z w64 (shr_z (to_z w64 (of_z w64 (to_z w64 (of_z w64 x) +ℤ to_z w64 (of_z w64 y)))) 2)) ≡ mean_down x y = simp to_z-of_z (half_down x y) in
    is
