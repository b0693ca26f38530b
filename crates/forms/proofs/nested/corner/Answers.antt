use Rattle.std.proofs.Common.{◌≡◌, ◌/◌, sym, ◌∙◌, subst, arith, div-one}
use Rattle.mapping.proofs.Halving.{valid_cell}
use Rattle.forms.specs.Nested.{corner_factors, corner_ends, AtCorner}
use Rattle.forms.specs.Worked.{Agrees}
use Rattle.forms.proofs.Agreeing.{three_low, three_high}
use Rattle.forms.specs.Corners.{at_corner}
use Rattle.forms.proofs.nested.corner.Goals as goal

pub returns : goal.returns
returns c =
    let m = c.args.m.now in
    let s = c.args.c.now.shape in
    let k = c.args.corner in
    let g = corner_factors s k in
    let whole : k / 1 ≡ k = div-one k in
    let first : Agrees c.point.result g 0 = rw whole (omega (arith, c.point.ensures)) in
    let second : Agrees c.point-2.result g 1 = omega (arith, c.point-2.ensures) in
    let third : Agrees c.point-3.result g 2 = omega (arith, c.point-3.ensures) in
    let low = c.ends.ensures.low ∙ three_low m g _ _ _ first second third in
    let high = c.ends.ensures.high ∙ three_high m g _ _ _ first second third in
    let value : c.ends.result ≡ corner_ends m s k = λ i. (low i, high i) in
    record { value = value; encloses = subst (AtCorner m s k) (sym value) (at_corner s k (valid_cell c.args.c.now) m) }
