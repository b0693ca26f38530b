-- Means of two summable numbers, as a shift of their sum in 64 bits gives them. Assumes nothing.
use Rattle.std.proofs.Common.{◌≡◌, ℤ, pos, ◌+ℤ◌, ◌*ℤ◌, ◌≤ℤ◌, sym, refl, subst, arith, w64, SFits}
use lib.Signed.{shr_z}
use borrow.Author.Differences.{fits_in}
use Rattle.arith.specs.Rounding.{quot_down}
use Rattle.arith.proofs.Quotients as quotients
use Rattle.arith.proofs.Ring.{lin}
use Rattle.forms.specs.Halving.{mean_down}
use Rattle.forms.specs.Worked.{Within}
use Rattle.forms.specs.Works.{summable}

-- a shift of the sum
pub half_down : (x y : ℤ) → shr_z (x +ℤ y) 2 ≡ mean_down x y
unfolding mean_down quot_down
half_down x y = refl

module _ (x y : ℤ) (f : Within summable x) (g : Within summable y) where
  pub sum_fits : SFits w64 (x +ℤ y)
  sum_fits = omega (arith, lin, fits_in, f.0, f.1, g.0, g.1)

  pub mean_size : Within summable (mean_down x y)
  unfolding mean_down
  mean_size =
      let q : ℤ = quot_down (x +ℤ y) 2 in
      let b : (pos 2 *ℤ q) ≤ℤ (x +ℤ y) = quotients.down_below 2 (omega arith) (x +ℤ y) in
      let a : ((x +ℤ y) +ℤ pos 1) ≤ℤ ((pos 2 *ℤ q) +ℤ pos 2) = quotients.down_above 2 (omega arith) (x +ℤ y) in
      (omega (arith, lin, f.0, f.1, g.0, g.1), omega (arith, lin, f.0, f.1, g.0, g.1))

  pub shift_fits : SFits w64 (shr_z (x +ℤ y) 2)
  shift_fits =
      let s = mean_size in
      let m : SFits w64 (mean_down x y) = omega (arith, lin, fits_in, s.0, s.1) in
      subst (SFits w64) (sym (half_down x y)) m
