-- Quotients of a whole number by a natural, rounded.
--     quot_down z m      z / m rounded toward minus infinity
--     quot_up z m        z / m rounded toward plus infinity: minus the rounding down of minus z
-- Assumes nothing.
use Rattle.std.specs.Prelude.{ℕ, ℤ, neg_ℤ}
use Rattle.std.specs.Int.Signed.{shr_z}

unfoldable pub quot_down : ℤ → ℕ → ℤ
quot_down z m = shr_z z m

unfoldable pub quot_up : ℤ → ℕ → ℤ
quot_up z m = neg_ℤ (quot_down (neg_ℤ z) m)
