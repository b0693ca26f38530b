-- How large the numbers are that code adds up.
--     Between l h z      z is at least l and at most h
-- A sum of n numbers of at most B in size is at most n · B in size; a part of the slack is at most
-- the sum that it is made from.
-- Assumes nothing.
use Rattle.std.proofs.Common.{◌≡◌, ℕ, zero, suc, ◌*◌, ◌^◌, ◌<◌, ◌≤◌, ℤ, pos, negsuc, ◌+ℤ◌, ◌*ℤ◌, neg_ℤ, nat_abs, ◌≤ℤ◌, refl, suc-mul, mul-le-mul, zero-mul, div-le_self, arith}
use native.Mathlib.Nat.{zero-div}
use lib.IntN.{neg_ℤ-+ℤ}
use Rattle.arith.specs.Rounding.{quot_down, quot_up}
use Rattle.arith.specs.Sums.{sum}
use Rattle.forms.specs.Choose.{factorial}
use Rattle.forms.specs.Polynomial.{Table}
use Rattle.forms.specs.Tables.{numerator, first, loss}
use Rattle.forms.specs.Extra.{pos_le}
use Rattle.arith.proofs.Ring.{lin, neg-*ℤ}
use Rattle.arith.proofs.Order.{add_le}

pub record Between (l h z : ℤ) : Type 0 where
  pub from : l ≤ℤ z
  pub to : z ≤ℤ h

pub first_text : (q : ℤ → ℕ → ℤ) (n1 n2 n3 : ℕ) (a : Table) (j1 j2 j3 : ℕ)
    → q (numerator n1 n2 n3 a j1 j2 j3) (factorial n1 * (factorial n2 * factorial n3)) ≡ first q n1 n2 n3 a j1 j2 j3
unfolding first
first_text q n1 n2 n3 a j1 j2 j3 = refl

-- ---- one term and a part of a sum, as a loop adds them up

pub term_between : (A F w : ℕ) (z : ℤ) → nat_abs z ≤ A → w ≤ F → Between (neg_ℤ (pos (A * F))) (pos (A * F)) (z *ℤ pos w)
term_between A F w (pos n) h l =
    let m : n * w ≤ A * F = mul-le-mul h l in
    record { from = omega (arith, lin); to = pos_le m }
term_between A F w (negsuc n) h l =
    let m : suc n * w ≤ A * F = mul-le-mul h l in
    rw (neg-*ℤ (pos (suc n)) (pos w)) (record { from = omega (arith, lin); to = omega (arith, lin) })

pub sum_between : (n : ℕ) (f : ℕ → ℤ) (B : ℕ) → ((i : ℕ) → i < n → Between (neg_ℤ (pos B)) (pos B) (f i)) → Between (neg_ℤ (pos (n * B))) (pos (n * B)) (sum n f)
unfolding sum
sum_between zero f B h = rw (zero-mul B) (record { from = omega (arith, lin); to = omega (arith, lin) })
sum_between (suc n) f B h =
    let b : Between (neg_ℤ (pos (n * B))) (pos (n * B)) (sum n f) = sum_between n f B (λ i l. h i (omega arith)) in
    let c : Between (neg_ℤ (pos B)) (pos B) (f n) = h n (omega arith) in
    rw (suc-mul n B, neg_ℤ-+ℤ (pos (n * B)) (pos B)) (record { from = add_le b.from c.from; to = add_le b.to c.to })

-- ---- the slack

-- a quotient rounded up of a number that is not negative
pub quot_up_size : (z m : ℕ) → Between (pos 0) (pos z) (quot_up (pos z) m)
unfolding quot_up quot_down
quot_up_size zero m = rw (zero-div m) (record { from = pos_le (omega arith); to = pos_le (omega arith) })
quot_up_size (suc z) m = record { from = pos_le (omega arith); to = pos_le (omega (arith, div-le_self z m)) }

quot_up_small : (z : ℤ) (m : ℕ) → pos 0 ≤ℤ z → Between (pos 0) z (quot_up z m)
quot_up_small (pos z) m h = quot_up_size z m
quot_up_small (negsuc z) m h = absurd (omega (arith, lin))

pub loss_between : (n d : ℕ) (S : ℤ) → pos 0 ≤ℤ S → Between (pos 0) (pos (n * d) +ℤ S) (loss n d S)
unfolding loss
loss_between zero d S h = rw (zero-mul d) (record { from = pos_le (omega arith); to = omega (arith, lin) })
loss_between (suc m) d S h =
    let a = quot_up_size (suc m * d) 2 in
    let b = quot_up_small S (2 * suc m * 4 ^ d) h in
    record { from = add_le a.from b.from; to = add_le a.to b.to }
