-- Small laws of numbers, quotients and sums.
--     nats      for `simp`: multiplies out and sorts sums and products of naturals
-- Assumes nothing.
use Rattle.std.specs.Prelude.{◌≡◌, ℕ, zero, suc, ◌*◌, ◌^◌, ◌<◌, ◌≤◌, ℤ, pos, negsuc, ◌+ℤ◌, ◌*ℤ◌, neg_ℤ, ◌≤ℤ◌, refl}
use Rattle.std.proofs.Common.{ap, ◌∙◌, mul-add, add-mul, mul_assoc, mul_left_comm, mul_comm, add_assoc, add_comm, zero-mul, suc-mul, arith, pow-add}
use Rattle.std.proofs.Math.Nat.{add_left_comm, pow-zero, pow-succ'}
use Rattle.arith.specs.Rounding.{quot_down, quot_up}
use Rattle.arith.specs.Sums.{sum}
use Rattle.arith.proofs.Ring.{lin, neg-*ℤ, one-mul}
use Rattle.arith.proofs.Order.{add_le}
use Rattle.arith.proofs.Quotients as quotients

pub ruleset nats = (mul-add, add-mul, mul_assoc, mul_left_comm, mul_comm, add_assoc, add_left_comm, add_comm)

-- ---- powers

pub mul_pow : (a b n : ℕ) → (a * b) ^ n ≡ a ^ n * b ^ n
mul_pow a b zero = rw (pow-zero (a * b), pow-zero a, pow-zero b)
mul_pow a b (suc n) = rw (pow-succ' (a * b) n, pow-succ' a n, pow-succ' b n, mul_pow a b n) (simp nats)

pub pow_pow : (a d n : ℕ) → (a ^ d) ^ n ≡ a ^ (n * d)
pow_pow a d zero = rw (zero-mul d, pow-zero (a ^ d), pow-zero a)
pow_pow a d (suc n) = rw (pow-succ' (a ^ d) n, pow_pow a d n, suc-mul n d, pow-add a (n * d) d) (mul_comm (a ^ d) (a ^ (n * d)))

-- ---- integers

pub pos_le : {a b : ℕ} → a ≤ b → pos a ≤ℤ pos b
pos_le {a} {b} h = omega (arith, lin)

pub minus_one : (a : ℤ) → negsuc 0 *ℤ a ≡ neg_ℤ a
minus_one a = neg-*ℤ (pos 1) a ∙ ap neg_ℤ (one-mul a)

-- ---- quotients

-- m times the quotient rounded down is at most z, and less than m below it
pub quot_down_is : (z : ℤ) (m : ℕ) → 0 < m → ((pos m *ℤ quot_down z m) ≤ℤ z) × ((z +ℤ pos 1) ≤ℤ ((pos m *ℤ quot_down z m) +ℤ pos m))
quot_down_is z m p = (quotients.down_below m p z, quotients.down_above m p z)

pub quot_up_neg : (z : ℤ) (m : ℕ) → quot_up z m ≡ neg_ℤ (quot_down (neg_ℤ z) m)
unfolding quot_up
quot_up_neg z m = refl

pub quot_up_is : (z : ℤ) (m : ℕ) → 0 < m → z ≤ℤ (pos m *ℤ quot_up z m)
quot_up_is z m p = quotients.up_above m p z

-- ---- sums

pub sum_most : (n : ℕ) (f : ℕ → ℤ) (B : ℕ) → ((i : ℕ) → i < n → f i ≤ℤ pos B) → sum n f ≤ℤ pos (n * B)
unfolding sum
sum_most zero f B h = rw (zero-mul B) (pos_le (omega arith))
sum_most (suc n) f B h = rw (suc-mul n B) (add_le (sum_most n f B (λ i l. h i (omega arith))) (h n (omega arith)))
