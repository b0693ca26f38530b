-- Quotients rounded down and up, by a natural m above 0: the two bounds that determine each, and what follows from them.
-- Assumes nothing.
use Rattle.std.proofs.Common.{◌≡◌, ℕ, zero, suc, ◌+◌, ◌*◌, ◌/◌, ◌%◌, ◌^◌, ◌<◌, ◌≤◌, min, ℤ, pos, negsuc, ◌+ℤ◌, ◌*ℤ◌, neg_ℤ, nat_abs, ◌≤ℤ◌, ◌<ℤ◌, sym, ap, ◌∙◌, mod-lt, mul-suc, div-le_self, arith, pow_mono, SFits}
use native.Mathlib.Nat.{div-add-mod, div-eq_of_lt, zero-div, mul-mod_right}
use native.Mathlib.Decide.{dec_le}
use lib.IntN.{neg_ℤ-neg_ℤ}
use lib.Signed.{mag, mag_shr, ≤ℤ_refl}
use mir.Syntax.{Width}
use borrow.Author.Differences.{Apart-out, abs_is, mag_is, neg_is}
use Rattle.std.proofs.lemmas.Int.{by_lt_z}
use Rattle.arith.specs.Rounding.{quot_down, quot_up}
use Rattle.arith.proofs.Ring.{lin, *ℤ-neg, *ℤ-+ℤ, mul_next, scale_is}
use Rattle.arith.proofs.Order.{le_trans, antisym, mul-le}

-- m × a comes before m × (b + 1) only where a is at most b
pub below_next : (m : ℕ) (a b : ℤ) → ((pos m *ℤ a) +ℤ pos 1) ≤ℤ ((pos m *ℤ b) +ℤ pos m) → a ≤ℤ b
below_next m a b h =
    by_lt_z b a
    (λ (l : b <ℤ a).
    let s : (pos m *ℤ (b +ℤ pos 1)) ≤ℤ (pos m *ℤ a) = mul-le m (omega (arith, lin)) in
    let e : pos m *ℤ (b +ℤ pos 1) ≡ (pos m *ℤ b) +ℤ pos m = mul_next (pos m) b in
    absurd (omega (arith, lin)))
    (λ k. k)

module _ (m : ℕ) (above : 0 < m) where
  -- ---- down
  -- the quotient of naturals, and its next multiple
  near : (a : ℕ) → (m * (a / m) ≤ a) × (a < m * (a / m) + m) × (m * suc (a / m) ≡ m * (a / m) + m)
  near a = omega (arith, div-add-mod a m, mod-lt a above, mul-suc m (a / m))

  down_bounds : (z : ℤ) → ((pos m *ℤ quot_down z m) ≤ℤ z) × ((z +ℤ pos 1) ≤ℤ ((pos m *ℤ quot_down z m) +ℤ pos m))
  unfolding quot_down
  down_bounds (pos a) = omega (arith, lin, near a)
  down_bounds (negsuc a) = omega (arith, lin, near a)

  pub down_below : (z : ℤ) → (pos m *ℤ quot_down z m) ≤ℤ z
  down_below z = (down_bounds z).0

  pub down_above : (z : ℤ) → (z +ℤ pos 1) ≤ℤ ((pos m *ℤ quot_down z m) +ℤ pos m)
  down_above z = (down_bounds z).1

  pub down_greatest : (z c : ℤ) → (pos m *ℤ c) ≤ℤ z → c ≤ℤ quot_down z m
  down_greatest z c h =
      let g : (z +ℤ pos 1) ≤ℤ ((pos m *ℤ quot_down z m) +ℤ pos m) = down_above z in
      below_next m c (quot_down z m) (omega (arith, lin))

  pub down_unique : (z q : ℤ) → (pos m *ℤ q) ≤ℤ z → (z +ℤ pos 1) ≤ℤ ((pos m *ℤ q) +ℤ pos m) → q ≡ quot_down z m
  down_unique z q l g =
      let b : (pos m *ℤ quot_down z m) ≤ℤ z = down_below z in
      antisym (down_greatest z q l) (below_next m (quot_down z m) q (omega (arith, lin)))

  pub down_mono : (y z : ℤ) → y ≤ℤ z → quot_down y m ≤ℤ quot_down z m
  down_mono y z h = down_greatest z (quot_down y m) (le_trans (down_below y) h)

  -- a multiple of m comes out whole
  pub down_shift : (z c : ℤ) → quot_down (z +ℤ (pos m *ℤ c)) m ≡ quot_down z m +ℤ c
  down_shift z c =
      let e : pos m *ℤ (quot_down z m +ℤ c) ≡ (pos m *ℤ quot_down z m) +ℤ (pos m *ℤ c) = *ℤ-+ℤ (pos m) (quot_down z m) c in
      let b = down_bounds z in
      sym (down_unique (z +ℤ (pos m *ℤ c)) (quot_down z m +ℤ c) (omega (arith, lin)) (omega (arith, lin)))

  pub down_exact : (c : ℤ) → quot_down (pos m *ℤ c) m ≡ c
  down_exact c = sym (down_unique (pos m *ℤ c) c (≤ℤ_refl (pos m *ℤ c)) (omega (arith, lin)))

  -- ---- up, which is down turned round
  pub up_above : (z : ℤ) → z ≤ℤ (pos m *ℤ quot_up z m)
  unfolding quot_up
  up_above z =
      let b : (pos m *ℤ quot_down (neg_ℤ z) m) ≤ℤ neg_ℤ z = down_below (neg_ℤ z) in
      let e : pos m *ℤ neg_ℤ (quot_down (neg_ℤ z) m) ≡ neg_ℤ (pos m *ℤ quot_down (neg_ℤ z) m) = *ℤ-neg (pos m) (quot_down (neg_ℤ z) m) in
      omega (arith, lin)

  pub up_below : (z : ℤ) → ((pos m *ℤ quot_up z m) +ℤ pos 1) ≤ℤ (z +ℤ pos m)
  unfolding quot_up
  up_below z =
      let b : (neg_ℤ z +ℤ pos 1) ≤ℤ ((pos m *ℤ quot_down (neg_ℤ z) m) +ℤ pos m) = down_above (neg_ℤ z) in
      let e : pos m *ℤ neg_ℤ (quot_down (neg_ℤ z) m) ≡ neg_ℤ (pos m *ℤ quot_down (neg_ℤ z) m) = *ℤ-neg (pos m) (quot_down (neg_ℤ z) m) in
      omega (arith, lin)

  pub up_least : (z c : ℤ) → z ≤ℤ (pos m *ℤ c) → quot_up z m ≤ℤ c
  up_least z c h =
      let b : ((pos m *ℤ quot_up z m) +ℤ pos 1) ≤ℤ (z +ℤ pos m) = up_below z in
      below_next m (quot_up z m) c (omega (arith, lin))

  pub up_unique : (z q : ℤ) → z ≤ℤ (pos m *ℤ q) → ((pos m *ℤ q) +ℤ pos 1) ≤ℤ (z +ℤ pos m) → q ≡ quot_up z m
  up_unique z q l g =
      let a : z ≤ℤ (pos m *ℤ quot_up z m) = up_above z in
      antisym (below_next m q (quot_up z m) (omega (arith, lin))) (up_least z q l)

  pub up_mono : (y z : ℤ) → y ≤ℤ z → quot_up y m ≤ℤ quot_up z m
  up_mono y z h = up_least y (quot_up z m) (le_trans h (up_above z))

  pub up_shift : (z c : ℤ) → quot_up (z +ℤ (pos m *ℤ c)) m ≡ quot_up z m +ℤ c
  up_shift z c =
      let e : pos m *ℤ (quot_up z m +ℤ c) ≡ (pos m *ℤ quot_up z m) +ℤ (pos m *ℤ c) = *ℤ-+ℤ (pos m) (quot_up z m) c in
      let a : z ≤ℤ (pos m *ℤ quot_up z m) = up_above z in
      let b : ((pos m *ℤ quot_up z m) +ℤ pos 1) ≤ℤ (z +ℤ pos m) = up_below z in
      sym (up_unique (z +ℤ (pos m *ℤ c)) (quot_up z m +ℤ c) (omega (arith, lin)) (omega (arith, lin)))

  pub up_exact : (c : ℤ) → quot_up (pos m *ℤ c) m ≡ c
  up_exact c = sym (up_unique (pos m *ℤ c) c (≤ℤ_refl (pos m *ℤ c)) (omega (arith, lin)))

  -- ---- both
  pub down_le_up : (z : ℤ) → quot_down z m ≤ℤ quot_up z m
  down_le_up z =
      let b : (pos m *ℤ quot_down z m) ≤ℤ z = down_below z in
      let a : z ≤ℤ (pos m *ℤ quot_up z m) = up_above z in
      below_next m (quot_down z m) (quot_up z m) (omega (arith, lin))

  pub up_le_next : (z : ℤ) → quot_up z m ≤ℤ (quot_down z m +ℤ pos 1)
  up_le_next z =
      let e : pos m *ℤ (quot_down z m +ℤ pos 1) ≡ (pos m *ℤ quot_down z m) +ℤ pos m = mul_next (pos m) (quot_down z m) in
      let a : (z +ℤ pos 1) ≤ℤ ((pos m *ℤ quot_down z m) +ℤ pos m) = down_above z in
      up_least z (quot_down z m +ℤ pos 1) (omega (arith, lin))

  -- nothing is cut off: both are exact
  multiple : (z : ℤ) → nat_abs z % m ≡ 0 → (c : ℤ) × (z ≡ pos m *ℤ c)
  multiple (pos a) e = (pos (a / m), omega (arith, lin, div-add-mod a m))
  multiple (negsuc a) e = (neg_ℤ (pos (suc a / m)), omega (arith, lin, div-add-mod (suc a) m, *ℤ-neg (pos m) (pos (suc a / m))))

  pub up_whole : (z : ℤ) → nat_abs z % m ≡ 0 → quot_up z m ≡ quot_down z m
  up_whole z e =
      let c = multiple z e in
      ap (λ x. quot_up x m) c.1 ∙ up_exact c.0 ∙ sym (down_exact c.0) ∙ ap (λ x. quot_down x m) (sym c.1)

  -- something is cut off: they are one apart
  abs_multiple : (q : ℤ) → nat_abs (pos m *ℤ q) % m ≡ 0
  abs_multiple (pos n) = mul-mod_right m n
  abs_multiple (negsuc n) =
      let s : nat_abs (pos m *ℤ negsuc n) ≡ m * suc n = omega (arith, abs_is (pos m *ℤ negsuc n), scale_is m (negsuc n)) in
      ap (λ x. x % m) s ∙ mul-mod_right m (suc n)

  pub up_cut : (z : ℤ) → 0 < nat_abs z % m → quot_up z m ≡ quot_down z m +ℤ pos 1
  up_cut z h =
      let q = quot_down z m in
      let e : pos m *ℤ (q +ℤ pos 1) ≡ (pos m *ℤ q) +ℤ pos m = mul_next (pos m) q in
      let b = down_bounds z in
      let whole : pos m *ℤ q ≡ z → nat_abs z % m ≡ 0 = λ s. ap (λ x. nat_abs x % m) (sym s) ∙ abs_multiple q in
      let apart : ¬ (pos m *ℤ q ≡ z) = λ s. omega (arith, whole s) in
      sym (up_unique z (q +ℤ pos 1) (omega (arith, lin)) (omega (arith, lin, Apart-out (pos m *ℤ q) z apart)))

-- ---- signs
pub up_neg : (z : ℤ) (m : ℕ) → quot_up (neg_ℤ z) m ≡ neg_ℤ (quot_down z m)
unfolding quot_up
up_neg z m = ap (λ x. neg_ℤ (quot_down x m)) (neg_ℤ-neg_ℤ z)

pub down_neg : (z : ℤ) (m : ℕ) → quot_down (neg_ℤ z) m ≡ neg_ℤ (quot_up z m)
unfolding quot_up
down_neg z m = sym (neg_ℤ-neg_ℤ (quot_down (neg_ℤ z) m))

-- ---- a divisor past the number's size
far : (z : ℤ) (m n : ℕ) → mag z < m → mag z < n → quot_down z m ≡ quot_down z n
unfolding quot_down
far (pos a) m n h k = ap pos (div-eq_of_lt h ∙ sym (div-eq_of_lt k))
far (negsuc a) m n h k = ap negsuc (div-eq_of_lt h ∙ sym (div-eq_of_lt k))

-- a number of b bits and a sign loses no more by a higher power than by 2 ^ b
pub down_capped : (z : ℤ) (b d : ℕ) → mag z < 2 ^ b → quot_down z (2 ^ min d b) ≡ quot_down z (2 ^ d)
down_capped z b d h =
    elim (dec_le d b) [
      | yes l ↦ let e : min d b ≡ d = omega arith in ap (λ k. quot_down z (2 ^ k)) e
      | no g ↦
          let e : min d b ≡ b = omega arith in
          let l : b ≤ d = omega arith in
          ap (λ k. quot_down z (2 ^ k)) e ∙ far z (2 ^ b) (2 ^ d) h (omega (arith, pow_mono l))
    ]

-- ---- sizes: neither is larger than the number
mag_up : (z : ℤ) (m : ℕ) → mag (quot_up z m) ≤ mag z
unfolding quot_up quot_down
mag_up (pos zero) m = rw (zero-div m) (omega arith)
mag_up (pos (suc n)) m = omega (arith, div-le_self n m)
mag_up (negsuc n) m = omega (arith, mag_is (neg_ℤ (pos (suc n / m))), neg_is (pos (suc n / m)), div-le_self (suc n) m)

pub down_fits : (w : Width) (z : ℤ) (m : ℕ) → SFits w z → SFits w (quot_down z m)
unfolding quot_down
down_fits w z m h = record { sfits = omega (arith, mag_shr z m, h.sfits) }

pub up_fits : (w : Width) (z : ℤ) (m : ℕ) → SFits w z → SFits w (quot_up z m)
up_fits w z m h = record { sfits = omega (arith, mag_up z m, h.sfits) }
