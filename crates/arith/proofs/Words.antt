-- The quotients and products as signed words of 64 bits compute them: a word shows as `to_z w64 (of_z w64 z)`, to its bits and back.
-- Assumes nothing.
use Rattle.std.proofs.Common.{◌≡◌, Bool, ℕ, suc, ◌+◌, ◌-◌, ◌*◌, ◌/◌, ◌%◌, ◌^◌, ◌<◌, ◌≤◌, min, true, false, eqb, ℤ, pos, negsuc, ◌+ℤ◌, ◌*ℤ◌, neg_ℤ, nat_abs, ◌≤ℤ◌, Decides, sym, ap, ◌∙◌, subst, ap₂, mod-lt, mul_comm, mul-suc, div-le_self, arith, pow_mono, w64, SFits, to_z, of_z}
use mathlib.Core.Bool.{false≢true}
use native.Mathlib.Nat.{div-add-mod, mul-mod_right}
use native.Mathlib.Decide.{dec_lt}
use lib.Count.{count_trailing_zeros}
use lib.Dec.{leb}
use lib.Signed.{shr_z, lt_z, nat_abs-le}
use borrow.Author.Differences.{fits_in}
use Rattle.std.proofs.lemmas.Nat.{mod-mul-add}
use Rattle.std.proofs.lemmas.Int.{to_z-of_z, to_z_pos, ints}
use Rattle.std.proofs.lemmas.Bool.{eqb-true, eq-eqb, leb-true, le-leb}
use Rattle.arith.specs.Rounding.{quot_down, quot_up}
use Rattle.arith.specs.Product.{Tame}
use Rattle.arith.proofs.Ring.{lin, neg-*ℤ}
use Rattle.arith.proofs.Order.{mul_le_right}
use Rattle.arith.proofs.Quotients.{down_capped, down_fits, up_fits, up_whole, up_cut}
use Rattle.arith.proofs.Zeros.{zeros_whole, zeros_cut}

-- a shift by at most 63 serves for every power
pub shifted : (z : ℤ) (k d : ℕ) → SFits w64 z → k ≡ min d 63 → to_z w64 (of_z w64 (shr_z (to_z w64 (of_z w64 z)) (2 ^ k))) ≡ quot_down z (2 ^ d)
unfolding quot_down
shifted z k d f e =
    let g : SFits w64 (shr_z z (2 ^ k)) = down_fits w64 z (2 ^ k) f in
    simp to_z-of_z (ap (λ x. quot_down z (2 ^ x)) e ∙ down_capped z 63 d f.sfits)

-- the quotient of a number that is not negative
pub divided : (z : ℤ) (q m : ℕ) → SFits w64 z → lt_z (to_z w64 (of_z w64 z)) (pos 0) ≡ false → q ≡ nat_abs (to_z w64 (of_z w64 z)) / m → to_z w64 q ≡ quot_down z m
unfolding quot_down
divided (pos a) q m f h e =
    let k : a < 2 ^ 63 = f.sfits in
    let q_is : q ≡ a / m = e ∙ ap (λ x. nat_abs x / m) (to_z_pos w64 a k) in
    to_z_pos w64 q (omega (arith, div-le_self a m)) ∙ ap pos q_is
divided (negsuc a) q m f h e = absurd (omega (arith, ints))

-- of a negative one, by its complement
pub turned : (z : ℤ) (q m : ℕ) → SFits w64 z → lt_z (to_z w64 (of_z w64 z)) (pos 0) ≡ true → q ≡ nat_abs (to_z w64 (2 ^ 64 - 1 - of_z w64 z)) / m → to_z w64 (2 ^ 64 - 1 - q) ≡ quot_down z m
unfolding quot_down
turned (pos a) q m f h e = absurd (omega (arith, ints))
turned (negsuc a) q m f h e =
    let k : a < 2 ^ 63 = f.sfits in
    let c : 2 ^ 64 - 1 - (2 ^ 64 - suc a) ≡ a = omega arith in
    let q_is : q ≡ a / m = e ∙ ap (λ x. nat_abs (to_z w64 x) / m) c ∙ ap (λ x. nat_abs x / m) (to_z_pos w64 a k) in
    let g : SFits w64 (negsuc q) = record { sfits = omega (arith, div-le_self a m) } in
    let b : 2 ^ 64 - 1 - q ≡ 2 ^ 64 - suc q = omega (arith, div-le_self a m) in
    ap (to_z w64) b ∙ to_z-of_z w64 (negsuc q) g ∙ ap negsuc q_is

-- ---- whether something is cut off, as the rest of the division tells it
pub whole_divided : (z : ℤ) (r m : ℕ) → SFits w64 z → r ≡ nat_abs (to_z w64 (of_z w64 z)) % m → Decides (eqb r 0) (nat_abs z % m ≡ 0)
whole_divided z r m f e =
    let is : r ≡ nat_abs z % m = e ∙ ap (λ x. nat_abs x % m) (to_z-of_z w64 z f) in
    (λ t. sym is ∙ eqb-true r 0 t, λ h. eq-eqb r 0 (is ∙ h))

-- a number leaves m - 1 over where the next one leaves nothing
next_whole : (a m : ℕ) → 0 < m → a % m ≡ m - 1 → suc a % m ≡ 0
next_whole a m above h =
    let e : suc a ≡ m * suc (a / m) = omega (arith, div-add-mod a m, mul-suc m (a / m)) in
    ap (λ x. x % m) e ∙ mul-mod_right m (suc (a / m))

next_cut : (a m : ℕ) → 0 < m → suc a % m ≡ 0 → a % m ≡ m - 1
next_cut a m above h =
    elim (dec_lt (a % m) (m - 1)) [
      | yes l ↦
          let b : a % m + 1 < m = omega arith in
          let e : suc a ≡ a / m * m + (a % m + 1) = omega (arith, div-add-mod a m, mul_comm m (a / m)) in
          let left : suc a % m ≡ a % m + 1 = ap (λ x. x % m) e ∙ mod-mul-add (a / m) m (a % m + 1) b in
          absurd (omega arith)
      | no g ↦ omega (arith, mod-lt a above)
    ]

pub whole_turned : (z : ℤ) (r k m : ℕ) → SFits w64 z → lt_z (to_z w64 (of_z w64 z)) (pos 0) ≡ true → 0 < m → k ≡ m
    → r ≡ nat_abs (to_z w64 (2 ^ 64 - 1 - of_z w64 z)) % m → Decides (eqb r (k - 1)) (nat_abs z % m ≡ 0)
whole_turned (pos a) r k m f h above e is = absurd (omega (arith, ints))
whole_turned (negsuc a) r k m f h above e is =
    let l : a < 2 ^ 63 = f.sfits in
    let c : 2 ^ 64 - 1 - (2 ^ 64 - suc a) ≡ a = omega arith in
    let r_is : r ≡ a % m = is ∙ ap (λ x. nat_abs (to_z w64 x) % m) c ∙ ap (λ x. nat_abs x % m) (to_z_pos w64 a l) in (
      λ t. next_whole a m above (sym r_is ∙ eqb-true r (k - 1) t ∙ ap (λ x. x - 1) e),
      λ w. eq-eqb r (k - 1) (r_is ∙ next_cut a m above w ∙ ap (λ x. x - 1) (sym e)),
    )

-- the quotient rounded down, as a call gave it
pub back : {z q : ℤ} (m : ℕ) → SFits w64 z → q ≡ quot_down (to_z w64 (of_z w64 z)) m → to_z w64 (of_z w64 q) ≡ quot_down z m
back {z} {q} m f e =
    let q_is : q ≡ quot_down z m = e ∙ ap (λ x. quot_down x m) (to_z-of_z w64 z f) in
    to_z-of_z w64 q (subst (SFits w64) (sym q_is) (down_fits w64 z m f)) ∙ q_is

-- both roundings of z / m, from a call that gave the quotient rounded down, q, and whether nothing was cut off, w
module _ {z q : ℤ} {m : ℕ} {w : Bool} (f : SFits w64 z) (above : 1 ≤ m) (down : q ≡ quot_down (to_z w64 (of_z w64 z)) m)
    (whole : Decides w (nat_abs (to_z w64 (of_z w64 z)) % m ≡ 0)) where
  z_is : to_z w64 (of_z w64 z) ≡ z
  z_is = to_z-of_z w64 z f

  q_is : to_z w64 (of_z w64 q) ≡ quot_down z m
  q_is = back m f down

  pub same_is : w ≡ true → to_z w64 (of_z w64 q) ≡ quot_up z m
  same_is t = q_is ∙ sym (up_whole m above z (ap (λ x. nat_abs x % m) (sym z_is) ∙ whole.0 t))

  one_more : w ≡ false → to_z w64 (of_z w64 q) +ℤ pos 1 ≡ quot_up z m
  one_more t =
      let some : ¬ (nat_abs z % m ≡ 0) = λ e. false≢true (sym t ∙ whole.1 (ap (λ x. nat_abs x % m) z_is ∙ e)) in
      ap (λ x. x +ℤ pos 1) q_is ∙ sym (up_cut m above z (omega (arith, some)))

  pub next_fits : w ≡ false → SFits w64 (to_z w64 (of_z w64 q) +ℤ pos 1)
  next_fits t = subst (SFits w64) (sym (one_more t)) (up_fits w64 z m f)

  pub next_is : w ≡ false → to_z w64 (of_z w64 (to_z w64 (of_z w64 q) +ℤ pos 1)) ≡ quot_up z m
  next_is t = to_z-of_z w64 (to_z w64 (of_z w64 q) +ℤ pos 1) (next_fits t) ∙ one_more t

-- whether a power of two cuts something off, as the count of zeros tells it. n is the number's size, as a call gave it
some_bits : (z : ℤ) → ¬ (of_z w64 z ≡ 0) → 0 < nat_abs z
some_bits (pos a) n = omega arith
some_bits (negsuc a) n = omega arith

pub whole_power : (z : ℤ) (n d : ℕ) → SFits w64 z → n ≡ nat_abs (to_z w64 (of_z w64 z)) → ¬ (of_z w64 z ≡ 0)
    → Decides (leb d (count_trailing_zeros 64 n)) (nat_abs z % 2 ^ d ≡ 0)
whole_power z n d f e some = (
  λ t. ap (λ x. x % 2 ^ d) size ∙ zeros_whole 64 n d (leb-true d zeros t),
  λ w. elim (dec_lt zeros d) [
    | yes l ↦ absurd (omega (arith, sym w, cut l))
    | no g ↦ le-leb d zeros (omega arith)
  ],
)
  where
    size : nat_abs z ≡ n
    size = sym (e ∙ ap nat_abs (to_z-of_z w64 z f))

    zeros : ℕ
    zeros = count_trailing_zeros 64 n

    cut : zeros < d → 0 < nat_abs z % 2 ^ d
    cut l = rw size (zeros_cut 64 n d (omega (arith, size, nat_abs-le z f.sfits)) (omega (arith, size, some_bits z some)) l)

-- ---- products
-- what a factor's numerator can be
pub small : (n d : ℕ) → n ≤ 2 ^ d → d ≤ 15 → n ≤ 2 ^ 15
small n d h k = omega (arith, pow_mono {i = d} {j = 15} k)

times_fits : (z : ℤ) (n : ℕ) → Tame z → n ≤ 2 ^ 15 → SFits w64 (z *ℤ pos n)
times_fits z n t h =
    let l : (neg_ℤ (pos (2 ^ 47)) *ℤ pos n) ≤ℤ (z *ℤ pos n) = mul_le_right n t.0 in
    let g : (z *ℤ pos n) ≤ℤ (pos (2 ^ 47) *ℤ pos n) = mul_le_right n t.1 in
    let i : neg_ℤ (pos (2 ^ 47)) *ℤ pos n ≡ neg_ℤ (pos (2 ^ 47 * n)) = neg-*ℤ (pos (2 ^ 47)) (pos n) in
    fits_in w64 (z *ℤ pos n) (omega (arith, lin))

-- z is an end of an enclosure, and x a numerator as a word
module _ {z x : ℤ} (n : ℕ) (t : Tame z) (f : SFits w64 z) (h : n ≤ 2 ^ 15) (e : x ≡ pos n) where
  product : to_z w64 (of_z w64 z) *ℤ to_z w64 (of_z w64 x) ≡ z *ℤ pos n
  product = ap₂ ◌*ℤ◌ (to_z-of_z w64 z f) (ap (λ u. to_z w64 (of_z w64 u)) e ∙ to_z_pos w64 n (omega arith))

  pub product_fits : SFits w64 (to_z w64 (of_z w64 z) *ℤ to_z w64 (of_z w64 x))
  product_fits = subst (SFits w64) (sym product) (times_fits z n t h)

  pub product_is : to_z w64 (of_z w64 (to_z w64 (of_z w64 z) *ℤ to_z w64 (of_z w64 x))) ≡ z *ℤ pos n
  product_is = to_z-of_z w64 (to_z w64 (of_z w64 z) *ℤ to_z w64 (of_z w64 x)) product_fits ∙ product
