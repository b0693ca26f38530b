-- The ends of a product as signed words of 64 bits compute them: a word shows as `to_z w64 (of_z w64 z)`, to its bits and back.
-- Assumes nothing.
use Rattle.std.proofs.Common.{◌≡◌, ℕ, ◌^◌, ◌≤◌, true, false, ℤ, pos, ◌-ℤ◌, ◌*ℤ◌, neg_ℤ, ◌≤ℤ◌, sym, ap, ◌∙◌, subst, arith, w64, SFits, to_z, of_z}
use lib.Signed.{shr_z, lt_z}
use borrow.Author.Differences.{fits_in}
use Rattle.std.proofs.lemmas.Int.{to_z-of_z, ints}
use Rattle.arith.specs.Rounding.{quot_down}
use Rattle.arith.specs.Product.{low_times, high_times, Tame, Laws}
use Rattle.arith.proofs.Ring.{lin}
use Rattle.arith.proofs.Products.{high_is_low}
use Rattle.arith.proofs.Quotients.{down_fits}
use Rattle.arith.proofs.Words.{product_fits, product_is}

-- a word's sign
pub negative : (z : ℤ) → SFits w64 z → lt_z (to_z w64 (of_z w64 z)) (pos 0) ≡ true → z ≤ℤ pos 0
negative z f h = let e : to_z w64 (of_z w64 z) ≡ z = to_z-of_z w64 z f in omega (arith, ints, lin)

pub not_negative : (z : ℤ) → SFits w64 z → lt_z (to_z w64 (of_z w64 z)) (pos 0) ≡ false → pos 0 ≤ℤ z
not_negative z f h = let e : to_z w64 (of_z w64 z) ≡ z = to_z-of_z w64 z f in omega (arith, ints, lin)

-- a word of the value z, shifted
shift_is : (x z : ℤ) (m : ℕ) → SFits w64 x → to_z w64 (of_z w64 x) ≡ z → to_z w64 (of_z w64 (shr_z (to_z w64 (of_z w64 x)) m)) ≡ quot_down z m
unfolding quot_down
shift_is x z m f e =
    let y = to_z w64 (of_z w64 x) in
    let y_fits : SFits w64 y = subst (SFits w64) (sym (to_z-of_z w64 x f)) f in
    to_z-of_z w64 (shr_z y m) (down_fits w64 y m y_fits) ∙ ap (λ w. quot_down w m) e

-- the end z times the word y of a numerator n
module _ (z y x : ℤ) (n : ℕ) (t : Tame z) (f : SFits w64 z) (h : n ≤ 2 ^ 15) (y_is : y ≡ to_z w64 (of_z w64 x)) (x_is : x ≡ pos n) where
  pub chosen_fits : SFits w64 (to_z w64 (of_z w64 z) *ℤ y)
  chosen_fits = rw y_is (product_fits n t f h x_is)

  pub chosen_is : (m : ℕ) → to_z w64 (of_z w64 (shr_z (to_z w64 (of_z w64 (to_z w64 (of_z w64 z) *ℤ y))) m)) ≡ quot_down (z *ℤ pos n) m
  chosen_is m = rw y_is (shift_is (to_z w64 (of_z w64 z) *ℤ to_z w64 (of_z w64 x)) (z *ℤ pos n) m (product_fits n t f h x_is) (product_is n t f h x_is))

-- minus a word
module _ (z : ℤ) (t : Tame z) where
  minus : pos 0 -ℤ to_z w64 (of_z w64 z) ≡ neg_ℤ z
  minus = let e : to_z w64 (of_z w64 z) ≡ z = to_z-of_z w64 z (fits_in w64 z (omega (arith, lin))) in omega (arith, lin)

  pub minus_fits : SFits w64 (pos 0 -ℤ to_z w64 (of_z w64 z))
  minus_fits = subst (SFits w64) (sym minus) (fits_in w64 (neg_ℤ z) (omega (arith, lin)))

  pub minus_is : to_z w64 (of_z w64 (pos 0 -ℤ to_z w64 (of_z w64 z))) ≡ neg_ℤ z
  minus_is = to_z-of_z w64 (pos 0 -ℤ to_z w64 (of_z w64 z)) minus_fits ∙ minus

-- the high end of z, from the low end q of minus z
module _ (z q : ℤ) (e f d : ℕ) (t : Tame z) (laws : Laws e f d) (q_is : q ≡ low_times (to_z w64 (of_z w64 (pos 0 -ℤ to_z w64 (of_z w64 z)))) e f d) where
  low_is : q ≡ low_times (neg_ℤ z) e f d
  low_is = q_is ∙ ap (λ w. low_times w e f d) (minus_is z t)

  low_tame : Tame q
  low_tame =
      let k = laws.low_kept (neg_ℤ z) (2 ^ 47) in
      rw low_is (k.0 (omega (arith, lin)), k.1 (omega (arith, lin)))

  pub high_fits : SFits w64 (pos 0 -ℤ to_z w64 (of_z w64 q))
  high_fits = minus_fits q low_tame

  pub high_word : to_z w64 (of_z w64 (pos 0 -ℤ to_z w64 (of_z w64 q))) ≡ high_times z e f d
  high_word = minus_is q low_tame ∙ ap neg_ℤ low_is ∙ sym (high_is_low z e f d)
