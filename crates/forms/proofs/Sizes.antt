-- A share of a slack, and the slack of the nested form, within 64 bits. Assumes nothing.
use Rattle.std.proofs.Common.{◌≡◌, ℕ, ◌-◌, ◌*◌, ◌^◌, ◌≤◌, ℤ, pos, ◌+ℤ◌, ◌-ℤ◌, ◌*ℤ◌, ◌≤ℤ◌, ap, ◌∙◌, ap₂, arith, lit<, w64, SFits, to_z, of_z}
use Rattle.std.proofs.lemmas.Int.{to_z-of_z, to_z_pos}
use Rattle.arith.specs.Rounding.{quot_up}
use Rattle.arith.proofs.Ring.{lin}
use Rattle.forms.proofs.Between.{quot_up_size}
use Rattle.forms.proofs.Working.{fits}

-- a sum n over a divisor m, rounded up, as the code computes it
module _ (n m : ℕ) (r : ℤ) (small : n ≤ 2 ^ 43) (is : r ≡ quot_up (to_z w64 n) m) where
  pub share_is : r ≡ quot_up (pos n) m
  share_is = is ∙ ap (λ z. quot_up z m) (to_z_pos w64 n (omega arith))

  pub share_small : (pos 0 ≤ℤ r) × (r ≤ℤ pos (2 ^ 43))
  share_small =
      let b = quot_up_size n m in
      let lo : pos 0 ≤ℤ quot_up (pos n) m = b.from in
      let hi : quot_up (pos n) m ≤ℤ pos n = b.to in
      rw share_is (lo, omega (arith, lin))

-- ---- the slack, as the code computes it
read_sum : (x y : ℤ) → SFits w64 x → SFits w64 y → to_z w64 (of_z w64 x) +ℤ to_z w64 (of_z w64 y) ≡ x +ℤ y
read_sum x y f g = ap₂ ◌+ℤ◌ (to_z-of_z w64 x f) (to_z-of_z w64 y g)

module _ (N : ℕ) (x y z : ℤ) (some : 1 ≤ N) (few : N ≤ 64) (x-small : (pos 0 ≤ℤ x) × (x ≤ℤ pos (2 ^ 43))) (y-small : (pos 0 ≤ℤ y) × (y ≤ℤ pos (2 ^ 43))) (z-small : (pos 0 ≤ℤ z) × (z ≤ℤ pos (2 ^ 43))) where
  abbrev products : ℤ
  products = to_z w64 (of_z w64 (pos 2 *ℤ to_z w64 (of_z w64 (to_z w64 N -ℤ pos 1))))

  abbrev shares : ℤ
  shares = to_z w64 (of_z w64 (to_z w64 (of_z w64 (to_z w64 (of_z w64 x) +ℤ to_z w64 (of_z w64 y))) +ℤ to_z w64 (of_z w64 z)))

  products_read : products ≡ pos (2 * (N - 1))
  products_read =
      let n : to_z w64 N ≡ pos N = to_z_pos w64 N (omega arith) in
      let one : pos N -ℤ pos 1 ≡ pos (N - 1) = omega (arith, lin) in
      let f : SFits w64 (pos (N - 1)) = record { sfits = omega arith } in
      let g : SFits w64 (pos (2 * (N - 1))) = record { sfits = omega arith } in
      ap (λ a. to_z w64 (of_z w64 (pos 2 *ℤ to_z w64 (of_z w64 a)))) (ap (λ a. a -ℤ pos 1) n ∙ one)
      ∙ ap (λ a. to_z w64 (of_z w64 (pos 2 *ℤ a))) (to_z-of_z w64 (pos (N - 1)) f)
      ∙ to_z-of_z w64 (pos (2 * (N - 1))) g

  shares_read : shares ≡ (x +ℤ y) +ℤ z
  shares_read =
      let x_fits : SFits w64 x = fits (2 ^ 43) x (lit< tt) (omega (arith, lin, x-small)) in
      let y_fits : SFits w64 y = fits (2 ^ 43) y (lit< tt) (omega (arith, lin, y-small)) in
      let z_fits : SFits w64 z = fits (2 ^ 43) z (lit< tt) (omega (arith, lin, z-small)) in
      let two_fits : SFits w64 (x +ℤ y) = fits (2 ^ 44) (x +ℤ y) (lit< tt) (omega (arith, lin, x-small, y-small)) in
      let all_fits : SFits w64 ((x +ℤ y) +ℤ z) = fits (2 ^ 45) ((x +ℤ y) +ℤ z) (lit< tt) (omega (arith, lin, x-small, y-small, z-small)) in
      ap (λ a. to_z w64 (of_z w64 (to_z w64 (of_z w64 a) +ℤ to_z w64 (of_z w64 z)))) (read_sum x y x_fits y_fits)
      ∙ ap (λ a. to_z w64 (of_z w64 a)) (read_sum (x +ℤ y) z two_fits z_fits)
      ∙ to_z-of_z w64 ((x +ℤ y) +ℤ z) all_fits

  whole_is : products +ℤ shares ≡ pos (2 * (N - 1)) +ℤ ((x +ℤ y) +ℤ z)
  whole_is = ap₂ ◌+ℤ◌ products_read shares_read

  pub slack_fits : SFits w64 (products +ℤ shares)
  slack_fits = rw whole_is (fits (2 ^ 46) (pos (2 * (N - 1)) +ℤ ((x +ℤ y) +ℤ z)) (lit< tt) (omega (arith, lin, x-small, y-small, z-small)))

  pub slack_read : to_z w64 (of_z w64 (products +ℤ shares)) ≡ pos (2 * (N - 1)) +ℤ ((x +ℤ y) +ℤ z)
  slack_read = to_z-of_z w64 (products +ℤ shares) slack_fits ∙ whole_is
