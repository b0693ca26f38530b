-- What each input adds to the slack, and the slack, in 64 bits. Assumes nothing.
use Rattle.std.proofs.Common.{◌≡◌, ℕ, zero, suc, ◌*◌, ◌%◌, ◌^◌, ◌<◌, ◌≤◌, ℤ, pos, ◌+ℤ◌, ◌≤ℤ◌, sym, refl, ap, ◌∙◌, ap₂, mod-eq_of_lt, mul-le-mul, mul-pos, arith, pow_mono, w64, SFits, to_z, of_z}
use native.Mathlib.Nat.{one-le-pow}
use borrow.Author.Differences.{fits_in}
use Rattle.std.proofs.lemmas.Int.{to_z-of_z}
use Rattle.arith.specs.Rounding.{quot_up}
use Rattle.arith.proofs.Ring.{lin}
use Rattle.mapping.specs.Cells.{depth}
use Rattle.mapping.specs.Values.{degree}
use Rattle.mapping.specs.declared.mapping.Mapping.{Mapping}
use Rattle.mapping.specs.declared.cell.Cell.{Cell}
use Rattle.forms.specs.Bernstein.{bernstein}
use Rattle.forms.specs.Stages.{bends}
use Rattle.forms.specs.Tables.{loss, slack}
use Rattle.forms.proofs.Between.{loss_between}
use Rattle.forms.specs.Extra.{pow_pow}

-- ---- the divisor

module _ (n d : ℕ) (low : n ≤ 7) (shallow : d ≤ 10) where
  pub divisor_is : (2 * n * 2 ^ (2 * d)) % 2 ^ 64 ≡ 2 * n * 4 ^ d
  divisor_is =
      let e : 2 * d ≡ d * 2 = omega arith in
      let l : 2 * d ≤ 20 = omega arith in
      let k : 2 * n ≤ 14 = omega arith in
      let p : 2 ^ (2 * d) ≤ 2 ^ 20 = pow_mono l in
      let most : 2 * n * 2 ^ (2 * d) ≤ 14 * 2 ^ 20 = mul-le-mul k p in
      let fits : 2 * n * 2 ^ (2 * d) < 2 ^ 64 = omega arith in
      mod-eq_of_lt fits ∙ ap (λ x. 2 * n * 2 ^ x) e ∙ ap (λ x. 2 * n * x) (sym (pow_pow 2 2 d))

  -- ---- bounds

  pub loss_most : (S : ℤ) → pos 0 ≤ℤ S → S ≤ℤ pos (2 ^ 43) → (pos 0 ≤ℤ loss n d S) × (loss n d S ≤ℤ pos (2 ^ 44))
  loss_most S least most =
      let b = loss_between n d S least in
      let lo : pos 0 ≤ℤ loss n d S = b.from in
      let hi : loss n d S ≤ℤ (pos (n * d) +ℤ S) = b.to in
      let p : n * d ≤ 70 = mul-le-mul low shallow in
      omega (arith, lin)

  pub loss_fits : (S : ℤ) → pos 0 ≤ℤ S → S ≤ℤ pos (2 ^ 43) → SFits w64 (loss n d S)
  loss_fits S least most =
      let b = loss_most S least most in
      let lo : pos 0 ≤ℤ loss n d S = b.0 in
      let hi : loss n d S ≤ℤ pos (2 ^ 44) = b.1 in
      omega (arith, lin, fits_in)

-- ---- the two cases

pub loss_none : (n d : ℕ) (S : ℤ) → 2 * n * 4 ^ d ≡ 0 → pos 0 ≡ loss n d S
unfolding loss
loss_none zero d S e = refl
loss_none (suc n) d S e =
    let two : 0 < 2 * suc n = omega arith in
    let h : 0 < 2 * suc n * 4 ^ d = mul-pos two (one-le-pow d 4 (omega arith)) in
    absurd (omega arith)

loss_some : (n d : ℕ) (S : ℤ) → 0 < 2 * n * 4 ^ d → quot_up (pos (n * d)) 2 +ℤ quot_up S (2 * n * 4 ^ d) ≡ loss n d S
unfolding loss
loss_some zero d S h = absurd (omega arith)
loss_some (suc n) d S h = refl

pub loss_word : (n d D s : ℕ) (x y : ℤ) → D ≡ 2 * n * 4 ^ d → 0 < D → SFits w64 x → SFits w64 y
    → x ≡ quot_up (pos (n * d)) 2 → y ≡ quot_up (pos s) D → to_z w64 (of_z w64 x) +ℤ to_z w64 (of_z w64 y) ≡ loss n d (pos s)
loss_word n d D s x y e D0 fx fy half bent =
    ap₂ ◌+ℤ◌ (to_z-of_z w64 x fx ∙ half) (to_z-of_z w64 y fy ∙ bent ∙ ap (quot_up (pos s)) e)
    ∙ loss_some n d (pos s) (omega arith)

-- ---- the sum of three

pub slack_word : (x y z : ℤ) → pos 0 ≤ℤ x → x ≤ℤ pos (2 ^ 44) → pos 0 ≤ℤ y → y ≤ℤ pos (2 ^ 44) → pos 0 ≤ℤ z → z ≤ℤ pos (2 ^ 44)
    → to_z w64 (of_z w64 (pos 1 +ℤ to_z w64 (of_z w64 (to_z w64 (of_z w64 x) +ℤ to_z w64 (of_z w64 (to_z w64 (of_z w64 y) +ℤ to_z w64 (of_z w64 z)))))))
    ≡ pos 1 +ℤ (x +ℤ (y +ℤ z))
slack_word x y z xl xm yl ym zl zm =
    let fx : SFits w64 x = omega (arith, lin, fits_in) in
    let fy : SFits w64 y = omega (arith, lin, fits_in) in
    let fz : SFits w64 z = omega (arith, lin, fits_in) in
    let fyz : SFits w64 (y +ℤ z) = omega (arith, lin, fits_in) in
    let fxyz : SFits w64 (x +ℤ (y +ℤ z)) = omega (arith, lin, fits_in) in
    let all : SFits w64 (pos 1 +ℤ (x +ℤ (y +ℤ z))) = omega (arith, lin, fits_in) in
    simp to_z-of_z

pub slack_is : (m : Mapping) (c : Cell) (x y z : ℤ) → x ≡ loss (degree m 0) (depth c.shape 0) (bends m 0) → y ≡ loss (degree m 1) (depth c.shape 1) (bends m 1)
    → z ≡ loss (degree m 2) (depth c.shape 2) (bends m 2) → pos 1 +ℤ (x +ℤ (y +ℤ z)) ≡ (bernstein m c).slack
unfolding bernstein slack
slack_is m c x y z e f g = ap₂ (λ a b. pos 1 +ℤ (a +ℤ b)) e (ap₂ ◌+ℤ◌ f g)
