-- The product of an enclosure by a factor. What is said of the high end follows from the low end of the negated enclosure.
-- Assumes nothing.
use Rattle.std.proofs.Common.{◌≡◌, ℕ, ◌+◌, ◌*◌, ◌^◌, ◌≤◌, ℤ, pos, ◌+ℤ◌, ◌-ℤ◌, ◌*ℤ◌, neg_ℤ, ◌≤ℤ◌, sym, ap, ◌∙◌, inl, inr, mul-le-mul_left, arith, pow_pos}
use native.Mathlib.Decide.{dec_le}
use lib.IntN.{*ℤ_comm}
use Rattle.std.specs.Int.{int_min, int_max}
use Rattle.std.proofs.lemmas.Int.{clamps}
use Rattle.arith.specs.Rounding.{quot_down, quot_up}
use Rattle.arith.specs.Product.{low_times, high_times, Tame, Encloses, BoundKept, WidthBounded, Laws}
use Rattle.arith.proofs.Ring.{lin, ring, *ℤ-assoc, *ℤ-neg, neg-*ℤ, mul_diff, diff_mul, mul_next}
use Rattle.arith.proofs.Order.{le_trans, le_eq, total, neg_le, mul-le, mul_le_right, mul_le_by, mul_le_turned, mul_le_cancel}
use Rattle.arith.proofs.Quotients.{down_below, down_above, down_greatest, up_below, up_neg}

-- ---- the high end is the low end of the negated enclosure
max_neg : (x y : ℤ) → int_max x y ≡ neg_ℤ (int_min (neg_ℤ x) (neg_ℤ y))
max_neg x y = omega (arith, lin, clamps)

pub high_is_low : (r : ℤ) (e f d : ℕ) → high_times r e f d ≡ neg_ℤ (low_times (neg_ℤ r) e f d)
unfolding low_times high_times
high_is_low r e f d =
    let m = max_neg (r *ℤ pos e) (r *ℤ pos f) in
    let s : neg_ℤ (int_min (neg_ℤ r *ℤ pos e) (neg_ℤ r *ℤ pos f)) ≡ neg_ℤ (int_min (neg_ℤ (r *ℤ pos e)) (neg_ℤ (r *ℤ pos f))) = rw (neg-*ℤ r (pos e), neg-*ℤ r (pos f)) in
    ap (λ w. quot_up w (2 ^ d)) (m ∙ sym s) ∙ up_neg (int_min (neg_ℤ r *ℤ pos e) (neg_ℤ r *ℤ pos f)) (2 ^ d)

-- ---- the numerator that gives the low end, by the sign of the end
module _ (p : ℤ) (e f d : ℕ) (ordered : e ≤ f) where
  pub low_by_high : p ≤ℤ pos 0 → quot_down (p *ℤ pos f) (2 ^ d) ≡ low_times p e f d
  unfolding low_times
  low_by_high h =
      let least : (p *ℤ pos f) ≤ℤ (p *ℤ pos e) = mul_le_turned p h (omega (arith, lin)) in
      ap (λ w. quot_down w (2 ^ d)) (omega (arith, lin, clamps))

  pub low_by_low : pos 0 ≤ℤ p → quot_down (p *ℤ pos e) (2 ^ d) ≡ low_times p e f d
  unfolding low_times
  low_by_low h =
      let least : (p *ℤ pos e) ≤ℤ (p *ℤ pos f) = mul_le_by p h (omega (arith, lin)) in
      ap (λ w. quot_down w (2 ^ d)) (omega (arith, lin, clamps))

-- ---- at a factor of one number
pub low_at : (p : ℤ) (e d : ℕ) → low_times p e e d ≡ quot_down (p *ℤ pos e) (2 ^ d)
unfolding low_times
low_at p e d = ap (λ w. quot_down w (2 ^ d)) (omega (arith, lin, clamps))

pub high_at : (r : ℤ) (e d : ℕ) → high_times r e e d ≡ quot_up (r *ℤ pos e) (2 ^ d)
unfolding high_times
high_at r e d = ap (λ w. quot_up w (2 ^ d)) (omega (arith, lin, clamps))

-- ---- the low end, times 2^d, against the products
module _ (p : ℤ) (e f d : ℕ) where
  pub low_below : ((pos (2 ^ d) *ℤ low_times p e f d) ≤ℤ (p *ℤ pos e)) × ((pos (2 ^ d) *ℤ low_times p e f d) ≤ℤ (p *ℤ pos f))
  unfolding low_times
  low_below =
      let x = int_min (p *ℤ pos e) (p *ℤ pos f) in
      let b : (pos (2 ^ d) *ℤ quot_down x (2 ^ d)) ≤ℤ x = down_below (2 ^ d) (pow_pos d) x in
      omega (arith, lin, clamps)

  pub low_greatest : (c : ℤ) → (pos (2 ^ d) *ℤ c) ≤ℤ (p *ℤ pos e) → (pos (2 ^ d) *ℤ c) ≤ℤ (p *ℤ pos f) → c ≤ℤ low_times p e f d
  unfolding low_times
  low_greatest c h k = down_greatest (2 ^ d) (pow_pos d) (int_min (p *ℤ pos e) (p *ℤ pos f)) c (omega (arith, lin, clamps))

-- ---- the order of the ends
pub low_mono : (p q : ℤ) (e f d : ℕ) → p ≤ℤ q → low_times p e f d ≤ℤ low_times q e f d
low_mono p q e f d h =
    let b = low_below p e f d in
    low_greatest q e f d (low_times p e f d) (le_trans b.0 (mul_le_right e h)) (le_trans b.1 (mul_le_right f h))

pub high_mono : (r s : ℤ) (e f d : ℕ) → r ≤ℤ s → high_times r e f d ≤ℤ high_times s e f d
high_mono r s e f d h =
    rw (high_is_low r e f d, high_is_low s e f d) (neg_le (low_mono (neg_ℤ s) (neg_ℤ r) e f d (neg_le h)))

pub low_le_high : (p r : ℤ) (e f d : ℕ) → p ≤ℤ r → low_times p e f d ≤ℤ high_times r e f d
low_le_high p r e f d h =
    let b : (pos (2 ^ d) *ℤ low_times p e f d) ≤ℤ (p *ℤ pos e) = (low_below p e f d).0 in
    let s : (p *ℤ pos e) ≤ℤ (r *ℤ pos e) = mul_le_right e h in
    let n : (pos (2 ^ d) *ℤ low_times (neg_ℤ r) e f d) ≤ℤ (neg_ℤ r *ℤ pos e) = (low_below (neg_ℤ r) e f d).0 in
    let i : neg_ℤ r *ℤ pos e ≡ neg_ℤ (r *ℤ pos e) = neg-*ℤ r (pos e) in
    let q = low_times (neg_ℤ r) e f d in
    let j : pos (2 ^ d) *ℤ neg_ℤ q ≡ neg_ℤ (pos (2 ^ d) *ℤ q) = *ℤ-neg (pos (2 ^ d)) q in
    rw (high_is_low r e f d) (mul_le_cancel (2 ^ d) (pow_pos d) (omega (arith, lin)))

-- ---- encloses
scaled_low : (m q D W : ℤ) → m *ℤ (q *ℤ (W *ℤ D)) ≡ ((m *ℤ q) *ℤ D) *ℤ W
scaled_low m q D W = simp ring

scaled_end : (m p u W : ℤ) → m *ℤ ((p *ℤ W) *ℤ u) ≡ (p *ℤ (u *ℤ m)) *ℤ W
scaled_end m p u W = simp ring

-- the low end against a number u / D of the factor
low_by : (p : ℤ) (e f d D u : ℕ) → e * D ≤ u * 2 ^ d → u * 2 ^ d ≤ f * D → ((pos (2 ^ d) *ℤ low_times p e f d) *ℤ pos D) ≤ℤ (p *ℤ pos (u * 2 ^ d))
low_by p e f d D u h k =
    let b = low_below p e f d in
    elim (total (pos 0) p) [
      | inl s ↦
          let a : (p *ℤ pos (e * D)) ≤ℤ (p *ℤ pos (u * 2 ^ d)) = mul_le_by p s (omega (arith, lin)) in
          le_trans (mul_le_right D b.0) (le_trans (le_eq (*ℤ-assoc p (pos e) (pos D))) a)
      | inr s ↦
          let a : (p *ℤ pos (f * D)) ≤ℤ (p *ℤ pos (u * 2 ^ d)) = mul_le_turned p s (omega (arith, lin)) in
          le_trans (mul_le_right D b.1) (le_trans (le_eq (*ℤ-assoc p (pos f) (pos D))) a)
    ]

pub low_encloses : (p : ℤ) (e f d W D u : ℕ) (X : ℤ) → (p *ℤ pos W) ≤ℤ X → e * D ≤ u * 2 ^ d → u * 2 ^ d ≤ f * D → (low_times p e f d *ℤ pos (W * D)) ≤ℤ (X *ℤ pos u)
low_encloses p e f d W D u X x h k =
    let q = low_times p e f d in
    let a : (((pos (2 ^ d) *ℤ q) *ℤ pos D) *ℤ pos W) ≤ℤ ((p *ℤ pos (u * 2 ^ d)) *ℤ pos W) = mul_le_right W (low_by p e f d D u h k) in
    let b : (pos (2 ^ d) *ℤ ((p *ℤ pos W) *ℤ pos u)) ≤ℤ (pos (2 ^ d) *ℤ (X *ℤ pos u)) = mul-le (2 ^ d) (mul_le_right u x) in
    let i : pos (2 ^ d) *ℤ (q *ℤ pos (W * D)) ≡ ((pos (2 ^ d) *ℤ q) *ℤ pos D) *ℤ pos W = scaled_low (pos (2 ^ d)) q (pos D) (pos W) in
    let j : pos (2 ^ d) *ℤ ((p *ℤ pos W) *ℤ pos u) ≡ (p *ℤ pos (u * 2 ^ d)) *ℤ pos W = scaled_end (pos (2 ^ d)) p (pos u) (pos W) in
    mul_le_cancel (2 ^ d) (pow_pos d) (le_trans (le_eq i) (le_trans a (le_trans (le_eq (sym j)) b)))

pub high_encloses : (r : ℤ) (e f d W D u : ℕ) (X : ℤ) → X ≤ℤ (r *ℤ pos W) → e * D ≤ u * 2 ^ d → u * 2 ^ d ≤ f * D → (X *ℤ pos u) ≤ℤ (high_times r e f d *ℤ pos (W * D))
high_encloses r e f d W D u X x h k =
    let q = low_times (neg_ℤ r) e f d in
    let i : neg_ℤ r *ℤ pos W ≡ neg_ℤ (r *ℤ pos W) = neg-*ℤ r (pos W) in
    let l : (q *ℤ pos (W * D)) ≤ℤ (neg_ℤ X *ℤ pos u) = low_encloses (neg_ℤ r) e f d W D u (neg_ℤ X) (omega (arith, lin)) h k in
    let j : neg_ℤ X *ℤ pos u ≡ neg_ℤ (X *ℤ pos u) = neg-*ℤ X (pos u) in
    let n : neg_ℤ q *ℤ pos (W * D) ≡ neg_ℤ (q *ℤ pos (W * D)) = neg-*ℤ q (pos (W * D)) in
    rw (high_is_low r e f d) (omega (arith, lin))

pub encloses : (e f d : ℕ) → Encloses e f d
encloses e f d p r X W D u l g h k = (low_encloses p e f d W D u X l h k, high_encloses r e f d W D u X g h k)

-- ---- keeps a bound
pub low_kept : (p : ℤ) (e f d : ℕ) → e ≤ 2 ^ d → f ≤ 2 ^ d → BoundKept p (low_times p e f d)
low_kept p e f d h k A = (
  λ (l : neg_ℤ (pos A) ≤ℤ p). low_greatest p e f d (neg_ℤ (pos A)) (under l e h) (under l f k),
  λ (g : p ≤ℤ pos A).
      let b : (pos (2 ^ d) *ℤ low_times p e f d) ≤ℤ (p *ℤ pos e) = (low_below p e f d).0 in
      let s : (p *ℤ pos e) ≤ℤ (pos A *ℤ pos e) = mul_le_right e g in
      let t : A * e ≤ A * 2 ^ d = mul-le-mul_left A h in
      let i : pos (2 ^ d) *ℤ pos A ≡ pos (A * 2 ^ d) = *ℤ_comm (pos (2 ^ d)) (pos A) in
      mul_le_cancel (2 ^ d) (pow_pos d) (omega (arith, lin)),
)
  where
    under : neg_ℤ (pos A) ≤ℤ p → (n : ℕ) → n ≤ 2 ^ d → (pos (2 ^ d) *ℤ neg_ℤ (pos A)) ≤ℤ (p *ℤ pos n)
    under l n b =
        let s : (neg_ℤ (pos A) *ℤ pos n) ≤ℤ (p *ℤ pos n) = mul_le_right n l in
        let i : neg_ℤ (pos A) *ℤ pos n ≡ neg_ℤ (pos (A * n)) = neg-*ℤ (pos A) (pos n) in
        let j : pos (2 ^ d) *ℤ neg_ℤ (pos A) ≡ neg_ℤ (pos (A * 2 ^ d)) = *ℤ_comm (pos (2 ^ d)) (neg_ℤ (pos A)) ∙ neg-*ℤ (pos A) (pos (2 ^ d)) in
        let t : A * n ≤ A * 2 ^ d = mul-le-mul_left A b in
        omega (arith, lin)

pub high_kept : (r : ℤ) (e f d : ℕ) → e ≤ 2 ^ d → f ≤ 2 ^ d → BoundKept r (high_times r e f d)
high_kept r e f d h k A =
    let l = low_kept (neg_ℤ r) e f d h k A in
    rw (high_is_low r e f d) (
      λ (g : neg_ℤ (pos A) ≤ℤ r). let b : low_times (neg_ℤ r) e f d ≤ℤ pos A = l.1 (omega (arith, lin)) in omega (arith, lin),
      λ (g : r ≤ℤ pos A). let b : neg_ℤ (pos A) ≤ℤ low_times (neg_ℤ r) e f d = l.0 (omega (arith, lin)) in omega (arith, lin),
    )

pub kept_tame : (z z' : ℤ) → BoundKept z z' → Tame z → Tame z'
kept_tame z z' k t = ((k (2 ^ 47)).0 t.0, (k (2 ^ 47)).1 t.1)

-- ---- the width
-- before the division: by e and by f the products are the same, or the end itself apart
spread : (p r : ℤ) (e f m A : ℕ) → e ≤ f → f ≤ m → p ≤ℤ r → f ≤ e + 1 → p ≤ℤ pos A → neg_ℤ (pos A) ≤ℤ r →
    int_max (r *ℤ pos e) (r *ℤ pos f) ≤ℤ ((int_min (p *ℤ pos e) (p *ℤ pos f) +ℤ (pos m *ℤ (r -ℤ p))) +ℤ pos A)
spread p r e f m A h k o n a b =
    let s : ((r -ℤ p) *ℤ pos f) ≤ℤ ((r -ℤ p) *ℤ pos m) = mul_le_by (r -ℤ p) (omega (arith, lin)) (omega (arith, lin)) in
    let i : (r -ℤ p) *ℤ pos f ≡ (r *ℤ pos f) -ℤ (p *ℤ pos f) = diff_mul r p (pos f) in
    let j : (r -ℤ p) *ℤ pos m ≡ pos m *ℤ (r -ℤ p) = *ℤ_comm (r -ℤ p) (pos m) in
    elim (dec_le f e) [
      | yes l ↦
          let w : e ≡ f = omega arith in
          omega (arith, lin, clamps, ap (λ x. r *ℤ pos x) w, ap (λ x. p *ℤ pos x) w)
      | no g ↦
          let w : f ≡ e + 1 = omega arith in
          omega (arith, lin, clamps, ap (λ x. r *ℤ pos x) w ∙ mul_next r (pos e), ap (λ x. p *ℤ pos x) w ∙ mul_next p (pos e))
    ]

pub width_bounded : (e f d : ℕ) → e ≤ f → f ≤ 2 ^ d → WidthBounded e f d
unfolding low_times high_times
width_bounded e f d h k p r A o n a b =
    let x = int_min (p *ℤ pos e) (p *ℤ pos f) in
    let y = int_max (r *ℤ pos e) (r *ℤ pos f) in
    let s : y ≤ℤ ((x +ℤ (pos (2 ^ d) *ℤ (r -ℤ p))) +ℤ pos A) = spread p r e f (2 ^ d) A h k o n a b in
    let l : (x +ℤ pos 1) ≤ℤ ((pos (2 ^ d) *ℤ quot_down x (2 ^ d)) +ℤ pos (2 ^ d)) = down_above (2 ^ d) (pow_pos d) x in
    let u : ((pos (2 ^ d) *ℤ quot_up y (2 ^ d)) +ℤ pos 1) ≤ℤ (y +ℤ pos (2 ^ d)) = up_below (2 ^ d) (pow_pos d) y in
    omega (arith, lin, mul_diff (pos (2 ^ d)) (quot_up y (2 ^ d)) (quot_down x (2 ^ d)))

-- ---- all
pub laws : (e f d : ℕ) → e ≤ f → f ≤ 2 ^ d → Laws e f d
laws e f d h k =
    let within : e ≤ 2 ^ d = omega arith in
    record {
      encloses = encloses e f d;
      low_kept = λ p. low_kept p e f d within k;
      high_kept = λ r. high_kept r e f d within k;
      width = width_bounded e f d h k;
    }
