-- One row of enclosures, worked off by Horner's rule: the ends enclose the exact sum, keep a bound, and are not far apart.
-- Assumes nothing.
use Rattle.std.specs.Prelude.{◌≡◌, ℕ, zero, suc, ◌+◌, ◌-◌, ◌*◌, ◌^◌, ◌≤◌, ℤ, pos, ◌+ℤ◌, ◌-ℤ◌, ◌*ℤ◌, neg_ℤ, ◌≤ℤ◌, refl}
use Rattle.std.proofs.Common.{sym, ◌∙◌, pow-suc, one-mul, mul_assoc, suc-mul, zero-mul, add-mul}
use Rattle.std.proofs.Math.Path.{ap, ap₂, subst}
use Rattle.std.proofs.Math.Nat.{pow-zero, sub-zero, suc-sub-suc}
use native.Mathlib.Omega.{arith}
use Rattle.std.proofs.Math.IntN.{+ℤ_idl, +ℤ_idr, +ℤ_comm, zero-*ℤ, *ℤ-zero}
use Rattle.arith.specs.Product.{low_times, high_times, BoundKept}
use Rattle.arith.specs.Sums.{sum}
use Rattle.arith.proofs.Ring.{lin, ring, *ℤ-assoc, +ℤ-*ℤ, mul-one, suc-*ℤ}
use Rattle.arith.proofs.Order.{le_trans, le_eq, add_le, mul-le, mul_le_right, natural}
use Rattle.arith.proofs.Sums.{sum_none, sum_first, sum_last, sum_ext, sum_add, sum_scale_right}
use Rattle.arith.proofs.Products.{encloses, low_le_high, low_kept, high_kept, width_bounded}
use Rattle.mapping.specs.Polynomials.{share}
use Rattle.forms.specs.Nested.{horner}
use Rattle.forms.specs.Worked.{Within}

pub horner_none : (by : ℤ → ℤ) (r : ℕ → ℤ) → horner by 0 r ≡ r 0
unfolding horner
horner_none by r = refl

pub horner_more : (by : ℤ → ℤ) (n : ℕ) (r : ℕ → ℤ) → horner by (suc n) r ≡ by (horner by n (λ k. r (suc k))) +ℤ r 0
unfolding horner
horner_more by n r = refl

-- rows that agree up to n
pub horner_ext : (by : ℤ → ℤ) (n : ℕ) (r s : ℕ → ℤ) → ((k : ℕ) → k ≤ n → r k ≡ s k) → horner by n r ≡ horner by n s
unfolding horner
horner_ext by zero r s h = h 0 (omega arith)
horner_ext by (suc n) r s h =
    ap₂ (λ x y. by x +ℤ y) (horner_ext by n (λ k. r (suc k)) (λ k. s (suc k)) (λ k l. h (suc k) (omega arith))) (h 0 (omega arith))

sum_one : (f : ℕ → ℤ) → sum 1 f ≡ f 0
sum_one f = sum_last 0 f ∙ ap (λ x. x +ℤ f 0) (sum_none f) ∙ +ℤ_idl (f 0)

-- ---- the exact value of a row, at u/D, times D^n
unfoldable pub exact : ℕ → ℕ → ℕ → (ℕ → ℤ) → ℤ
exact u D n x = sum (suc n) (λ k. x k *ℤ pos (share n k u D))

share_first : (n u D : ℕ) → share n 0 u D ≡ D ^ n
share_first n u D = rw (pow-zero u, sub-zero n) (one-mul (D ^ n))

share_next : (n k u D : ℕ) → share (suc n) (suc k) u D ≡ share n k u D * u
share_next n k u D = rw (pow-suc u k, suc-sub-suc n k) (turned (u ^ k) (D ^ (n - k)))
  where
    turned : (a b : ℕ) → a * u * b ≡ a * b * u
    turned a b = omega arith

pub exact_none : (u D : ℕ) (x : ℕ → ℤ) → exact u D 0 x ≡ x 0
unfolding exact
exact_none u D x =
    sum_one (λ k. x k *ℤ pos (share 0 k u D)) ∙ ap (λ a. x 0 *ℤ pos a) (share_first 0 u D ∙ pow-zero D) ∙ mul-one (x 0)

pub exact_more : (u D n : ℕ) (x : ℕ → ℤ) → exact u D (suc n) x ≡ (exact u D n (λ k. x (suc k)) *ℤ pos u) +ℤ (x 0 *ℤ pos (D ^ suc n))
unfolding exact
exact_more u D n x =
    sum_first (suc n) (λ k. x k *ℤ pos (share (suc n) k u D))
    ∙ ap₂ ◌+ℤ◌ (ap (λ a. x 0 *ℤ pos a) (share_first (suc n) u D))
    (sum_ext (suc n) (λ k. x (suc k) *ℤ pos (share (suc n) (suc k) u D)) (λ k. (x (suc k) *ℤ pos (share n k u D)) *ℤ pos u)
    (λ k l. ap (λ a. x (suc k) *ℤ pos a) (share_next n k u D) ∙ sym (*ℤ-assoc (x (suc k)) (pos (share n k u D)) (pos u)))
    ∙ sum_scale_right (suc n) (pos u) (λ k. x (suc k) *ℤ pos (share n k u D)))
    ∙ +ℤ_comm (x 0 *ℤ pos (D ^ suc n)) (sum (suc n) (λ k. x (suc k) *ℤ pos (share n k u D)) *ℤ pos u)

-- ---- a bound of the numbers, times how many they are
pub horner_bounded : (by : ℤ → ℤ) → ((p : ℤ) → BoundKept p (by p)) → (B n : ℕ) (r : ℕ → ℤ)
    → ((k : ℕ) → k ≤ n → Within B (r k)) → Within (suc n * B) (horner by n r)
unfolding horner
horner_bounded by kept B zero r h = omega (arith, lin, h 0 (omega arith))
horner_bounded by kept B (suc n) r h =
    let b = horner_bounded by kept B n (λ k. r (suc k)) (λ k l. h (suc k) (omega arith)) in
    let k = kept (horner by n (λ k. r (suc k))) (suc n * B) in
    let low : neg_ℤ (pos (suc n * B)) ≤ℤ by (horner by n (λ k. r (suc k))) = k.0 b.0 in
    let high : by (horner by n (λ k. r (suc k))) ≤ℤ pos (suc n * B) = k.1 b.1 in
    let more : suc (suc n) * B ≡ suc n * B + B = suc-mul (suc n) B in
    omega (arith, lin, h 0 (omega arith))

-- ---- the width: an enclosure from l to h, at most a from 0, and its width times c, at most t
abbrev pub Span : (c : ℕ) (l h a t : ℤ) → Type 0
Span c l h a t = (l ≤ℤ h) × (pos 0 ≤ℤ a) × (l ≤ℤ a) × (neg_ℤ a ≤ℤ h) × ((pos c *ℤ (h -ℤ l)) ≤ℤ t)

-- what a row's width is at most, times m × c, where m is the factor's denominator
abbrev pub spread : (c m n : ℕ) (a t : ℕ → ℤ) → ℤ
spread c m n a t = (pos m *ℤ sum (suc n) t) +ℤ (pos c *ℤ (sum (suc n) (λ k. pos k *ℤ a k) +ℤ pos (2 * n * m)))

twice_more : (n m : ℕ) → 2 * suc n * m ≡ 2 * n * m + 2 * m
twice_more n m = ap (λ x. x * m) (omega arith) ∙ add-mul (2 * n) 2 m

-- of a sum weighed by the index the first number counts nothing, and each other one once more than without the first
weighed_first : (n : ℕ) (a : ℕ → ℤ) → sum (suc (suc n)) (λ k. pos k *ℤ a k) ≡ sum (suc n) (λ k. pos k *ℤ a (suc k)) +ℤ sum (suc n) (λ k. a (suc k))
weighed_first n a =
    sum_first (suc n) (λ k. pos k *ℤ a k)
    ∙ ap₂ ◌+ℤ◌ (zero-*ℤ (a 0)) (sum_ext (suc n) (λ k. pos (suc k) *ℤ a (suc k)) (λ k. (pos k *ℤ a (suc k)) +ℤ a (suc k)) (λ k l. suc-*ℤ k (a (suc k))))
    ∙ +ℤ_idl (sum (suc n) (λ k. (pos k *ℤ a (suc k)) +ℤ a (suc k)))
    ∙ sum_add (suc n) (λ k. pos k *ℤ a (suc k)) (λ k. a (suc k))

widths_left : (m c y w : ℤ) → (m *ℤ c) *ℤ (y +ℤ w) ≡ (c *ℤ (m *ℤ y)) +ℤ (m *ℤ (c *ℤ w))
widths_left m c y w = simp ring

widths_mid : (m c x A N : ℤ) → c *ℤ ((m *ℤ x) +ℤ (A +ℤ N)) ≡ ((m *ℤ c) *ℤ x) +ℤ ((c *ℤ A) +ℤ (c *ℤ N))
widths_mid m c x A N = simp ring

widths_right : (m c t T M A N N' : ℤ) → (m *ℤ (t +ℤ T)) +ℤ (c *ℤ ((M +ℤ A) +ℤ (N +ℤ N'))) ≡ ((m *ℤ t) +ℤ ((m *ℤ T) +ℤ (c *ℤ (M +ℤ N)))) +ℤ ((c *ℤ A) +ℤ (c *ℤ N'))
widths_right m c t T M A N N' = simp ring

apart : (a b c d : ℤ) → (a +ℤ b) -ℤ (c +ℤ d) ≡ (a -ℤ c) +ℤ (b -ℤ d)
apart a b c d = omega (arith, lin)

-- one product and one number more
width_step : (m c n : ℕ) (y x w t T A M : ℤ)
    → (pos m *ℤ y) ≤ℤ ((pos m *ℤ x) +ℤ (A +ℤ pos (2 * m)))
    → (pos (m * c) *ℤ x) ≤ℤ ((pos m *ℤ T) +ℤ (pos c *ℤ (M +ℤ pos (2 * n * m))))
    → (pos c *ℤ w) ≤ℤ t
    → (pos (m * c) *ℤ (y +ℤ w)) ≤ℤ ((pos m *ℤ (t +ℤ T)) +ℤ (pos c *ℤ ((M +ℤ A) +ℤ pos (2 * n * m + 2 * m))))
width_step m c n y x w t T A M p q s =
    let a : (pos c *ℤ (pos m *ℤ y)) ≤ℤ (pos c *ℤ ((pos m *ℤ x) +ℤ (A +ℤ pos (2 * m)))) = mul-le c p in
    let b : (pos m *ℤ (pos c *ℤ w)) ≤ℤ (pos m *ℤ t) = mul-le m s in
    let i = widths_left (pos m) (pos c) y w in
    let j = widths_mid (pos m) (pos c) x A (pos (2 * m)) in
    let k = widths_right (pos m) (pos c) t T M A (pos (2 * n * m)) (pos (2 * m)) in
    omega (arith, lin)

-- ---- the row by a factor from e/2^d to f/2^d
joined : (a b : ℤ) (W D n : ℕ) → (a +ℤ b) *ℤ pos (W * D ^ suc n) ≡ (a *ℤ pos (W * D ^ n * D)) +ℤ ((b *ℤ pos W) *ℤ pos (D ^ suc n))
joined a b W D n =
    +ℤ-*ℤ a b (pos (W * D ^ suc n))
    ∙ ap₂ ◌+ℤ◌ (ap (λ x. a *ℤ pos x) (ap (λ x. W * x) (pow-suc D n) ∙ sym (mul_assoc W (D ^ n) D))) (sym (*ℤ-assoc b (pos W) (pos (D ^ suc n))))

-- x / W lies between l and h
abbrev pub Between : (W : ℕ) (l h x : ℤ) → Type 0
Between W l h x = ((l *ℤ pos W) ≤ℤ x) × (x ≤ℤ (h *ℤ pos W))

module _ (e f d : ℕ) where
  abbrev pub low : ℤ → ℤ
  low p = low_times p e f d

  abbrev pub high : ℤ → ℤ
  high r = high_times r e f d

  pub row_encloses : (u D W : ℕ) → e * D ≤ u * 2 ^ d → u * 2 ^ d ≤ f * D → (n : ℕ) (l h x : ℕ → ℤ) → ((k : ℕ) → Between W (l k) (h k) (x k)) →
      Between (W * D ^ n) (horner low n l) (horner high n h) (exact u D n x)
  unfolding horner
  row_encloses u D W from to zero l h x b =
      let one : W * D ^ 0 ≡ W = ap (λ a. W * a) (pow-zero D) ∙ omega arith in
      rw (one, exact_none u D x) (b 0)
  row_encloses u D W from to (suc n) l h x b =
      let l' : ℕ → ℤ = λ k. l (suc k) in
      let h' : ℕ → ℤ = λ k. h (suc k) in
      let x' : ℕ → ℤ = λ k. x (suc k) in
      let ih = row_encloses u D W from to n l' h' x' (λ k. b (suc k)) in
      let p = encloses e f d (horner low n l') (horner high n h') (exact u D n x') (W * D ^ n) D u ih.0 ih.1 from to in
      let i = joined (low (horner low n l')) (l 0) W D n in
      let j = joined (high (horner high n h')) (h 0) W D n in
      rw (exact_more u D n x) (
        le_trans (le_eq i) (add_le p.0 (mul_le_right (D ^ suc n) (b 0).0)),
        le_trans (add_le p.1 (mul_le_right (D ^ suc n) (b 0).1)) (le_eq (sym j)),
      )

  module _ (ordered : e ≤ f) (within : f ≤ 2 ^ d) (close : f ≤ e + 1) where
    -- the product of an enclosure that is at most a from 0
    product_span : (p r : ℤ) (a : ℕ) → p ≤ℤ r → p ≤ℤ pos a → neg_ℤ (pos a) ≤ℤ r
        → (low p ≤ℤ high r) × (low p ≤ℤ pos a) × (neg_ℤ (pos a) ≤ℤ high r)
        × ((pos (2 ^ d) *ℤ (high r -ℤ low p)) ≤ℤ ((pos (2 ^ d) *ℤ (r -ℤ p)) +ℤ pos (a + 2 * 2 ^ d)))
    product_span p r a o x y =
        (low_le_high p r e f d o, (low_kept p e f d (omega arith) within a).1 x, (high_kept r e f d (omega arith) within a).0 y, width_bounded e f d ordered within p r a o close x y)

    -- one product and one number more, where the row so far is at most k from 0
    row_step : (c n k : ℕ) (L H T M l h a t : ℤ)
        → Span (2 ^ d * c) L H (pos k) ((pos (2 ^ d) *ℤ T) +ℤ (pos c *ℤ (M +ℤ pos (2 * n * 2 ^ d))))
        → Span c l h a t
        → Span (2 ^ d * c) (low L +ℤ l) (high H +ℤ h) (a +ℤ pos k) ((pos (2 ^ d) *ℤ (t +ℤ T)) +ℤ (pos c *ℤ ((M +ℤ pos k) +ℤ pos (2 * n * 2 ^ d + 2 * 2 ^ d))))
    row_step c n k L H T M l h a t s b =
        let p = product_span L H k s.0 s.2 s.3 in
        let w = width_step (2 ^ d) c n (high H -ℤ low L) (H -ℤ L) (h -ℤ l) t T (pos k) M p.3 s.4 b.4 in
        let i : (high H +ℤ h) -ℤ (low L +ℤ l) ≡ (high H -ℤ low L) +ℤ (h -ℤ l) = apart (high H) h (low L) l in
        (add_le p.0 b.0, omega (arith, lin, b.1), omega (arith, lin, p.1, b.2), omega (arith, lin, p.2, b.3), rw i w)

    pub row_span : (c n : ℕ) (l h a t : ℕ → ℤ) → ((k : ℕ) → Span c (l k) (h k) (a k) (t k))
        → Span (2 ^ d * c) (horner low n l) (horner high n h) (sum (suc n) a) (spread c (2 ^ d) n a t)
    unfolding horner
    row_span c zero l h a t b =
        let w : (pos (2 ^ d) *ℤ (pos c *ℤ (h 0 -ℤ l 0))) ≤ℤ (pos (2 ^ d) *ℤ t 0) = mul-le (2 ^ d) (b 0).4 in
        let i : pos (2 ^ d * c) *ℤ (h 0 -ℤ l 0) ≡ pos (2 ^ d) *ℤ (pos c *ℤ (h 0 -ℤ l 0)) = *ℤ-assoc (pos (2 ^ d)) (pos c) (h 0 -ℤ l 0) in
        let none : pos (2 * 0 * 2 ^ d) ≡ pos 0 = ap pos (zero-mul (2 ^ d)) in
        let z : sum 1 (λ k. pos k *ℤ a k) +ℤ pos (2 * 0 * 2 ^ d) ≡ pos 0 = ap₂ ◌+ℤ◌ (sum_one (λ k. pos k *ℤ a k) ∙ zero-*ℤ (a 0)) none in
        let s : spread c (2 ^ d) 0 a t ≡ pos (2 ^ d) *ℤ t 0 = ap₂ ◌+ℤ◌ (ap (λ x. pos (2 ^ d) *ℤ x) (sum_one t)) (ap (λ x. pos c *ℤ x) z ∙ *ℤ-zero (pos c)) ∙ +ℤ_idr (pos (2 ^ d) *ℤ t 0) in
        rw (sum_one a) ((b 0).0, (b 0).1, (b 0).2, (b 0).3, le_trans (le_eq i) (le_trans w (le_eq (sym s))))
    row_span c (suc n) l h a t b =
        let l' : ℕ → ℤ = λ k. l (suc k) in
        let h' : ℕ → ℤ = λ k. h (suc k) in
        let a' : ℕ → ℤ = λ k. a (suc k) in
        let t' : ℕ → ℤ = λ k. t (suc k) in
        let ih = row_span c n l' h' a' t' (λ k. b (suc k)) in
        let k = natural (sum (suc n) a') ih.1 in
        let M = sum (suc n) (λ k. pos k *ℤ a' k) in
        let T = sum (suc n) t' in
        let P : ℤ → Type 0 = λ A. Span (2 ^ d * c) (horner low n l') (horner high n h') A (spread c (2 ^ d) n a' t')
        → Span (2 ^ d * c) (low (horner low n l') +ℤ l 0) (high (horner high n h') +ℤ h 0) (a 0 +ℤ A) ((pos (2 ^ d) *ℤ (t 0 +ℤ T)) +ℤ (pos c *ℤ ((M +ℤ A) +ℤ pos (2 * n * 2 ^ d + 2 * 2 ^ d)))) in
        let s = subst P (sym k.1) (λ s. row_step c n k.0 (horner low n l') (horner high n h') T M (l 0) (h 0) (a 0) (t 0) s (b 0)) ih in
        let i : 2 * suc n * 2 ^ d ≡ 2 * n * 2 ^ d + 2 * 2 ^ d = twice_more n (2 ^ d) in
        rw (sum_first (suc n) a, sum_first (suc n) t, weighed_first n a, i) s
