-- Finite sums: their terms, their ranges, and a flat index taken apart. Assumes nothing.
use Rattle.std.proofs.Common.{◌≡◌, ℕ, zero, suc, ◌+◌, ◌-◌, ◌*◌, ◌<◌, ◌≤◌, ℤ, pos, ◌+ℤ◌, ◌*ℤ◌, neg_ℤ, ◌≤ℤ◌, sym, refl, ap, ◌∙◌, ap₂, add-zero, add-suc, suc-mul, zero-mul, arith}
use lib.IntN.{+ℤ_assoc, +ℤ_idl, +ℤ_idr, *ℤ-zero, zero-*ℤ, neg_ℤ-+ℤ}
use lib.Signed.{≤ℤ_refl}
use Rattle.arith.specs.Sums.{sum}
use Rattle.arith.proofs.Ring.{lin, ring, *ℤ-+ℤ, +ℤ-*ℤ, suc-*ℤ}
use Rattle.arith.proofs.Order.{add_le}

pub sum_none : (f : ℕ → ℤ) → sum 0 f ≡ pos 0
unfolding sum
sum_none f = refl

-- the last term apart
pub sum_last : (n : ℕ) (f : ℕ → ℤ) → sum (suc n) f ≡ sum n f +ℤ f n
unfolding sum
sum_last n f = refl

-- terms that agree below n
pub sum_ext : (n : ℕ) (f g : ℕ → ℤ) → ((k : ℕ) → k < n → f k ≡ g k) → sum n f ≡ sum n g
unfolding sum
sum_ext zero f g h = refl
sum_ext (suc n) f g h = ap₂ ◌+ℤ◌ (sum_ext n f g (λ k l. h k (omega arith))) (h n (omega arith))

pub sum_zero : (n : ℕ) (f : ℕ → ℤ) → ((k : ℕ) → k < n → f k ≡ pos 0) → sum n f ≡ pos 0
unfolding sum
sum_zero zero f h = refl
sum_zero (suc n) f h = ap₂ ◌+ℤ◌ (sum_zero n f (λ k l. h k (omega arith))) (h n (omega arith))

pub sum_add : (n : ℕ) (f g : ℕ → ℤ) → sum n (λ k. f k +ℤ g k) ≡ sum n f +ℤ sum n g
unfolding sum
sum_add zero f g = refl
sum_add (suc n) f g = rw (sum_add n f g) (simp ring)

pub sum_scale : (n : ℕ) (c : ℤ) (f : ℕ → ℤ) → sum n (λ k. c *ℤ f k) ≡ c *ℤ sum n f
unfolding sum
sum_scale zero c f = sym (*ℤ-zero c)
sum_scale (suc n) c f = rw (sum_scale n c f) (sym (*ℤ-+ℤ c (sum n f) (f n)))

pub sum_scale_right : (n : ℕ) (c : ℤ) (f : ℕ → ℤ) → sum n (λ k. f k *ℤ c) ≡ sum n f *ℤ c
unfolding sum
sum_scale_right zero c f = sym (zero-*ℤ c)
sum_scale_right (suc n) c f = rw (sum_scale_right n c f) (sym (+ℤ-*ℤ (sum n f) (f n) c))

pub sum_neg : (n : ℕ) (f : ℕ → ℤ) → sum n (λ k. neg_ℤ (f k)) ≡ neg_ℤ (sum n f)
unfolding sum
sum_neg zero f = refl
sum_neg (suc n) f = rw (sum_neg n f) (sym (neg_ℤ-+ℤ (sum n f) (f n)))

pub sum_le : (n : ℕ) (f g : ℕ → ℤ) → ((k : ℕ) → k < n → f k ≤ℤ g k) → sum n f ≤ℤ sum n g
unfolding sum
sum_le zero f g h = ≤ℤ_refl (pos 0)
sum_le (suc n) f g h = add_le (sum_le n f g (λ k l. h k (omega arith))) (h n (omega arith))

pub sum_const : (n : ℕ) (c : ℤ) → sum n (λ _. c) ≡ pos n *ℤ c
unfolding sum
sum_const zero c = sym (zero-*ℤ c)
sum_const (suc n) c = ap (λ x. x +ℤ c) (sum_const n c) ∙ sym (suc-*ℤ n c)

pub sum_nonneg : (n : ℕ) (f : ℕ → ℤ) → ((k : ℕ) → k < n → pos 0 ≤ℤ f k) → pos 0 ≤ℤ sum n f
unfolding sum
sum_nonneg zero f h = ≤ℤ_refl (pos 0)
sum_nonneg (suc n) f h = add_le (sum_nonneg n f (λ k l. h k (omega arith))) (h n (omega arith))

-- every term between -c and c
pub sum_bound : (n c : ℕ) (f : ℕ → ℤ) → ((k : ℕ) → k < n → (neg_ℤ (pos c) ≤ℤ f k) × (f k ≤ℤ pos c)) → (neg_ℤ (pos (n * c)) ≤ℤ sum n f) × (sum n f ≤ℤ pos (n * c))
unfolding sum
sum_bound zero c f h = omega (arith, lin)
sum_bound (suc n) c f h =
    let m = sum_bound n c f (λ k l. h k (omega arith)) in
    let t = h n (omega arith) in
    let e : suc n * c ≡ n * c + c = suc-mul n c in
    omega (arith, lin)

pub sum_swap : (m n : ℕ) (f : ℕ → ℕ → ℤ) → sum m (λ i. sum n (λ j. f i j)) ≡ sum n (λ j. sum m (λ i. f i j))
unfolding sum
sum_swap zero n f = sym (sum_zero n (λ _. pos 0) (λ k l. refl))
sum_swap (suc m) n f =
    ap (λ x. x +ℤ sum n (λ j. f m j)) (sum_swap m n f) ∙ sym (sum_add n (λ j. sum m (λ i. f i j)) (λ j. f m j))

-- the first term apart
pub sum_first : (n : ℕ) (f : ℕ → ℤ) → sum (suc n) f ≡ f 0 +ℤ sum n (λ k. f (suc k))
unfolding sum
sum_first zero f = +ℤ_idl (f 0) ∙ sym (+ℤ_idr (f 0))
sum_first (suc n) f = ap (λ x. x +ℤ f (suc n)) (sum_first n f) ∙ +ℤ_assoc (f 0) (sum n (λ k. f (suc k))) (f (suc n))

pub sum_append : (m n : ℕ) (f : ℕ → ℤ) → sum (m + n) f ≡ sum m f +ℤ sum n (λ k. f (m + k))
unfolding sum
sum_append m zero f = rw (add-zero m) (sym (+ℤ_idr (sum m f)))
sum_append m (suc n) f =
    rw (add-suc m n)
    (ap (λ x. x +ℤ f (m + n)) (sum_append m n f) ∙ +ℤ_assoc (sum m f) (sum n (λ k. f (m + k))) (f (m + n)))

-- a flat index, row by row
pub sum_split : (a b : ℕ) (f : ℕ → ℤ) → sum (a * b) f ≡ sum a (λ i. sum b (λ j. f (i * b + j)))
unfolding sum
sum_split zero b f = rw (zero-mul b)
sum_split (suc a) b f =
    rw (suc-mul a b) (sum_append (a * b) b f ∙ ap (λ x. x +ℤ sum b (λ j. f (a * b + j))) (sum_split a b f))

pub sum_split₃ : (a b c : ℕ) (f : ℕ → ℤ) → sum (a * b * c) f ≡ sum a (λ i. sum b (λ j. sum c (λ k. f ((i * b + j) * c + k))))
sum_split₃ a b c f = sum_split (a * b) c f ∙ sum_split a b (λ x. sum c (λ k. f (x * c + k)))

-- terms that vanish from m on
pub sum_end : (m n : ℕ) (f : ℕ → ℤ) → m ≤ n → ((k : ℕ) → m ≤ k → k < n → f k ≡ pos 0) → sum n f ≡ sum m f
sum_end m n f l h =
    let e : n ≡ m + (n - m) = omega arith in
    let z : sum (n - m) (λ k. f (m + k)) ≡ pos 0 = sum_zero (n - m) (λ k. f (m + k)) (λ k b. h (m + k) (omega arith) (omega arith)) in
    ap (λ k. sum k f) e ∙ sum_append m (n - m) f ∙ ap (λ x. sum m f +ℤ x) z ∙ +ℤ_idr (sum m f)
