-- Sums of naturals: their terms, their size, and rows of a flat index. Assumes nothing.
use Rattle.std.proofs.Common.{◌≡◌, ℕ, zero, suc, ◌+◌, ◌*◌, ◌/◌, ◌%◌, ◌<◌, ◌≤◌, ℤ, pos, ◌+ℤ◌, sym, refl, ap, ◌∙◌, ap₂, add-zero, add_assoc, add-suc, suc-mul, mul-zero, zero-add, zero-mul, mul-add, add-one, arith}
use Rattle.std.proofs.lemmas.Nat.{div-mul-add, mod-mul-add}
use Rattle.arith.specs.Sums.{sum}
use Rattle.forms.specs.Totals.{total}

pub total_none : (f : ℕ → ℕ) → total 0 f ≡ 0
unfolding total
total_none f = refl

pub total_more : (n : ℕ) (f : ℕ → ℕ) → total (n + 1) f ≡ total n f + f n
unfolding total
total_more n f = ap (λ k. total k f) (add-one n)

pub total_ext : (n : ℕ) (f g : ℕ → ℕ) → ((k : ℕ) → k < n → f k ≡ g k) → total n f ≡ total n g
unfolding total
total_ext zero f g h = refl
total_ext (suc n) f g h = ap₂ ◌+◌ (total_ext n f g (λ k l. h k (omega arith))) (h n (omega arith))

pub total_zero : (n : ℕ) (f : ℕ → ℕ) → ((k : ℕ) → k < n → f k ≡ 0) → total n f ≡ 0
unfolding total
total_zero zero f h = refl
total_zero (suc n) f h = ap₂ ◌+◌ (total_zero n f (λ k l. h k (omega arith))) (h n (omega arith))

pub total_one : (f : ℕ → ℕ) → total 1 f ≡ f 0
unfolding total
total_one f = zero-add (f 0)

pub total_most : (n b : ℕ) (f : ℕ → ℕ) → ((k : ℕ) → k < n → f k ≤ b) → total n f ≤ n * b
unfolding total
total_most zero b f h = omega arith
total_most (suc n) b f h = omega (arith, suc-mul n b, total_most n b f (λ k l. h k (omega arith)), h n (omega arith))

pub total_scale : (n c : ℕ) (f : ℕ → ℕ) → c * total n f ≡ total n (λ k. c * f k)
unfolding total
total_scale zero c f = mul-zero c
total_scale (suc n) c f = mul-add c (total n f) (f n) ∙ ap (λ x. x + c * f n) (total_scale n c f)

total_append : (m n : ℕ) (f : ℕ → ℕ) → total (m + n) f ≡ total m f + total n (λ k. f (m + k))
unfolding total
total_append m zero f = rw (add-zero m) (sym (add-zero (total m f)))
total_append m (suc n) f =
    rw (add-suc m n) (ap (λ x. x + f (m + n)) (total_append m n f) ∙ add_assoc (total m f) (total n (λ k. f (m + k))) (f (m + n)))

total_split : (a b : ℕ) (f : ℕ → ℕ) → total (a * b) f ≡ total a (λ i. total b (λ j. f (i * b + j)))
unfolding total
total_split zero b f = rw (zero-mul b)
total_split (suc a) b f =
    rw (suc-mul a b) (total_append (a * b) b f ∙ ap (λ x. x + total b (λ j. f (a * b + j))) (total_split a b f))

-- a weight for each row and place in the row
pub by_rows : (a b : ℕ) (w : ℕ → ℕ → ℕ) (x : ℕ → ℕ) → total a (λ t. total b (λ k. w t k * x (t * b + k))) ≡ total (a * b) (λ s. w (s / b) (s % b) * x s)
by_rows a b w x =
    sym
    (total_split a b (λ s. w (s / b) (s % b) * x s)
    ∙ total_ext a (λ t. total b (λ k. w ((t * b + k) / b) ((t * b + k) % b) * x (t * b + k))) (λ t. total b (λ k. w t k * x (t * b + k))) (λ t _.
    total_ext b (λ k. w ((t * b + k) / b) ((t * b + k) % b) * x (t * b + k)) (λ k. w t k * x (t * b + k)) (λ k l.
    ap₂ (λ i j. w i j * x (t * b + k)) (div-mul-add t b k l) (mod-mul-add t b k l))))

-- a weight for each row
pub over_rows : (a b : ℕ) (w x : ℕ → ℕ) → total a (λ t. w t * total b (λ k. x (t * b + k))) ≡ total (a * b) (λ s. w (s / b) * x s)
over_rows a b w x =
    total_ext a (λ t. w t * total b (λ k. x (t * b + k))) (λ t. total b (λ k. w t * x (t * b + k))) (λ t _. total_scale b (w t) (λ k. x (t * b + k)))
    ∙ by_rows a b (λ t k. w t) x

-- as whole numbers
pub pos_total : (n : ℕ) (f : ℕ → ℕ) → pos (total n f) ≡ sum n (λ k. pos (f k))
unfolding total sum
pos_total zero f = refl
pos_total (suc n) f = ap (λ (x : ℤ). x +ℤ pos (f n)) (pos_total n f)
