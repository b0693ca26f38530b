-- Laws of factorials and binomial coefficients. Assumes nothing.
use Rattle.std.specs.Prelude.{◌≡◌, ℕ, zero, suc, ◌+◌, ◌-◌, ◌*◌, ◌<◌, ◌≤◌, refl}
use Rattle.std.proofs.Common.{sym, ap, ◌∙◌, inl, inr, mul-pos, mul-le-mul_right, le_trans, add-zero, arith}
use Rattle.std.proofs.Math.Nat.{le-suc_iff}
use Rattle.forms.specs.Choose.{factorial, choose, weight}
use Rattle.forms.specs.Extra.{nats}

pub factorial_pos : (n : ℕ) → 0 < factorial n
unfolding factorial
factorial_pos zero = omega arith
factorial_pos (suc n) = mul-pos (omega arith) (factorial_pos n)

pub choose_above : (n i : ℕ) → n < i → choose n i ≡ 0
unfolding choose
choose_above n zero h = absurd (omega arith)
choose_above zero (suc i) h = refl
choose_above (suc n) (suc i) h = omega (arith, choose_above n i (omega arith), choose_above n (suc i) (omega arith))

-- one step of the next lemma: (i + 1)! (l + 1)! times the sum of two neighbours
next_factorials : (i l f g x y N : ℕ) → x * (f * (suc l * g)) ≡ N → y * ((suc i * f) * g) ≡ N
    → (x + y) * ((suc i * f) * (suc l * g)) ≡ (suc i + suc l) * N
next_factorials i l f g x y N a b =
    let p : (x + y) * ((suc i * f) * (suc l * g)) ≡ suc i * (x * (f * (suc l * g))) + suc l * (y * ((suc i * f) * g)) = simp nats in
    p ∙ ap (λ z. suc i * z + suc l * (y * ((suc i * f) * g))) a ∙ ap (λ z. suc i * N + suc l * z) b ∙ simp nats

last_factorials : (i f x N : ℕ) → x * (f * 1) ≡ N → (x + 0) * ((suc i * f) * 1) ≡ suc i * N
last_factorials i f x N a =
    let p : (x + 0) * ((suc i * f) * 1) ≡ suc i * (x * (f * 1)) = simp (add-zero, nats) in
    p ∙ ap (λ z. suc i * z) a

pub choose_factorials : (n i l : ℕ) → i + l ≡ n → choose n i * (factorial i * factorial l) ≡ factorial n
unfolding choose factorial
choose_factorials n zero l e = let f : l ≡ n = omega arith in rw f (omega arith)
choose_factorials zero (suc i) l e = absurd (omega arith)
choose_factorials (suc n) (suc i) zero e =
    let f : n ≡ i = omega arith in
    let z : choose n (suc i) ≡ 0 = choose_above n (suc i) (omega arith) in
    rw z (last_factorials i (factorial i) (choose n i) (factorial n) (choose_factorials n i zero (omega arith)) ∙ ap (λ x. suc x * factorial n) (sym f))
choose_factorials (suc n) (suc i) (suc l) e =
    let s : suc i + suc l ≡ suc n = omega arith in
    next_factorials i l (factorial i) (factorial l) (choose n i) (choose n (suc i)) (factorial n)
    (choose_factorials n i (suc l) (omega arith)) (choose_factorials n (suc i) l (omega arith))
    ∙ ap (λ x. x * factorial n) s

choose_step : (n i : ℕ) → choose n i ≤ choose (suc n) i
unfolding choose
choose_step n zero = omega arith
choose_step n (suc i) = omega arith

pub choose_mono : (j n i : ℕ) → j ≤ n → choose j i ≤ choose n i
choose_mono j zero i h = let e : j ≡ 0 = omega arith in rw e (omega arith)
choose_mono j (suc n) i h =
    elim (le-suc_iff.0 h) [ inl k ↦ le_trans (choose_mono j n i k) (choose_step n i) | inr e ↦ rw e (omega arith) ]

pub weight_le : (n j i : ℕ) → j ≤ n → i ≤ n → weight n j i ≤ factorial n
unfolding weight
weight_le n j i h k =
    le_trans (mul-le-mul_right (factorial i * factorial (n - i)) (choose_mono j n i h)) (omega (arith, choose_factorials n i (n - i) (omega arith)))
