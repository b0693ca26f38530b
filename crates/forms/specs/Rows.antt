-- De Casteljau's evaluation of a row, and functionals that are linear in a row.
--     shift r            the row without its first number
--     ev w u n r         the value at u/(w + u) of the row r of degree n, times (w + u)^n
--     Linear n H         H is a linear functional of rows of degree n
-- Assumes nothing.
use Rattle.std.specs.Prelude.{◌≡◌, ℕ, zero, suc, ◌+◌, ◌*◌, ◌^◌, ◌≤◌, ℤ, pos, ◌+ℤ◌, ◌*ℤ◌, ◌≤ℤ◌, refl}
use Rattle.std.proofs.Common.{sym, ap, ap₂, ◌∙◌, arith}
use Rattle.std.proofs.Math.Nat.{pow-zero, pow-succ'}
use Rattle.std.proofs.Math.IntN.{zero-*ℤ, +ℤ_idl}
use Rattle.forms.specs.Choose.{choose}
use Rattle.forms.specs.Halving.{Row}
use Rattle.forms.specs.Extra.{nats}
use Rattle.arith.proofs.Ring.{ring, one-mul, *ℤ-assoc, +ℤ-*ℤ}
use Rattle.arith.proofs.Order.{add_le, mul-le}

abbrev pub shift : Row → Row
shift r k = r (suc k)

unfoldable pub ev : ℤ → ℤ → ℕ → Row → ℤ
ev w u zero r = r zero
ev w u (suc n) r = (w *ℤ ev w u n r) +ℤ (u *ℤ ev w u n (shift r))

pub record Linear (n : ℕ) (H : Row → ℤ) : Type 0 where
  pub add : (r s : Row) → H (λ k. r k +ℤ s k) ≡ H r +ℤ H s
  pub scale : (c : ℤ) (r : Row) → H (λ k. c *ℤ r k) ≡ c *ℤ H r
  pub reads : (r s : Row) → ((k : ℕ) → k ≤ n → r k ≡ s k) → H r ≡ H s

pub ev_add : (w u : ℤ) (n : ℕ) (r s : Row) → ev w u n (λ k. r k +ℤ s k) ≡ ev w u n r +ℤ ev w u n s
unfolding ev
ev_add w u zero r s = refl
ev_add w u (suc n) r s = rw (ev_add w u n r s, ev_add w u n (shift r) (shift s)) (simp ring)

pub ev_scale : (w u : ℤ) (n : ℕ) (c : ℤ) (r : Row) → ev w u n (λ k. c *ℤ r k) ≡ c *ℤ ev w u n r
unfolding ev
ev_scale w u zero c r = refl
ev_scale w u (suc n) c r = rw (ev_scale w u n c r, ev_scale w u n c (shift r)) (simp ring)

pub ev_reads : (w u : ℤ) (n : ℕ) (r s : Row) → ((k : ℕ) → k ≤ n → r k ≡ s k) → ev w u n r ≡ ev w u n s
unfolding ev
ev_reads w u zero r s h = h 0 (omega arith)
ev_reads w u (suc n) r s h =
    ap₂ (λ x y. (w *ℤ x) +ℤ (u *ℤ y)) (ev_reads w u n r s (λ k l. h k (omega arith)))
    (ev_reads w u n (shift r) (shift s) (λ k l. h (suc k) (omega arith)))

pub ev_le : (w u n : ℕ) (r s : Row) → ((k : ℕ) → k ≤ n → r k ≤ℤ s k) → ev (pos w) (pos u) n r ≤ℤ ev (pos w) (pos u) n s
unfolding ev
ev_le w u zero r s h = h 0 (omega arith)
ev_le w u (suc n) r s h =
    add_le (mul-le w (ev_le w u n r s (λ k l. h k (omega arith)))) (mul-le u (ev_le w u n (shift r) (shift s) (λ k l. h (suc k) (omega arith))))

-- a linear functional may be taken before or after the evaluation
pub ev_swap : (n : ℕ) (H : Row → ℤ) → Linear n H → (w u : ℤ) (m : ℕ) (R : ℕ → Row) → ev w u m (λ j. H (R j)) ≡ H (λ i. ev w u m (λ j. R j i))
unfolding ev
ev_swap n H L w u zero R = refl
ev_swap n H L w u (suc m) R =
    ap₂ (λ x y. (w *ℤ x) +ℤ (u *ℤ y)) (ev_swap n H L w u m R) (ev_swap n H L w u m (λ j. R (suc j)))
    ∙ ap₂ (λ x y. x +ℤ y) (sym (L.scale w (λ i. ev w u m (λ j. R j i)))) (sym (L.scale u (λ i. ev w u m (λ j. R (suc j) i))))
    ∙ sym (L.add (λ i. w *ℤ ev w u m (λ j. R j i)) (λ i. u *ℤ ev w u m (λ j. R (suc j) i)))

pub ev_constant : (w u s n : ℕ) → w + u ≡ s → (c : ℤ) → ev (pos w) (pos u) n (λ k. c) ≡ pos (s ^ n) *ℤ c
unfolding ev
ev_constant w u s zero e c = rw (pow-zero s) (sym (one-mul c))
ev_constant w u s (suc n) e c =
    rw (ev_constant w u s n e c, pow-succ' s n, ← e)
    (sym (*ℤ-assoc (pos (w + u)) (pos ((w + u) ^ n)) c ∙ +ℤ-*ℤ (pos w) (pos u) (pos ((w + u) ^ n) *ℤ c)))

-- at u/(0 + u) only the last number counts
pub ev_last : (u n : ℕ) (r : Row) → ev (pos 0) (pos u) n r ≡ pos (u ^ n) *ℤ r n
unfolding ev
ev_last u zero r = rw (pow-zero u) (sym (one-mul (r 0)))
ev_last u (suc n) r =
    rw (ev_last u n (shift r), zero-*ℤ (ev (pos 0) (pos u) n r), +ℤ_idl (pos u *ℤ (pos (u ^ n) *ℤ r (suc n))), pow-succ' u n)
    (sym (*ℤ-assoc (pos u) (pos (u ^ n)) (r (suc n))))

-- the step of the next lemma, over ℤ and over ℕ
choose_ring : (P Q S w u E F x y : ℤ) → P ≡ S *ℤ Q → P *ℤ E ≡ x → Q *ℤ F ≡ y
    → P *ℤ ((w *ℤ E) +ℤ (u *ℤ (F +ℤ E))) ≡ ((w +ℤ u) *ℤ x) +ℤ (u *ℤ (S *ℤ y))
choose_ring P Q S w u E F x y a b c =
    let p : P *ℤ ((w *ℤ E) +ℤ (u *ℤ (F +ℤ E))) ≡ ((w +ℤ u) *ℤ (P *ℤ E)) +ℤ (u *ℤ (P *ℤ F)) = simp ring in
    p ∙ ap₂ (λ m k. ((w +ℤ u) *ℤ m) +ℤ (u *ℤ k)) b (ap (λ z. z *ℤ F) a ∙ *ℤ-assoc S Q F ∙ ap (λ z. S *ℤ z) c)

choose_nats : (w u s x y V N : ℕ) → w + u ≡ s → (w + u) * (y * ((u * V) * N)) + u * (s * (x * (V * N))) ≡ (x + y) * ((u * V) * (s * N))
choose_nats w u s x y V N e = rw e (simp nats)

-- the row of the binomial coefficients over i
pub ev_choose : (w u s : ℕ) → w + u ≡ s → (n i : ℕ)
    → pos (s ^ i) *ℤ ev (pos w) (pos u) n (λ j. pos (choose j i)) ≡ pos (choose n i * (u ^ i * s ^ n))
unfolding ev choose
ev_choose w u s e n zero = rw (pow-zero s, pow-zero u, ev_constant w u s n e (pos 1)) (ap pos (omega arith))
ev_choose w u s e zero (suc i) = ap pos (omega arith)
ev_choose w u s e (suc n) (suc i) =
    let E : ℤ = ev (pos w) (pos u) n (λ j. pos (choose j (suc i))) in
    let F : ℤ = ev (pos w) (pos u) n (λ j. pos (choose j i)) in
    let a : ev (pos w) (pos u) n (λ j. pos (choose j i) +ℤ pos (choose j (suc i))) ≡ F +ℤ E =
    ev_add (pos w) (pos u) n (λ j. pos (choose j i)) (λ j. pos (choose j (suc i))) in
    ap (λ z. pos (s ^ suc i) *ℤ ((pos w *ℤ E) +ℤ (pos u *ℤ z))) a
    ∙ choose_ring (pos (s ^ suc i)) (pos (s ^ i)) (pos s) (pos w) (pos u) E F (pos (choose n (suc i) * (u ^ suc i * s ^ n))) (pos (choose n i * (u ^ i * s ^ n)))
    (ap pos (pow-succ' s i)) (ev_choose w u s e n (suc i)) (ev_choose w u s e n i)
    ∙ ap pos (rw (pow-succ' u i, pow-succ' s n) (choose_nats w u s (choose n i) (choose n (suc i)) (u ^ i) (s ^ n) e))
