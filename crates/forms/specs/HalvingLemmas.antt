-- Exact halving of rows, and what halving keeps.
--     half n b r         the half b of the row r of degree n, exactly, times 2^n
--     rise r             the differences of neighbours
--     bend r             the second differences
-- Assumes nothing.
use Rattle.std.specs.Prelude.{◌≡◌, ℕ, zero, suc, ◌+◌, ◌-◌, ◌*◌, ◌/◌, ◌%◌, ◌^◌, ◌<◌, ◌≤◌, ℤ, pos, ◌+ℤ◌, ◌*ℤ◌, neg_ℤ, ◌≤ℤ◌, refl}
use Rattle.std.proofs.Common.{sym, ap, ap₂, ◌∙◌, mul-suc, mul-zero, mul_comm, add_comm, arith, pow-add}
use Rattle.std.proofs.Math.Path.{fun_ext}
use Rattle.std.proofs.Math.Nat.{suc-sub-suc, pow-succ'}
use Rattle.std.proofs.Math.IntN.{zero-*ℤ, +ℤ_idl}
use Rattle.forms.specs.Halving.{Row, rounds, kept, deep}
use Rattle.forms.specs.Rows.{shift, ev, ev_add, ev_scale, ev_reads, Linear}
use Rattle.arith.proofs.Ring.{ring, terms, lin, *ℤ-assoc, *ℤ-+ℤ, *ℤ-left-comm, one-mul, twice}
use Rattle.arith.proofs.Order.{add_le, mul-le}

unfoldable pub half : ℕ → ℕ → Row → Row
half n zero r k = pos (2 ^ (n - k)) *ℤ rounds ◌+ℤ◌ k r 0
half n (suc b) r k = pos (2 ^ k) *ℤ rounds ◌+ℤ◌ (n - k) r k

abbrev pub rise : Row → Row
rise r k = r (suc k) +ℤ neg_ℤ (r k)

abbrev pub bend : Row → Row
bend r = rise (rise r)

-- ---- rounds

pub rounds_shift : (f : ℤ → ℤ → ℤ) (t : ℕ) (r : Row) (i : ℕ) → rounds f t (shift r) i ≡ rounds f t r (suc i)
unfolding rounds
rounds_shift f zero r i = refl
rounds_shift f (suc t) r i = ap₂ f (rounds_shift f t r i) (rounds_shift f t r (suc i))

rise_ring : (a b c d : ℤ) → (a +ℤ neg_ℤ b) +ℤ (c +ℤ neg_ℤ d) ≡ (a +ℤ c) +ℤ neg_ℤ (b +ℤ d)
rise_ring a b c d = simp terms

rounds_rise : (t : ℕ) (r : Row) (i : ℕ) → rounds ◌+ℤ◌ t (rise r) i ≡ rounds ◌+ℤ◌ t (shift r) i +ℤ neg_ℤ (rounds ◌+ℤ◌ t r i)
unfolding rounds
rounds_rise zero r i = refl
rounds_rise (suc t) r i =
    ap₂ ◌+ℤ◌ (rounds_rise t r i) (rounds_rise t r (suc i))
    ∙ rise_ring (rounds ◌+ℤ◌ t (shift r) i) (rounds ◌+ℤ◌ t r i) (rounds ◌+ℤ◌ t (shift r) (suc i)) (rounds ◌+ℤ◌ t r (suc i))

pub rounds_swap : (n : ℕ) (H : Row → ℤ) → Linear n H → (t : ℕ) (R : ℕ → Row) (k : ℕ)
    → rounds ◌+ℤ◌ t (λ j. H (R j)) k ≡ H (λ i. rounds ◌+ℤ◌ t (λ j. R j i) k)
unfolding rounds
rounds_swap n H L zero R k = refl
rounds_swap n H L (suc t) R k =
    ap₂ ◌+ℤ◌ (rounds_swap n H L t R k) (rounds_swap n H L t R (suc k))
    ∙ sym (L.add (λ i. rounds ◌+ℤ◌ t (λ j. R j i) k) (λ i. rounds ◌+ℤ◌ t (λ j. R j i) (suc k)))

-- what holds of neighbours and goes over to the next round holds in every round
pub rounds_keep : (P : ℕ → ℤ → ℤ → Type 0) (f g : ℤ → ℤ → ℤ)
    → ((t : ℕ) (a b x y : ℤ) → P t a x → P t b y → P (suc t) (f a b) (g x y))
    → (n : ℕ) (l r : Row) → ((k : ℕ) → k ≤ n → P 0 (l k) (r k))
    → (t i : ℕ) → i + t ≤ n → P t (rounds f t l i) (rounds g t r i)
unfolding rounds
rounds_keep P f g step n l r h zero i le = h i (omega arith)
rounds_keep P f g step n l r h (suc t) i le =
    step t (rounds f t l i) (rounds f t l (suc i)) (rounds g t r i) (rounds g t r (suc i))
    (rounds_keep P f g step n l r h t i (omega arith)) (rounds_keep P f g step n l r h t (suc i) (omega arith))

-- so it holds of what a halving keeps
pub kept_keep : (P : ℤ → ℤ → Type 0) (f g : ℤ → ℤ → ℤ) → ((a b x y : ℤ) → P a x → P b y → P (f a b) (g x y))
    → (n b : ℕ) (l r : Row) → ((k : ℕ) → k ≤ n → P (l k) (r k)) → (k : ℕ) → k ≤ n → P (kept f n b l k) (kept g n b r k)
unfolding kept
kept_keep P f g step n zero l r h k le = rounds_keep (λ t. P) f g (λ t. step) n l r h k 0 (omega arith)
kept_keep P f g step n (suc b) l r h k le = rounds_keep (λ t. P) f g (λ t. step) n l r h (n - k) k (omega arith)

-- and what a halving keeps is kept by all digits
pub deep_keep : (P : ℕ → ℤ → ℤ → Type 0) (f g : ℕ → Row → Row) (n : ℕ)
    → ((d b : ℕ) (l r : Row) → ((k : ℕ) → k ≤ n → P d (l k) (r k)) → (k : ℕ) → k ≤ n → P (suc d) (f b l k) (g b r k))
    → (l r : Row) → ((k : ℕ) → k ≤ n → P 0 (l k) (r k))
    → (d p k : ℕ) → k ≤ n → P d (deep f d p l k) (deep g d p r k)
unfolding deep
deep_keep P f g n step l r h zero p k le = h k le
deep_keep P f g n step l r h (suc d) p k le =
    step d (p % 2) (deep f d (p / 2) l) (deep g d (p / 2) r) (λ i. deep_keep P f g n step l r h d (p / 2) i) k le

-- ---- the halves of degree n + 1 out of those of degree n

pub lower_first : (n : ℕ) (r : Row) (k : ℕ) → k ≤ n → half (suc n) zero r k ≡ pos 2 *ℤ half n zero r k
unfolding half
lower_first n r k h =
    let e : suc n - k ≡ suc (n - k) = omega arith in
    rw (e, pow-succ' 2 (n - k)) (*ℤ-assoc (pos 2) (pos (2 ^ (n - k))) (rounds ◌+ℤ◌ k r 0))

pub lower_next : (n : ℕ) (r : Row) (k : ℕ) → half (suc n) zero r (suc k) ≡ half n zero r k +ℤ half n zero (shift r) k
unfolding half rounds
lower_next n r k =
    rw (suc-sub-suc n k, rounds_shift ◌+ℤ◌ k r 0) (*ℤ-+ℤ (pos (2 ^ (n - k))) (rounds ◌+ℤ◌ k r 0) (rounds ◌+ℤ◌ k r 1))

pub upper_first : (n b : ℕ) (r : Row) (k : ℕ) → k ≤ n → half (suc n) (suc b) r k ≡ half n (suc b) r k +ℤ half n (suc b) (shift r) k
unfolding half rounds
upper_first n b r k h =
    let e : suc n - k ≡ suc (n - k) = omega arith in
    rw (e, rounds_shift ◌+ℤ◌ (n - k) r k) (*ℤ-+ℤ (pos (2 ^ k)) (rounds ◌+ℤ◌ (n - k) r k) (rounds ◌+ℤ◌ (n - k) r (suc k)))

pub upper_next : (n b : ℕ) (r : Row) (k : ℕ) → half (suc n) (suc b) r (suc k) ≡ pos 2 *ℤ half n (suc b) (shift r) k
unfolding half
upper_next n b r k =
    rw (suc-sub-suc n k, rounds_shift ◌+ℤ◌ (n - k) r k, pow-succ' 2 k) (*ℤ-assoc (pos 2) (pos (2 ^ k)) (rounds ◌+ℤ◌ (n - k) r (suc k)))

-- ---- halving and evaluation

lower_ring : (w u A B : ℤ) → (w *ℤ (pos 2 *ℤ A)) +ℤ (u *ℤ (A +ℤ B)) ≡ (((w +ℤ w) +ℤ u) *ℤ A) +ℤ (u *ℤ B)
lower_ring w u A B = simp terms

upper_ring : (w u A B : ℤ) → (w *ℤ (A +ℤ B)) +ℤ (u *ℤ (pos 2 *ℤ B)) ≡ (w *ℤ A) +ℤ ((w +ℤ (u +ℤ u)) *ℤ B)
upper_ring w u A B = simp terms

half_none : (b : ℕ) (r : Row) → half 0 b r 0 ≡ r 0
unfolding half rounds
half_none zero r = one-mul (r 0)
half_none (suc b) r = one-mul (r 0)

pub ev_lower : (w u : ℤ) (n : ℕ) (r : Row) → ev w u n (half n zero r) ≡ ev ((w +ℤ w) +ℤ u) u n r
unfolding ev
ev_lower w u zero r = half_none zero r
ev_lower w u (suc n) r =
    ap₂ (λ x y. (w *ℤ x) +ℤ (u *ℤ y))
    (ev_reads w u n (half (suc n) zero r) (λ k. pos 2 *ℤ half n zero r k) (lower_first n r) ∙ ev_scale w u n (pos 2) (half n zero r) ∙ ap (λ z. pos 2 *ℤ z) (ev_lower w u n r))
    (ev_reads w u n (shift (half (suc n) zero r)) (λ k. half n zero r k +ℤ half n zero (shift r) k) (λ k h. lower_next n r k)
    ∙ ev_add w u n (half n zero r) (half n zero (shift r)) ∙ ap₂ ◌+ℤ◌ (ev_lower w u n r) (ev_lower w u n (shift r)))
    ∙ lower_ring w u (ev ((w +ℤ w) +ℤ u) u n r) (ev ((w +ℤ w) +ℤ u) u n (shift r))

pub ev_upper : (w u : ℤ) (n b : ℕ) (r : Row) → ev w u n (half n (suc b) r) ≡ ev w (w +ℤ (u +ℤ u)) n r
unfolding ev
ev_upper w u zero b r = half_none (suc b) r
ev_upper w u (suc n) b r =
    ap₂ (λ x y. (w *ℤ x) +ℤ (u *ℤ y))
    (ev_reads w u n (half (suc n) (suc b) r) (λ k. half n (suc b) r k +ℤ half n (suc b) (shift r) k) (upper_first n b r)
    ∙ ev_add w u n (half n (suc b) r) (half n (suc b) (shift r)) ∙ ap₂ ◌+ℤ◌ (ev_upper w u n b r) (ev_upper w u n b (shift r)))
    (ev_reads w u n (shift (half (suc n) (suc b) r)) (λ k. pos 2 *ℤ half n (suc b) (shift r) k) (λ k h. upper_next n b r k)
    ∙ ev_scale w u n (pos 2) (half n (suc b) (shift r)) ∙ ap (λ z. pos 2 *ℤ z) (ev_upper w u n b (shift r)))
    ∙ upper_ring w u (ev w (w +ℤ (u +ℤ u)) n r) (ev w (w +ℤ (u +ℤ u)) n (shift r))

-- the pairs w, u of a half and of the whole row
lower_place : (Q w u : ℤ) → ((pos 2 *ℤ Q) *ℤ (w +ℤ u)) +ℤ u ≡ (Q *ℤ (((w +ℤ w) +ℤ u) +ℤ u)) +ℤ u
lower_place Q w u = simp terms

upper_place : (Q w u : ℤ) → (((pos 2 *ℤ Q) +ℤ pos 1) *ℤ (w +ℤ u)) +ℤ u ≡ (Q *ℤ (w +ℤ (w +ℤ (u +ℤ u)))) +ℤ (w +ℤ (u +ℤ u))
upper_place Q w u = simp (one-mul, terms)

lower_size : (K w u : ℤ) → (pos 2 *ℤ K) *ℤ (w +ℤ u) ≡ K *ℤ (((w +ℤ w) +ℤ u) +ℤ u)
lower_size K w u = simp terms

upper_size : (K w u : ℤ) → (pos 2 *ℤ K) *ℤ (w +ℤ u) ≡ K *ℤ (w +ℤ (w +ℤ (u +ℤ u)))
upper_size K w u = simp terms

digit_step : (n d q p b : ℕ) (w u v x E : ℤ) (r : Row) → p ≡ 2 * q + b → b < 2
    → x ≡ (pos p *ℤ (w +ℤ u)) +ℤ u → v +ℤ x ≡ pos (2 ^ suc d) *ℤ (w +ℤ u)
    → ((w' u' : ℤ) → x ≡ (pos q *ℤ (w' +ℤ u')) +ℤ u' → v +ℤ x ≡ pos (2 ^ d) *ℤ (w' +ℤ u') → ev w' u' n r ≡ E)
    → ev w u n (half n b r) ≡ E
digit_step n d q p zero w u v x E r e l a s more =
    let p_is : p ≡ 2 * q = omega arith in
    ev_lower w u n r
    ∙ more ((w +ℤ w) +ℤ u) u
    (a ∙ ap (λ y. (pos y *ℤ (w +ℤ u)) +ℤ u) p_is ∙ lower_place (pos q) w u)
    (s ∙ ap (λ y. pos y *ℤ (w +ℤ u)) (pow-succ' 2 d) ∙ lower_size (pos (2 ^ d)) w u)
digit_step n d q p (suc zero) w u v x E r e l a s more =
    ev_upper w u n zero r
    ∙ more w (w +ℤ (u +ℤ u))
    (a ∙ ap (λ y. (pos y *ℤ (w +ℤ u)) +ℤ u) e ∙ upper_place (pos q) w u)
    (s ∙ ap (λ y. pos y *ℤ (w +ℤ u)) (pow-succ' 2 d) ∙ upper_size (pos (2 ^ d)) w u)
digit_step n d q p (suc (suc b)) w u v x E r e l a s more = absurd (omega arith)

-- all digits: the pair w, u of the part stands for the pair v, x of the whole row
pub ev_deep : (n d p : ℕ) (w u v x : ℤ) (r : Row) → p < 2 ^ d → x ≡ (pos p *ℤ (w +ℤ u)) +ℤ u → v +ℤ x ≡ pos (2 ^ d) *ℤ (w +ℤ u)
    → ev w u n (deep (half n) d p r) ≡ ev v x n r
unfolding deep
ev_deep n zero p w u v x r h a b =
    let p_is : p ≡ 0 = omega arith in
    let x_is : x ≡ u = a ∙ ap (λ q. (pos q *ℤ (w +ℤ u)) +ℤ u) p_is ∙ ap (λ z. z +ℤ u) (zero-*ℤ (w +ℤ u)) ∙ +ℤ_idl u in
    let both : v +ℤ x ≡ w +ℤ u = b ∙ one-mul (w +ℤ u) in
    let v_is : v ≡ w = omega (arith, lin) in
    ap₂ (λ y z. ev y z n r) (sym v_is) (sym x_is)
ev_deep n (suc d) p w u v x r h a b =
    let h2 : p < 2 * 2 ^ d = rw (pow-succ' 2 d) at h in
    digit_step n d (p / 2) p (p % 2) w u v x (ev v x n r) (deep (half n) d (p / 2) r) (omega arith) (omega arith) a b
    (λ w' u' a' b'. ev_deep n d (p / 2) w' u' v x r (omega arith) a' b')

-- ---- halving and differences

minus_ring : (c X Y : ℤ) → c *ℤ (X +ℤ neg_ℤ Y) ≡ (c *ℤ X) +ℤ neg_ℤ (c *ℤ Y)
minus_ring c X Y = simp terms

half_rise : (n b : ℕ) (r : Row) (k : ℕ) → half n b (rise r) k ≡ half n b (shift r) k +ℤ neg_ℤ (half n b r k)
unfolding half
half_rise n zero r k =
    rw (rounds_rise k r 0) (minus_ring (pos (2 ^ (n - k))) (rounds ◌+ℤ◌ k (shift r) 0) (rounds ◌+ℤ◌ k r 0))
half_rise n (suc b) r k =
    rw (rounds_rise (n - k) r k) (minus_ring (pos (2 ^ k)) (rounds ◌+ℤ◌ (n - k) (shift r) k) (rounds ◌+ℤ◌ (n - k) r k))

lower_minus : (A B : ℤ) → (A +ℤ B) +ℤ neg_ℤ (pos 2 *ℤ A) ≡ B +ℤ neg_ℤ A
lower_minus A B = omega (arith, lin)

upper_minus : (A B : ℤ) → (pos 2 *ℤ B) +ℤ neg_ℤ (A +ℤ B) ≡ B +ℤ neg_ℤ A
upper_minus A B = omega (arith, lin)

rise_half : (n b : ℕ) (r : Row) (k : ℕ) → k ≤ n → rise (half (suc n) b r) k ≡ half n b (rise r) k
rise_half n zero r k h =
    ap₂ (λ x y. x +ℤ neg_ℤ y) (lower_next n r k) (lower_first n r k h)
    ∙ lower_minus (half n zero r k) (half n zero (shift r) k) ∙ sym (half_rise n zero r k)
rise_half n (suc b) r k h =
    ap₂ (λ x y. x +ℤ neg_ℤ y) (upper_next n b r k) (upper_first n b r k h)
    ∙ upper_minus (half n (suc b) r k) (half n (suc b) (shift r) k) ∙ sym (half_rise n (suc b) r k)

-- the second differences of a half are the half of the second differences
pub bend_half : (n b : ℕ) (r : Row) (k : ℕ) → k ≤ n → bend (half (suc (suc n)) b r) k ≡ half n b (bend r) k
bend_half n b r k h =
    ap₂ (λ x y. x +ℤ neg_ℤ y) (rise_half (suc n) b r (suc k) (omega arith)) (rise_half (suc n) b r k (omega arith))
    ∙ rise_half n b (rise r) k h

-- ---- halving and linear functionals

half_swap : (n : ℕ) (H : Row → ℤ) → Linear n H → (m b : ℕ) (R : ℕ → Row) (k : ℕ)
    → half m b (λ j. H (R j)) k ≡ H (λ i. half m b (λ j. R j i) k)
unfolding half
half_swap n H L m zero R k =
    ap (λ z. pos (2 ^ (m - k)) *ℤ z) (rounds_swap n H L k R 0) ∙ sym (L.scale (pos (2 ^ (m - k))) (λ i. rounds ◌+ℤ◌ k (λ j. R j i) 0))
half_swap n H L m (suc b) R k =
    ap (λ z. pos (2 ^ k) *ℤ z) (rounds_swap n H L (m - k) R k) ∙ sym (L.scale (pos (2 ^ k)) (λ i. rounds ◌+ℤ◌ (m - k) (λ j. R j i) k))

pub deep_swap : (n : ℕ) (H : Row → ℤ) → Linear n H → (m d p : ℕ) (R : ℕ → Row) (k : ℕ)
    → deep (half m) d p (λ j. H (R j)) k ≡ H (λ i. deep (half m) d p (λ j. R j i) k)
unfolding deep
deep_swap n H L m zero p R k = refl
deep_swap n H L m (suc d) p R k =
    ap (λ row. half m (p % 2) row k) (fun_ext (deep_swap n H L m d (p / 2) R))
    ∙ half_swap n H L m (p % 2) (λ j i. deep (half m) d (p / 2) (λ j'. R j' i) j) k

-- ---- halving and bounds

doubled : (t : ℕ) (M : ℤ) → pos (2 ^ suc t) *ℤ M ≡ (pos (2 ^ t) *ℤ M) +ℤ (pos (2 ^ t) *ℤ M)
doubled t M = ap (λ y. pos y *ℤ M) (pow-succ' 2 t) ∙ *ℤ-assoc (pos 2) (pos (2 ^ t)) M ∙ twice (pos (2 ^ t) *ℤ M)

rounds_le : (c M : ℤ) (n : ℕ) (r : Row) → ((k : ℕ) → k ≤ n → (c *ℤ r k) ≤ℤ M)
    → (t i : ℕ) → i + t ≤ n → (c *ℤ rounds ◌+ℤ◌ t r i) ≤ℤ (pos (2 ^ t) *ℤ M)
rounds_le c M n r h t i le =
    rounds_keep (λ t a x. (c *ℤ x) ≤ℤ (pos (2 ^ t) *ℤ M)) ◌+ℤ◌ ◌+ℤ◌
    (λ t a b x y p q. rw (doubled t M, *ℤ-+ℤ c x y) (add_le p q)) n r r
    (λ k l. rw (one-mul M) (h k l)) t i le

-- a row with c · r ≤ M has a half with c · half ≤ 2^n · M
powers : (n k : ℕ) → k ≤ n → 2 ^ (n - k) * 2 ^ k ≡ 2 ^ n
powers n k h = let e : (n - k) + k ≡ n = omega arith in sym (pow-add 2 (n - k) k) ∙ ap (λ x. 2 ^ x) e

times_le : (a b N : ℕ) (c x M : ℤ) → a * b ≡ N → (c *ℤ x) ≤ℤ (pos b *ℤ M) → (c *ℤ (pos a *ℤ x)) ≤ℤ (pos N *ℤ M)
times_le a b N c x M e h = rw (← e, *ℤ-left-comm c (pos a) x, *ℤ-assoc (pos a) (pos b) M) (mul-le a h)

pub half_le : (c M : ℤ) (n b : ℕ) (r : Row) → ((k : ℕ) → k ≤ n → (c *ℤ r k) ≤ℤ M)
    → (k : ℕ) → k ≤ n → (c *ℤ half n b r k) ≤ℤ (pos (2 ^ n) *ℤ M)
unfolding half
half_le c M n zero r h k le =
    times_le (2 ^ (n - k)) (2 ^ k) (2 ^ n) c (rounds ◌+ℤ◌ k r 0) M (powers n k le) (rounds_le c M n r h k 0 (omega arith))
half_le c M n (suc b) r h k le =
    times_le (2 ^ k) (2 ^ (n - k)) (2 ^ n) c (rounds ◌+ℤ◌ (n - k) r k) M (mul_comm (2 ^ k) (2 ^ (n - k)) ∙ powers n k le)
    (rounds_le c M n r h (n - k) k (omega arith))

next_power : (n d : ℕ) (M : ℤ) → pos (2 ^ (n * suc d)) *ℤ M ≡ pos (2 ^ n) *ℤ (pos (2 ^ (n * d)) *ℤ M)
next_power n d M =
    let e : n * suc d ≡ n + n * d = mul-suc n d ∙ add_comm (n * d) n in
    ap (λ y. pos (2 ^ y) *ℤ M) e ∙ ap (λ y. pos y *ℤ M) (pow-add 2 n (n * d)) ∙ *ℤ-assoc (pos (2 ^ n)) (pos (2 ^ (n * d))) M

pub deep_le : (c M : ℤ) (n : ℕ) (r : Row) → ((k : ℕ) → k ≤ n → (c *ℤ r k) ≤ℤ M)
    → (d p k : ℕ) → k ≤ n → (c *ℤ deep (half n) d p r k) ≤ℤ (pos (2 ^ (n * d)) *ℤ M)
deep_le c M n r h d p k le =
    deep_keep (λ d a x. (c *ℤ x) ≤ℤ (pos (2 ^ (n * d)) *ℤ M)) (half n) (half n) n
    (λ d b l x q i j. rw (next_power n d M) (half_le c (pos (2 ^ (n * d)) *ℤ M) n b x q i j)) r r
    (λ i j. rw (mul-zero n, one-mul M) (h i j)) d p k le

-- a bound of the second differences falls to a quarter with each digit
pub deep_bend : (c M : ℤ) (m : ℕ) (r : Row) → ((k : ℕ) → k ≤ m → (c *ℤ bend r k) ≤ℤ M)
    → (d p k : ℕ) → k ≤ m → ((pos (4 ^ d) *ℤ c) *ℤ bend (deep (half (suc (suc m))) d p r) k) ≤ℤ (pos (2 ^ (suc (suc m) * d)) *ℤ M)
unfolding deep
deep_bend c M m r h zero p k le = rw (one-mul c, mul-zero (suc (suc m)), one-mul M) (h k le)
deep_bend c M m r h (suc d) p k le =
    let N : ℤ = pos (2 ^ (suc (suc m) * d)) *ℤ M in
    let B : Row = bend (deep (half (suc (suc m))) d (p / 2) r) in
    let q : ((pos (4 ^ d) *ℤ c) *ℤ half m (p % 2) B k) ≤ℤ (pos (2 ^ m) *ℤ N) =
    half_le (pos (4 ^ d) *ℤ c) N m (p % 2) B (deep_bend c M m r h d (p / 2)) k le in
    rw (bend_half m (p % 2) (deep (half (suc (suc m))) d (p / 2) r) k le, next_power (suc (suc m)) d M, four_more m N, pow-succ' 4 d)
    (rw (four_left (pos (4 ^ d)) c (half m (p % 2) B k)) (mul-le 4 q))
  where
    four_more : (m : ℕ) (N : ℤ) → pos (2 ^ suc (suc m)) *ℤ N ≡ pos 4 *ℤ (pos (2 ^ m) *ℤ N)
    four_more m N =
        let e : 2 ^ suc (suc m) ≡ 4 * 2 ^ m = omega (arith, pow-succ' 2 (suc m), pow-succ' 2 m) in
        ap (λ y. pos y *ℤ N) e ∙ *ℤ-assoc (pos 4) (pos (2 ^ m)) N

    four_left : (f c x : ℤ) → ((pos 4 *ℤ f) *ℤ c) *ℤ x ≡ pos 4 *ℤ ((f *ℤ c) *ℤ x)
    four_left f c x = simp ring
