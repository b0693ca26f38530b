-- The Bernstein row of a power of one input on a part of [0, 1], exactly.
--     piece n d p j i    the number at j of that row for the power i, on the part of depth d and place p, times n! · 2^(n·d)
--     grain n            n, or 1 where n is 0
--     Close n d T x y    y is at least 0, at most x, x at most T, and x - y at most T · i(i - 1)/(2n · 4^d) at i
-- Assumes nothing.
use Rattle.std.specs.Prelude.{◌≡◌, ℕ, zero, suc, ◌+◌, ◌-◌, ◌*◌, ◌^◌, ◌<◌, ◌≤◌, ℤ, pos, negsuc, ◌+ℤ◌, ◌*ℤ◌, neg_ℤ, ◌≤ℤ◌}
use Rattle.std.proofs.Common.{sym, ap, ap₂, ◌∙◌, mul-zero, zero-mul, mul-pos, mul_comm, mul_assoc, suc-mul, mul-le-mul_right, mul-le-mul_left, mul-le-mul, le_of_eq, arith, pow-add, pow_pos}
use Rattle.std.proofs.Math.Nat.{one-le-pow, pow-le-pow_left}
use Rattle.std.proofs.Math.Nat as NatL
use Rattle.std.proofs.Math.IntN.{*ℤ-zero, zero-*ℤ, +ℤ_idr}
use Rattle.std.specs.Int.Signed.{≤ℤ_refl}
use Rattle.forms.specs.Choose.{factorial, choose, weight}
use Rattle.forms.specs.Halving.{Row, deep}
use Rattle.forms.specs.Parts.{InPart}
use Rattle.mapping.specs.Polynomials.{share}
use Rattle.forms.specs.Extra.{nats, mul_pow, pow_pow, pos_le, minus_one}
use Rattle.forms.specs.ChooseLemmas.{choose_mono, choose_factorials}
use Rattle.forms.specs.Rows.{ev, ev_le, ev_scale, ev_swap, ev_constant, Linear}
use Rattle.forms.specs.Basis.{ev_weight}
use Rattle.forms.specs.HalvingLemmas.{half, bend, ev_deep, deep_le, deep_bend}
use Rattle.forms.specs.Nearness.{bent, rise_choose, bend_choose}
use Rattle.arith.proofs.Ring.{ring, terms, lin, *ℤ-assoc, *ℤ-+ℤ, one-mul}
use Rattle.arith.proofs.Order.{add_le, mul-le, mul_nonneg, le_trans, le_eq, mul_le_cancel}

abbrev pub piece : ℕ → ℕ → ℕ → ℕ → Row
piece n d p j i = deep (half n) d p (λ k. pos (weight n k i)) j

-- ---- the value of a part's row

pub room : (d p s u : ℕ) → p < 2 ^ d → u ≤ s → p * s + u ≤ 2 ^ d * s
room d p s u h l = omega (arith, suc-mul p s, mul-le-mul_right s h)

pub piece_value : (n d p w u s : ℕ) → p < 2 ^ d → w + u ≡ s → 0 < s → (i : ℕ) → i ≤ n
    → ev (pos w) (pos u) n (λ j. piece n d p j i) ≡ pos (factorial n * share n i (p * s + u) (2 ^ d * s))
piece_value n d p w u s h e s0 i l =
    let fits : p * s + u ≤ 2 ^ d * s = room d p s u h (omega arith) in
    let v : ℕ = 2 ^ d * s - (p * s + u) in
    let all : v + (p * s + u) ≡ 2 ^ d * s = omega arith in
    ev_deep n d p (pos w) (pos u) (pos v) (pos (p * s + u)) (λ k. pos (weight n k i)) h
    (ap (λ z. pos (p * z + u)) (sym e)) (ap pos all ∙ ap (λ z. pos (2 ^ d * z)) (sym e))
    ∙ ev_weight v (p * s + u) (2 ^ d * s) all (mul-pos (pow_pos d) s0) n i l

share_ring : (a b x y N : ℕ) → a * b ≡ N → (a * x) * (b * y) ≡ N * (x * y)
share_ring a b x y N e = rw (← e) (simp nats)

-- the same point over a multiple of its denominator
pub share_times : (n i c u D : ℕ) → i ≤ n → share n i (c * u) (c * D) ≡ c ^ n * share n i u D
share_times n i c u D h =
    let e : i + (n - i) ≡ n = omega arith in
    rw (mul_pow c u i, mul_pow c D (n - i))
    (share_ring (c ^ i) (c ^ (n - i)) (u ^ i) (D ^ (n - i)) (c ^ n) (sym (pow-add c i (n - i)) ∙ ap (λ x. c ^ x) e))

-- a point of the part, by its distances from the part's ends
pub part_value : (n d p u D : ℕ) → p < 2 ^ d → 0 < D → InPart d p u D → (i : ℕ) → i ≤ n
    → ev (pos (suc p * D - u * 2 ^ d)) (pos (u * 2 ^ d - p * D)) n (λ j. piece n d p j i) ≡ pos ((factorial n * 2 ^ (n * d)) * share n i u D)
part_value n d p u D h D0 I i l =
    let from : p * D ≤ u * 2 ^ d = I.from in
    let to : u * 2 ^ d ≤ suc p * D = I.to in
    let whole : (suc p * D - u * 2 ^ d) + (u * 2 ^ d - p * D) ≡ D = omega (arith, suc-mul p D) in
    let place : p * D + (u * 2 ^ d - p * D) ≡ 2 ^ d * u = omega (arith, mul_comm u (2 ^ d)) in
    piece_value n d p (suc p * D - u * 2 ^ d) (u * 2 ^ d - p * D) D h whole D0 i l
    ∙ ap (λ z. pos (factorial n * share n i z (2 ^ d * D))) place
    ∙ ap (λ z. pos (factorial n * z)) (share_times n i (2 ^ d) u D l ∙ ap (λ z. z * share n i u D) (pow_pow 2 d n))
    ∙ ap pos (sym (mul_assoc (factorial n) (2 ^ (n * d)) (share n i u D)))

-- a bound of all numbers of the part's row bounds the value at each point of the part
pub part_least : (n d p u D : ℕ) → p < 2 ^ d → 0 < D → InPart d p u D → (H : Row → ℤ) → Linear n H
    → (k : ℕ) (C : ℤ) → ((j : ℕ) → j ≤ n → C ≤ℤ (pos k *ℤ H (piece n d p j)))
    → (pos (D ^ n) *ℤ C) ≤ℤ (pos (k * (factorial n * 2 ^ (n * d))) *ℤ H (λ i. pos (share n i u D)))
part_least n d p u D h D0 I H L k C bound =
    let from : p * D ≤ u * 2 ^ d = I.from in
    let to : u * 2 ^ d ≤ suc p * D = I.to in
    let a : ℕ = suc p * D - u * 2 ^ d in
    let b : ℕ = u * 2 ^ d - p * D in
    let whole : a + b ≡ D = omega (arith, suc-mul p D) in
    let c : ℕ = factorial n * 2 ^ (n * d) in
    let S : Row = λ i. pos (share n i u D) in
    let below : ev (pos a) (pos b) n (λ j. C) ≤ℤ ev (pos a) (pos b) n (λ j. pos k *ℤ H (piece n d p j)) =
    ev_le a b n (λ j. C) (λ j. pos k *ℤ H (piece n d p j)) bound in
    let value : ev (pos a) (pos b) n (λ j. H (piece n d p j)) ≡ pos c *ℤ H S =
    ev_swap n H L (pos a) (pos b) n (λ j. piece n d p j)
    ∙ L.reads (λ i. ev (pos a) (pos b) n (λ j. piece n d p j i)) (λ i. pos c *ℤ S i) (part_value n d p u D h D0 I)
    ∙ L.scale (pos c) S in
    let right : ev (pos a) (pos b) n (λ j. pos k *ℤ H (piece n d p j)) ≡ pos (k * c) *ℤ H S =
    ev_scale (pos a) (pos b) n (pos k) (λ j. H (piece n d p j)) ∙ ap (λ z. pos k *ℤ z) value ∙ sym (*ℤ-assoc (pos k) (pos c) (H S)) in
    rw (ev_constant a b D n whole C, right) at below

-- ---- the bends of the weights

scaled_bend : (c x y z : ℤ) → ((z *ℤ c) +ℤ neg_ℤ (y *ℤ c)) +ℤ neg_ℤ ((y *ℤ c) +ℤ neg_ℤ (x *ℤ c)) ≡ ((z +ℤ neg_ℤ y) +ℤ neg_ℤ (y +ℤ neg_ℤ x)) *ℤ c
scaled_bend c x y z = simp terms

abbrev rest : ℕ → ℕ → ℕ
rest n i = factorial i * factorial (n - i)

bend_weight : (n i k : ℕ) → bend (λ j. pos (weight n j i)) k ≡ bend (λ j. pos (choose j i)) k *ℤ pos (rest n i)
unfolding weight
bend_weight n i k = scaled_bend (pos (rest n i)) (pos (choose k i)) (pos (choose (suc k) i)) (pos (choose (suc (suc k)) i))

-- 0 below the power 2
bend_flat : (n i k : ℕ) → i < 2 → bend (λ j. pos (weight n j i)) k ≡ pos 0
unfolding choose
bend_flat n zero k h = bend_weight n zero k ∙ zero-*ℤ (pos (rest n 0))
bend_flat n (suc zero) k h =
    bend_weight n 1 k ∙ ap (λ z. z *ℤ pos (rest n 1)) (ap₂ (λ x y. x +ℤ neg_ℤ y) (rise_choose 0 (suc k)) (rise_choose 0 k)) ∙ zero-*ℤ (pos (rest n 1))
bend_flat n (suc (suc i)) k h = absurd (omega arith)

bend_power : (n i k : ℕ) → bend (λ j. pos (weight n j (suc (suc i)))) k ≡ pos (choose k i * rest n (suc (suc i)))
bend_power n i k = bend_weight n (suc (suc i)) k ∙ ap (λ z. z *ℤ pos (rest n (suc (suc i)))) (bend_choose i k)

bend_up : (n i k : ℕ) → (negsuc 0 *ℤ bend (λ j. pos (weight n j i)) k) ≤ℤ pos 0
bend_up n zero k = rw (bend_flat n zero k (omega arith)) (omega (arith, lin))
bend_up n (suc zero) k = rw (bend_flat n 1 k (omega arith)) (omega (arith, lin))
bend_up n (suc (suc i)) k = rw (bend_power n i k, minus_one (pos (choose k i * rest n (suc (suc i))))) (omega (arith, lin))

top_nats : (m i c f g M : ℕ) → c * (f * g) ≡ M
    → (suc (suc m) * suc m) * (c * ((suc (suc i) * (suc i * f)) * g)) ≡ (suc (suc m) * (suc m * M)) * (suc (suc i) * suc i)
top_nats m i c f g M e = rw (← e) (simp nats)

bend_top : (m i k : ℕ) → k ≤ m → i ≤ m
    → (pos (suc (suc m) * suc m) *ℤ bend (λ j. pos (weight (suc (suc m)) j (suc (suc i)))) k) ≤ℤ pos (factorial (suc (suc m)) * (suc (suc i) * suc i))
unfolding factorial
bend_top m i k h l =
    let n : ℕ = suc (suc m) in
    let short : suc (suc m) - suc (suc i) ≡ m - i = omega arith in
    let most : choose k i * rest n (suc (suc i)) ≤ choose m i * rest n (suc (suc i)) = mul-le-mul_right (rest n (suc (suc i))) (choose_mono k m i h) in
    let e : (n * suc m) * (choose m i * rest n (suc (suc i))) ≡ factorial n * (suc (suc i) * suc i) =
    rw short (top_nats m i (choose m i) (factorial i) (factorial (m - i)) (factorial m) (choose_factorials m i (m - i) (omega arith))) in
    let fin : (n * suc m) * (choose k i * rest n (suc (suc i))) ≤ factorial n * (suc (suc i) * suc i) =
    NatL.le_trans (mul-le-mul_left (n * suc m) most) (le_of_eq e) in
    rw (bend_power n i k) (pos_le fin)

-- ---- evaluations against numbers, for a part's row of any row

deep_bends : (c M : ℤ) (n : ℕ) (r : Row) → ((k : ℕ) → suc (suc k) ≤ n → (c *ℤ bend r k) ≤ℤ M)
    → (d p k : ℕ) → suc (suc k) ≤ n → ((pos (4 ^ d) *ℤ c) *ℤ bend (deep (half n) d p r) k) ≤ℤ (pos (2 ^ (n * d)) *ℤ M)
deep_bends c M zero r h d p k l = absurd (omega arith)
deep_bends c M (suc zero) r h d p k l = absurd (omega arith)
deep_bends c M (suc (suc m)) r h d p k l = deep_bend c M m r (λ i j. h i (omega arith)) d p k (omega arith)

deep_bent : (n d p j : ℕ) → 0 < n → j ≤ n → (c M : ℤ) (r : Row) → ((k : ℕ) → suc (suc k) ≤ n → (c *ℤ bend r k) ≤ℤ M)
    → (pos 2 *ℤ (pos n *ℤ ((pos (4 ^ d) *ℤ c) *ℤ ev (pos (n - j)) (pos j) n (deep (half n) d p r))))
    ≤ℤ ((pos 2 *ℤ (pos n *ℤ ((pos (4 ^ d) *ℤ c) *ℤ (pos (n ^ n) *ℤ deep (half n) d p r j))))
    +ℤ (pos (n ^ n) *ℤ ((pos (2 ^ (n * d)) *ℤ M) *ℤ pos (j * (n - j)))))
deep_bent n d p j n0 h c M r bends =
    bent n j n0 h (pos (4 ^ d) *ℤ c) (pos (2 ^ (n * d)) *ℤ M) (deep (half n) d p r) (deep_bends c M n r bends d p)

gather : (a b c g A : ℤ) → a *ℤ (b *ℤ ((c *ℤ g) *ℤ A)) ≡ g *ℤ (((a *ℤ b) *ℤ c) *ℤ A)
gather a b c g A = simp ring

bound_nats : (N P M J R g : ℕ) → M * J ≤ R * g → N * ((P * M) * J) ≤ g * (N * (P * R))
bound_nats N P M J R g h =
    let a : N * ((P * M) * J) ≡ (N * P) * (M * J) = simp nats in
    let b : g * (N * (P * R)) ≡ (N * P) * (R * g) = simp nats in
    rw (a, b) (mul-le-mul_left (N * P) h)

-- a bound M of g times the bends
some_bend : (n f g N P J M R : ℕ) (A B : ℤ) → 0 < g → M * J ≤ R * g
    → (pos 2 *ℤ (pos n *ℤ ((pos f *ℤ pos g) *ℤ A))) ≤ℤ ((pos 2 *ℤ (pos n *ℤ ((pos f *ℤ pos g) *ℤ B))) +ℤ (pos N *ℤ ((pos P *ℤ pos M) *ℤ pos J)))
    → (pos (2 * n * f) *ℤ A) ≤ℤ ((pos (2 * n * f) *ℤ B) +ℤ pos (N * (P * R)))
some_bend n f g N P J M R A B g0 l h =
    let K : ℤ = pos (2 * n * f) in
    let h' : (pos g *ℤ (K *ℤ A)) ≤ℤ ((pos g *ℤ (K *ℤ B)) +ℤ pos (N * ((P * M) * J))) =
    rw (gather (pos 2) (pos n) (pos f) (pos g) A, gather (pos 2) (pos n) (pos f) (pos g) B) at h in
    let more : pos (N * ((P * M) * J)) ≤ℤ pos (g * (N * (P * R))) = pos_le (bound_nats N P M J R g l) in
    mul_le_cancel g g0
    (rw (*ℤ-+ℤ (pos g) (K *ℤ B) (pos (N * (P * R))))
    (le_trans h' (add_le (≤ℤ_refl (pos g *ℤ (K *ℤ B))) more)))

no_bend : (n f N P J : ℕ) (A B : ℤ) → 0 < n → 0 < f
    → (pos 2 *ℤ (pos n *ℤ ((pos f *ℤ pos 1) *ℤ A))) ≤ℤ ((pos 2 *ℤ (pos n *ℤ ((pos f *ℤ pos 1) *ℤ B))) +ℤ (pos N *ℤ ((pos P *ℤ pos 0) *ℤ pos J)))
    → A ≤ℤ B
no_bend n f N P J A B n0 f0 h =
    let none : N * (P * 0) ≡ 0 = simp mul-zero in
    let s : (pos (2 * n * f) *ℤ A) ≤ℤ ((pos (2 * n * f) *ℤ B) +ℤ pos (N * (P * 0))) = some_bend n f 1 N P J 0 0 A B (omega arith) (omega (arith, zero-mul J)) h in
    let t : (pos (2 * n * f) *ℤ A) ≤ℤ (pos (2 * n * f) *ℤ B) = rw (none, +ℤ_idr (pos (2 * n * f) *ℤ B)) at s in
    mul_le_cancel (2 * n * f) (mul-pos (mul-pos (omega arith) n0) f0) t

turned : (f : ℕ) (A : ℤ) → (pos f *ℤ negsuc 0) *ℤ A ≡ (pos f *ℤ pos 1) *ℤ neg_ℤ A
turned f A = *ℤ-assoc (pos f) (negsuc 0) A ∙ ap (λ z. pos f *ℤ z) (minus_one A ∙ sym (one-mul (neg_ℤ A))) ∙ sym (*ℤ-assoc (pos f) (pos 1) (neg_ℤ A))

turned_bend : (n f N P J : ℕ) (A B : ℤ) → 0 < n → 0 < f
    → (pos 2 *ℤ (pos n *ℤ ((pos f *ℤ negsuc 0) *ℤ A))) ≤ℤ ((pos 2 *ℤ (pos n *ℤ ((pos f *ℤ negsuc 0) *ℤ B))) +ℤ (pos N *ℤ ((pos P *ℤ pos 0) *ℤ pos J)))
    → B ≤ℤ A
turned_bend n f N P J A B n0 f0 h =
    let m : neg_ℤ A ≤ℤ neg_ℤ B = no_bend n f N P J (neg_ℤ A) (neg_ℤ B) n0 f0 (rw (turned f A, turned f B) at h) in
    omega (arith, lin)

-- ---- the point of the part nearest to the number at j: (p · s + j)/(2^d · s), with s the grain of n

unfoldable pub grain : ℕ → ℕ
grain zero = 1
grain (suc n) = suc n

pub grain_pos : (n : ℕ) → 0 < grain n
unfolding grain
grain_pos zero = omega arith
grain_pos (suc n) = omega arith

pub grain_le : (n : ℕ) → n ≤ grain n
unfolding grain
grain_le zero = omega arith
grain_le (suc n) = omega arith

pub record Close (n d T : ℕ) (x y : Row) : Type 0 where
  pub least : (i : ℕ) → i ≤ n → pos 0 ≤ℤ y i
  pub under : (i : ℕ) → i ≤ n → y i ≤ℤ x i
  pub most : (i : ℕ) → i ≤ n → x i ≤ℤ pos T
  pub near : (i : ℕ) → i ≤ n → (pos (2 * n * 4 ^ d) *ℤ x i) ≤ℤ ((pos (2 * n * 4 ^ d) *ℤ y i) +ℤ (pos T *ℤ pos (i * (i - 1))))
  pub still : n ≡ 0 → (i : ℕ) → i ≤ n → x i ≤ℤ y i

-- x and y of that point, and their scale
abbrev pub point_row : ℕ → ℕ → ℕ → ℕ → Row
point_row n d p j i = pos (factorial n * share n i (p * grain n + j) (2 ^ d * grain n))

abbrev pub place_row : ℕ → ℕ → ℕ → ℕ → Row
place_row n d p j i = pos (grain n ^ n) *ℤ piece n d p j i

abbrev pub point_scale : ℕ → ℕ → ℕ
point_scale n d = factorial n * (2 ^ d * grain n) ^ n

piece_least : (n d p j i : ℕ) → j ≤ n → pos 0 ≤ℤ piece n d p j i
piece_least n d p j i h =
    let w : (k : ℕ) → k ≤ n → (negsuc 0 *ℤ pos (weight n k i)) ≤ℤ pos 0 = λ k l. rw (minus_one (pos (weight n k i))) (omega (arith, lin)) in
    let b : (negsuc 0 *ℤ piece n d p j i) ≤ℤ (pos (2 ^ (n * d)) *ℤ pos 0) = deep_le (negsuc 0) (pos 0) n (λ k. pos (weight n k i)) w d p j h in
    let b' : neg_ℤ (piece n d p j i) ≤ℤ pos 0 = rw (minus_one (piece n d p j i), *ℤ-zero (pos (2 ^ (n * d)))) at b in
    flip (piece n d p j i) b'
  where
    flip : (a : ℤ) → neg_ℤ a ≤ℤ pos 0 → pos 0 ≤ℤ a
    flip a l = omega (arith, lin)

share_le : (n i u D : ℕ) → i ≤ n → u ≤ D → share n i u D ≤ D ^ n
share_le n i u D h l =
    let e : i + (n - i) ≡ n = omega arith in
    NatL.le_trans (mul-le-mul_right (D ^ (n - i)) (pow-le-pow_left l i)) (le_of_eq (sym (pow-add D i (n - i)) ∙ ap (λ x. D ^ x) e))

point_is : (n d p j i : ℕ) → p < 2 ^ d → j ≤ n → i ≤ n → ev (pos (grain n - j)) (pos j) n (λ k. piece n d p k i) ≡ point_row n d p j i
point_is n d p j i h l k = piece_value n d p (grain n - j) j (grain n) h (omega (arith, grain_le n)) (grain_pos n) i k

-- the two rows where n is 0
same_rows : (d p i : ℕ) → p < 2 ^ d → i ≤ 0 → place_row 0 d p 0 i ≡ point_row 0 d p 0 i
unfolding ev grain
same_rows d p i h l = one-mul (piece 0 d p 0 i) ∙ point_is 0 d p 0 i h (omega arith) l

none_left : (d p j i : ℕ) → p < 2 ^ d → j ≤ 0 → i ≤ 0 → place_row 0 d p j i ≡ point_row 0 d p j i
none_left d p j i h l k = let e : j ≡ 0 = omega arith in rw e (same_rows d p i h k)

place_under : (n d p j i : ℕ) → p < 2 ^ d → j ≤ n → i ≤ n → place_row n d p j i ≤ℤ point_row n d p j i
unfolding grain
place_under zero d p j i h l k = le_eq (none_left d p j i h l k)
place_under (suc m) d p j i h l k =
    let n : ℕ = suc m in
    le_trans
    (turned_bend n (4 ^ d) (n ^ n) (2 ^ (n * d)) (j * (n - j)) (ev (pos (n - j)) (pos j) n (λ k. piece n d p k i)) (place_row n d p j i)
    (omega arith) (one-le-pow d 4 (omega arith))
    (deep_bent n d p j (omega arith) l (negsuc 0) (pos 0) (λ k. pos (weight n k i)) (λ k q. bend_up n i k)))
    (le_eq (point_is n d p j i h l k))

-- below the power 2 nothing is lost
place_flat : (m d p j i : ℕ) → p < 2 ^ d → j ≤ suc m → i ≤ suc m → i < 2 → point_row (suc m) d p j i ≤ℤ place_row (suc m) d p j i
unfolding grain
place_flat m d p j i h l k two =
    let n : ℕ = suc m in
    le_trans (le_eq (sym (point_is n d p j i h l k)))
    (no_bend n (4 ^ d) (n ^ n) (2 ^ (n * d)) (j * (n - j)) (ev (pos (n - j)) (pos j) n (λ k. piece n d p k i)) (place_row n d p j i)
    (omega arith) (one-le-pow d 4 (omega arith))
    (deep_bent n d p j (omega arith) l (pos 1) (pos 0) (λ k. pos (weight n k i)) (λ k q. rw (one-mul (bend (λ j. pos (weight n j i)) k), bend_flat n i k two) (≤ℤ_refl (pos 0)))))

most_pairs : (m j : ℕ) → j ≤ suc (suc m) → j * (suc (suc m) - j) ≤ suc (suc m) * suc m
most_pairs m zero h = omega (arith, zero-mul (suc (suc m) - 0))
most_pairs m (suc j) h = mul-le-mul h (omega arith)

scale_nats : (F P N q : ℕ) → N * (P * (F * q)) ≡ (F * (P * N)) * q
scale_nats F P N q = simp nats

place_bent : (m d p j i : ℕ) → p < 2 ^ d → j ≤ suc (suc m) → i ≤ m
    → (pos (2 * suc (suc m) * 4 ^ d) *ℤ point_row (suc (suc m)) d p j (suc (suc i)))
    ≤ℤ ((pos (2 * suc (suc m) * 4 ^ d) *ℤ place_row (suc (suc m)) d p j (suc (suc i))) +ℤ pos (point_scale (suc (suc m)) d * (suc (suc i) * suc i)))
unfolding grain
place_bent m d p j i h l k =
    let n : ℕ = suc (suc m) in
    let q : ℕ = suc (suc i) * suc i in
    let A : ℤ = ev (pos (n - j)) (pos j) n (λ k. piece n d p k (suc (suc i))) in
    let M : ℕ = factorial n * q in
    let b : (pos (2 * n * 4 ^ d) *ℤ A) ≤ℤ ((pos (2 * n * 4 ^ d) *ℤ place_row n d p j (suc (suc i))) +ℤ pos (n ^ n * (2 ^ (n * d) * M))) =
    some_bend n (4 ^ d) (n * suc m) (n ^ n) (2 ^ (n * d)) (j * (n - j)) M M A (place_row n d p j (suc (suc i)))
    (mul-pos (omega arith) (omega arith)) (mul-le-mul_left M (most_pairs m j l))
    (deep_bent n d p j (omega arith) l (pos (n * suc m)) (pos M) (λ k. pos (weight n k (suc (suc i)))) (λ b r. bend_top m i b (omega arith) k)) in
    let scale : n ^ n * (2 ^ (n * d) * M) ≡ point_scale n d * q =
    scale_nats (factorial n) (2 ^ (n * d)) (n ^ n) q
    ∙ ap (λ z. (factorial n * z) * q) (ap (λ z. z * n ^ n) (sym (pow_pow 2 d n)) ∙ sym (mul_pow (2 ^ d) n n)) in
    rw (point_is n d p j (suc (suc i)) h l (omega arith), scale) at b

le_more : (K T q : ℕ) (x y : ℤ) → x ≤ℤ y → (pos K *ℤ x) ≤ℤ ((pos K *ℤ y) +ℤ (pos T *ℤ pos q))
le_more K T q x y h =
    let m : (pos K *ℤ x) ≤ℤ (pos K *ℤ y) = mul-le K h in
    plain (pos K *ℤ x) (pos K *ℤ y) (T * q) m
  where
    plain : (a b : ℤ) (c : ℕ) → a ≤ℤ b → a ≤ℤ (b +ℤ pos c)
    plain a b c l = omega (arith, lin)

place_near : (n d p j i : ℕ) → p < 2 ^ d → j ≤ n → i ≤ n
    → (pos (2 * n * 4 ^ d) *ℤ point_row n d p j i) ≤ℤ ((pos (2 * n * 4 ^ d) *ℤ place_row n d p j i) +ℤ (pos (point_scale n d) *ℤ pos (i * (i - 1))))
place_near zero d p j i h l k =
    le_more (2 * 0 * 4 ^ d) (point_scale 0 d) (i * (i - 1)) (point_row 0 d p j i) (place_row 0 d p j i) (le_eq (sym (none_left d p j i h l k)))
place_near (suc m) d p j zero h l k =
    le_more (2 * suc m * 4 ^ d) (point_scale (suc m) d) 0 (point_row (suc m) d p j 0) (place_row (suc m) d p j 0) (place_flat m d p j 0 h l k (omega arith))
place_near (suc m) d p j (suc zero) h l k =
    le_more (2 * suc m * 4 ^ d) (point_scale (suc m) d) 0 (point_row (suc m) d p j 1) (place_row (suc m) d p j 1) (place_flat m d p j 1 h l k (omega arith))
place_near (suc zero) d p j (suc (suc i)) h l k = absurd (omega arith)
place_near (suc (suc m)) d p j (suc (suc i)) h l k =
    let e : suc (suc i) - 1 ≡ suc i = omega arith in
    rw e (place_bent m d p j i h l (omega arith))

place_still : (n d p j i : ℕ) → p < 2 ^ d → j ≤ n → i ≤ n → n ≡ 0 → point_row n d p j i ≤ℤ place_row n d p j i
place_still zero d p j i h l k e = le_eq (sym (none_left d p j i h l k))
place_still (suc m) d p j i h l k e = absurd (omega arith)

pub place_close : (n d p j : ℕ) → p < 2 ^ d → j ≤ n → Close n d (point_scale n d) (point_row n d p j) (place_row n d p j)
place_close n d p j h l = record {
  least = λ i k. mul_nonneg (pos_le (omega arith)) (piece_least n d p j i l);
  under = λ i k. place_under n d p j i h l k;
  most = λ i k. pos_le (mul-le-mul_left (factorial n)
      (share_le n i (p * grain n + j) (2 ^ d * grain n) k (room d p (grain n) j h (NatL.le_trans l (grain_le n)))));
  near = λ i k. place_near n d p j i h l k;
  still = λ e i k. place_still n d p j i h l k e;
}
