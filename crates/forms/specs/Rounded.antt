-- How far the rounded halving stays from the exact one.
--     Near e W l x       x/W is at least l, and above it by at most e/2
-- Assumes nothing.
use Rattle.std.specs.Prelude.{◌≡◌, ℕ, zero, suc, ◌+◌, ◌-◌, ◌*◌, ◌^◌, ◌≤◌, ℤ, pos, ◌+ℤ◌, ◌*ℤ◌, ◌≤ℤ◌, refl}
use Rattle.std.proofs.Common.{sym, ap, subst₂, ◌∙◌, add-suc, add-zero, mul-zero, mul-suc, one-mul, mul_assoc, add_comm, add_assoc, arith, pow-add}
use Rattle.std.proofs.Math.Nat.{pow-succ'}
use Rattle.arith.specs.Rounding.{quot_down}
use Rattle.forms.specs.Halving.{Row, rounds, kept, deep, mean_down}
use Rattle.forms.specs.Extra.{quot_down_is}
use Rattle.forms.specs.HalvingLemmas.{half, rounds_keep, deep_keep}
use Rattle.arith.proofs.Ring.{lin, *ℤ-assoc, *ℤ-+ℤ, *ℤ-left-comm}
use Rattle.arith.proofs.Order.{add_le, mul-le, le_trans}

pub record Near (e W : ℕ) (l x : ℤ) : Type 0 where
  pub below : (pos W *ℤ l) ≤ℤ x
  pub above : (pos 2 *ℤ x) ≤ℤ (pos W *ℤ ((pos 2 *ℤ l) +ℤ pos e))

near_same : {e f W V : ℕ} {l x : ℤ} → e ≡ f → W ≡ V → Near e W l x → Near f V l x
near_same {e} {f} {W} {V} {l} {x} p q h = subst₂ (λ a b. Near a b l x) p q h

near_more : {e W : ℕ} {l x : ℤ} (f : ℕ) → e ≤ f → Near e W l x → Near f W l x
near_more {e} {W} {l} {x} f le h =
    let m : ((pos 2 *ℤ l) +ℤ pos e) ≤ℤ ((pos 2 *ℤ l) +ℤ pos f) = omega (arith, lin) in
    record { below = h.below; above = le_trans h.above (mul-le W m) }

near_times : {e W : ℕ} {l x : ℤ} (c : ℕ) → Near e W l x → Near e (c * W) l (pos c *ℤ x)
near_times {e} {W} {l} {x} c h = record {
  below = rw (*ℤ-assoc (pos c) (pos W) l) (mul-le c h.below);
  above = rw (*ℤ-left-comm (pos 2) (pos c) x, *ℤ-assoc (pos c) (pos W) ((pos 2 *ℤ l) +ℤ pos e)) (mul-le c h.above);
}

pub mean_down_is : (x y : ℤ) → ((pos 2 *ℤ mean_down x y) ≤ℤ (x +ℤ y)) × ((x +ℤ y) ≤ℤ ((pos 2 *ℤ mean_down x y) +ℤ pos 1))
unfolding mean_down
mean_down_is x y =
    let h : ((pos 2 *ℤ quot_down (x +ℤ y) 2) ≤ℤ (x +ℤ y)) × (((x +ℤ y) +ℤ pos 1) ≤ℤ ((pos 2 *ℤ quot_down (x +ℤ y) 2) +ℤ pos 2)) =
    quot_down_is (x +ℤ y) 2 (omega arith) in
    (h.0, omega (arith, lin, h.1))

twofold : (W : ℕ) (m : ℤ) → pos (2 * W) *ℤ m ≡ pos W *ℤ (pos 2 *ℤ m)
twofold W m = *ℤ-assoc (pos 2) (pos W) m ∙ *ℤ-left-comm (pos 2) (pos W) m

near_mean : {e W : ℕ} {l k x y : ℤ} → Near e W l x → Near e W k y → Near (suc e) (2 * W) (mean_down l k) (x +ℤ y)
near_mean {e} {W} {l} {k} {x} {y} p q =
    let m : ℤ = mean_down l k in
    let lo : (pos 2 *ℤ m) ≤ℤ (l +ℤ k) = (mean_down_is l k).0 in
    let hi : (l +ℤ k) ≤ℤ ((pos 2 *ℤ m) +ℤ pos 1) = (mean_down_is l k).1 in
    let sum_low : (pos W *ℤ (l +ℤ k)) ≤ℤ (x +ℤ y) = rw (*ℤ-+ℤ (pos W) l k) (add_le p.below q.below) in
    let sum_high : (pos 2 *ℤ (x +ℤ y)) ≤ℤ (pos W *ℤ (((pos 2 *ℤ l) +ℤ pos e) +ℤ ((pos 2 *ℤ k) +ℤ pos e))) =
    rw (*ℤ-+ℤ (pos 2) x y, *ℤ-+ℤ (pos W) ((pos 2 *ℤ l) +ℤ pos e) ((pos 2 *ℤ k) +ℤ pos e)) (add_le p.above q.above) in
    let room : (((pos 2 *ℤ l) +ℤ pos e) +ℤ ((pos 2 *ℤ k) +ℤ pos e)) ≤ℤ (pos 2 *ℤ ((pos 2 *ℤ m) +ℤ pos (suc e))) = omega (arith, lin) in
    record {
      below = rw (twofold W m) (le_trans (mul-le W lo) sum_low);
      above = rw (twofold W ((pos 2 *ℤ m) +ℤ pos (suc e))) (le_trans sum_high (mul-le W room));
    }

near_rounds : (e W n : ℕ) (l x : Row) → ((k : ℕ) → k ≤ n → Near e W (l k) (x k))
    → (t i : ℕ) → i + t ≤ n → Near (e + t) (2 ^ t * W) (rounds mean_down t l i) (rounds ◌+ℤ◌ t x i)
near_rounds e W n l x h t i le =
    rounds_keep (λ t a b. Near (e + t) (2 ^ t * W) a b) mean_down ◌+ℤ◌
    (λ t a b y z p q. near_same (sym (add-suc e t)) (sym (ap (λ c. c * W) (pow-succ' 2 t) ∙ mul_assoc 2 (2 ^ t) W)) (near_mean p q)) n l x
    (λ k j. near_same (sym (add-zero e)) (sym (one-mul W)) (h k j)) t i le

split_power : (n a b W : ℕ) → a + b ≡ n → 2 ^ a * (2 ^ b * W) ≡ 2 ^ n * W
split_power n a b W e = sym (mul_assoc (2 ^ a) (2 ^ b) W) ∙ ap (λ c. c * W) (sym (pow-add 2 a b) ∙ ap (λ x. 2 ^ x) e)

-- one halving
pub near_half : (e W n b : ℕ) (l x : Row) → ((k : ℕ) → k ≤ n → Near e W (l k) (x k))
    → (k : ℕ) → k ≤ n → Near (e + n) (2 ^ n * W) (kept mean_down n b l k) (half n b x k)
unfolding kept half
near_half e W n zero l x h k le =
    near_same refl (split_power n (n - k) k W (omega arith))
    (near_times (2 ^ (n - k)) (near_more (e + n) (omega arith) (near_rounds e W n l x h k 0 (omega arith))))
near_half e W n (suc b) l x h k le =
    near_same refl (split_power n k (n - k) W (omega arith))
    (near_times (2 ^ k) (near_more (e + n) (omega arith) (near_rounds e W n l x h (n - k) k (omega arith))))

-- all digits
pub near_deep : (e W n d p : ℕ) (l x : Row) → ((k : ℕ) → k ≤ n → Near e W (l k) (x k))
    → (k : ℕ) → k ≤ n → Near (e + n * d) (2 ^ (n * d) * W) (deep (kept mean_down n) d p l k) (deep (half n) d p x k)
near_deep e W n d p l x h k le =
    deep_keep (λ d a b. Near (e + n * d) (2 ^ (n * d) * W) a b) (kept mean_down n) (half n) n
    (λ d b a y q i j.
    near_same (add_assoc e (n * d) n ∙ ap (λ z. e + z) (sym (mul-suc n d)))
    (split_power (n * suc d) n (n * d) W (add_comm n (n * d) ∙ sym (mul-suc n d)))
    (near_half (e + n * d) (2 ^ (n * d) * W) n b a y q i j)) l x
    (λ i j. near_same (sym (ap (λ z. e + z) (mul-zero n) ∙ add-zero e)) (sym (ap (λ z. 2 ^ z * W) (mul-zero n) ∙ one-mul W)) (h i j)) d p k le
