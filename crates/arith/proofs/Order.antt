-- Sums and products in the order of ℤ. Assumes nothing.
use Rattle.std.proofs.Common.{◌≡◌, ℕ, suc, ◌+◌, ◌*◌, ◌<◌, ◌≤◌, ◌⊎◌, ℤ, pos, negsuc, ◌+ℤ◌, ◌*ℤ◌, neg_ℤ, ◌≤ℤ◌, ◌<ℤ◌, sym, refl, subst, inl, inr, mul-le-mul_left, arith}
use lib.IntN.{*ℤ_comm}
use borrow.Author.Differences.{up, down, le_out, lt_out}
use Rattle.std.proofs.lemmas.Int.{by_lt_z}
use Rattle.arith.proofs.Ring.{lin, neg-*ℤ}

pub le_trans : {a b c : ℤ} → a ≤ℤ b → b ≤ℤ c → a ≤ℤ c
le_trans {a} {b} {c} h k = omega (arith, lin)

pub le_eq : {a b : ℤ} → a ≡ b → a ≤ℤ b
le_eq {a} {b} e = omega (arith, lin)

pub antisym : {a b : ℤ} → a ≤ℤ b → b ≤ℤ a → a ≡ b
antisym {a} {b} h k = omega (arith, lin)

pub total : (a b : ℤ) → (a ≤ℤ b) ⊎ (b ≤ℤ a)
total a b = by_lt_z a b (λ h. inl (omega (arith, lin))) (λ h. inr h)

pub add_le : {a b c d : ℤ} → a ≤ℤ b → c ≤ℤ d → (a +ℤ c) ≤ℤ (b +ℤ d)
add_le {a} {b} {c} {d} h k = omega (arith, lin)

pub neg_le : {a b : ℤ} → a ≤ℤ b → neg_ℤ b ≤ℤ neg_ℤ a
neg_le {a} {b} h = omega (arith, lin)

-- both sides times a natural
pub mul-le : (c : ℕ) {a b : ℤ} → a ≤ℤ b → (pos c *ℤ a) ≤ℤ (pos c *ℤ b)
mul-le c {a} {b} h =
    let m : c * (up a + down b) ≤ c * (up b + down a) = mul-le-mul_left c (le_out a b h) in
    omega (arith, lin)

pub mul_le_right : (c : ℕ) {a b : ℤ} → a ≤ℤ b → (a *ℤ pos c) ≤ℤ (b *ℤ pos c)
mul_le_right c {a} {b} h = rw (*ℤ_comm a (pos c), *ℤ_comm b (pos c)) (mul-le c h)

-- a number that is not negative is a natural
pub natural : (a : ℤ) → pos 0 ≤ℤ a → (n : ℕ) × (a ≡ pos n)
natural (pos n) h = (n, refl)
natural (negsuc n) h = absurd (omega (arith, lin))

-- both sides times an integer that is not negative
pub mul_le_by : (c : ℤ) {a b : ℤ} → pos 0 ≤ℤ c → a ≤ℤ b → (c *ℤ a) ≤ℤ (c *ℤ b)
mul_le_by c {a} {b} n h =
    let k = natural c n in
    let P : ℤ → Type 0 = λ x. (x *ℤ a) ≤ℤ (x *ℤ b) in
    subst P (sym k.1) (mul-le k.0 h)

-- and times one that is not positive, which turns the order round
pub mul_le_turned : (c : ℤ) {a b : ℤ} → c ≤ℤ pos 0 → a ≤ℤ b → (c *ℤ b) ≤ℤ (c *ℤ a)
mul_le_turned c {a} {b} n h =
    let m : (neg_ℤ c *ℤ a) ≤ℤ (neg_ℤ c *ℤ b) = mul_le_by (neg_ℤ c) (omega (arith, lin)) h in
    let m' : neg_ℤ (c *ℤ a) ≤ℤ neg_ℤ (c *ℤ b) = rw (neg-*ℤ c a, neg-*ℤ c b) at m in
    omega (arith, lin)

pub mul_nonneg : {a b : ℤ} → pos 0 ≤ℤ a → pos 0 ≤ℤ b → pos 0 ≤ℤ (a *ℤ b)
mul_nonneg {a} {b} h k =
    let m = natural a h in
    let n = natural b k in
    let P : ℤ → Type 0 = λ x. pos 0 ≤ℤ (x *ℤ b) in
    let Q : ℤ → Type 0 = λ x. pos 0 ≤ℤ (pos m.0 *ℤ x) in
    let z : pos 0 ≤ℤ (pos m.0 *ℤ pos n.0) = omega (arith, lin) in
    subst P (sym m.1) (subst Q (sym n.1) z)

-- a factor above 0 can be taken off both sides
pub mul_le_cancel : (c : ℕ) {a b : ℤ} → 0 < c → (pos c *ℤ a) ≤ℤ (pos c *ℤ b) → a ≤ℤ b
mul_le_cancel c {a} {b} p h =
    by_lt_z b a
    (λ (l : b <ℤ a).
    let s : suc (up b + down a) ≤ up a + down b = lt_out b a l in
    let m : c * suc (up b + down a) ≤ c * (up a + down b) = mul-le-mul_left c s in
    absurd (omega (arith, lin)))
    (λ k. k)

pub mul_same_cancel : (c : ℕ) {a b : ℤ} → 0 < c → pos c *ℤ a ≡ pos c *ℤ b → a ≡ b
mul_same_cancel c {a} {b} p e = antisym (mul_le_cancel c p (le_eq e)) (mul_le_cancel c p (le_eq (sym e)))
