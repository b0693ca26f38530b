-- The ring laws of ℤ that the library lacks, and sets of them.
--     ring      multiplies out and sorts: `simp ring` decides an equation of sums and products
--     terms     the same, and moves negation inward
--     units     products by one and by zero, and sums with zero: run it before the others
--     lin       for `omega`: sums, negations and numeral multiples, with every other product an atom
-- Assumes nothing.
use Rattle.std.proofs.Common.{◌≡◌, ℕ, suc, ◌*◌, ℤ, pos, ◌+ℤ◌, ◌-ℤ◌, ◌*ℤ◌, neg_ℤ, sym, ap, ◌∙◌, add-one, arith}
use lib.IntN.{+ℤ_assoc, +ℤ_comm, +ℤ_idl, +ℤ_idr, *ℤ_comm, zero-*ℤ, *ℤ-zero, neg_ℤ-+ℤ, neg_ℤ-neg_ℤ}
use borrow.Author.Differences.{up, down, same_in, same_out, sum_is_lem, product_is, neg_is, le_out, lt_out, at_most_in, below_in}

pub *ℤ-assoc : (a b c : ℤ) → (a *ℤ b) *ℤ c ≡ a *ℤ (b *ℤ c)
*ℤ-assoc a b c =
    same_in _ _ (omega (
      arith,
      product_is (a *ℤ b) c,
      product_is a (b *ℤ c),
      ap (λ x. x * up c) (product_is a b).0,
      ap (λ x. x * down c) (product_is a b).0,
      ap (λ x. x * up c) (product_is a b).1,
      ap (λ x. x * down c) (product_is a b).1,
      ap (λ x. up a * x) (product_is b c).0,
      ap (λ x. down a * x) (product_is b c).0,
      ap (λ x. up a * x) (product_is b c).1,
      ap (λ x. down a * x) (product_is b c).1,
    ))

pub *ℤ-+ℤ : (a b c : ℤ) → a *ℤ (b +ℤ c) ≡ (a *ℤ b) +ℤ (a *ℤ c)
*ℤ-+ℤ a b c =
    same_in _ _ (omega (
      arith,
      product_is a (b +ℤ c),
      sum_is_lem (a *ℤ b) (a *ℤ c),
      product_is a b,
      product_is a c,
      ap (λ x. up a * x) (sum_is_lem b c),
      ap (λ x. down a * x) (sum_is_lem b c),
    ))

pub +ℤ-*ℤ : (a b c : ℤ) → (a +ℤ b) *ℤ c ≡ (a *ℤ c) +ℤ (b *ℤ c)
+ℤ-*ℤ a b c = *ℤ_comm (a +ℤ b) c ∙ *ℤ-+ℤ c a b ∙ ap (λ x. x +ℤ (c *ℤ b)) (*ℤ_comm c a) ∙ ap (λ x. (a *ℤ c) +ℤ x) (*ℤ_comm c b)

pub *ℤ-left-comm : (a b c : ℤ) → a *ℤ (b *ℤ c) ≡ b *ℤ (a *ℤ c)
*ℤ-left-comm a b c = sym (*ℤ-assoc a b c) ∙ ap (λ x. x *ℤ c) (*ℤ_comm a b) ∙ *ℤ-assoc b a c

pub +ℤ-left-comm : (a b c : ℤ) → a +ℤ (b +ℤ c) ≡ b +ℤ (a +ℤ c)
+ℤ-left-comm a b c = sym (+ℤ_assoc a b c) ∙ ap (λ x. x +ℤ c) (+ℤ_comm a b) ∙ +ℤ_assoc b a c

pub neg-*ℤ : (a b : ℤ) → neg_ℤ a *ℤ b ≡ neg_ℤ (a *ℤ b)
neg-*ℤ a b =
    same_in _ _ (omega (
      arith,
      product_is (neg_ℤ a) b,
      product_is a b,
      neg_is (a *ℤ b),
      ap (λ x. x * up b) (neg_is a).0,
      ap (λ x. x * up b) (neg_is a).1,
      ap (λ x. x * down b) (neg_is a).0,
      ap (λ x. x * down b) (neg_is a).1,
    ))

pub *ℤ-neg : (a b : ℤ) → a *ℤ neg_ℤ b ≡ neg_ℤ (a *ℤ b)
*ℤ-neg a b = *ℤ_comm a (neg_ℤ b) ∙ neg-*ℤ b a ∙ ap neg_ℤ (*ℤ_comm b a)

pub mul_diff : (a b c : ℤ) → a *ℤ (b -ℤ c) ≡ (a *ℤ b) -ℤ (a *ℤ c)
mul_diff a b c = *ℤ-+ℤ a b (neg_ℤ c) ∙ ap (λ x. (a *ℤ b) +ℤ x) (*ℤ-neg a c)

pub diff_mul : (a b c : ℤ) → (a -ℤ b) *ℤ c ≡ (a *ℤ c) -ℤ (b *ℤ c)
diff_mul a b c = +ℤ-*ℤ a (neg_ℤ b) c ∙ ap (λ x. (a *ℤ c) +ℤ x) (neg-*ℤ b c)

pub one-mul : (a : ℤ) → pos 1 *ℤ a ≡ a
one-mul a = same_in _ _ (omega (arith, product_is (pos 1) a))

pub mul-one : (a : ℤ) → a *ℤ pos 1 ≡ a
mul-one a = *ℤ_comm a (pos 1) ∙ one-mul a

-- one more of a factor
pub mul_next : (a b : ℤ) → a *ℤ (b +ℤ pos 1) ≡ (a *ℤ b) +ℤ a
mul_next a b = *ℤ-+ℤ a b (pos 1) ∙ ap (λ x. (a *ℤ b) +ℤ x) (mul-one a)

pub suc-*ℤ : (n : ℕ) (a : ℤ) → pos (suc n) *ℤ a ≡ (pos n *ℤ a) +ℤ a
suc-*ℤ n a =
    ap (λ k. pos k *ℤ a) (sym (add-one n)) ∙ +ℤ-*ℤ (pos n) (pos 1) a ∙ ap (λ x. (pos n *ℤ a) +ℤ x) (one-mul a)

pub twice : (a : ℤ) → pos 2 *ℤ a ≡ a +ℤ a
twice a = same_in _ _ (omega (arith, product_is (pos 2) a, sum_is_lem a a))

-- a natural times an integer, for `omega`: linear where k is a numeral
pub scale_is : (k : ℕ) (b : ℤ) → (up (pos k *ℤ b) ≡ k * up b) × (down (pos k *ℤ b) ≡ k * down b)
scale_is k b = omega (arith, product_is (pos k) b)

pub ruleset ring = (*ℤ-+ℤ, +ℤ-*ℤ, *ℤ-assoc, *ℤ-left-comm, *ℤ_comm, +ℤ_assoc, +ℤ-left-comm, +ℤ_comm)

pub ruleset terms = (twice, neg_ℤ-neg_ℤ, neg-*ℤ, *ℤ-neg, neg_ℤ-+ℤ, ring)

pub ruleset units = (one-mul, mul-one, zero-*ℤ, *ℤ-zero, +ℤ_idl, +ℤ_idr)

pub ruleset lin = (same_out, le_out, lt_out, same_in, at_most_in, below_in, sum_is_lem, neg_is, scale_is)
