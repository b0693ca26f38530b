-- The zero digits below a number's lowest set one, against its remainder by a power of two. Assumes nothing.
use Rattle.std.proofs.Common.{◌≡◌, ℕ, zero, suc, ◌+◌, ◌*◌, ◌/◌, ◌%◌, ◌^◌, ◌<◌, ◌≤◌, refl, ap, ◌∙◌, pow-suc, arith, lit<, pow_pos}
use native.Mathlib.Nat.{mod-one}
use lib.Arith.{mod-mul}
use lib.Count.{count_trailing_zeros, under}

mod_next : (n d : ℕ) → n % 2 ^ suc d ≡ (n / 2 % 2 ^ d) * 2 + n % 2
mod_next n d = ap (λ m. n % m) (pow-suc 2 d) ∙ mod-mul n (pow_pos d) (lit< tt)

-- no digit below d is set
pub zeros_whole : (k n d : ℕ) → d ≤ count_trailing_zeros k n → n % 2 ^ d ≡ 0
unfolding count_trailing_zeros
zeros_whole k n zero h = mod-one n
zeros_whole zero n (suc d) h = absurd (omega arith)
zeros_whole (suc k) n (suc d) h = mod_next n d ∙ go (n % 2) refl h (zeros_whole k (n / 2) d)
  where
    go : (b : ℕ) → n % 2 ≡ b → suc d ≤ under b (count_trailing_zeros k (n / 2)) → (d ≤ count_trailing_zeros k (n / 2) → n / 2 % 2 ^ d ≡ 0) → (n / 2 % 2 ^ d) * 2 + n % 2 ≡ 0
    go zero e l ih = omega (arith, ih (omega arith))
    go (suc b) e l ih = absurd (omega arith)

-- some digit below d is set
pub zeros_cut : (k n d : ℕ) → n < 2 ^ k → 0 < n → count_trailing_zeros k n < d → 0 < n % 2 ^ d
unfolding count_trailing_zeros
zeros_cut k n zero s p h = absurd (omega arith)
zeros_cut zero n (suc d) s p h = absurd (omega arith)
zeros_cut (suc k) n (suc d) s p h = rw (mod_next n d) (go (n % 2) refl h (zeros_cut k (n / 2) d))
  where
    go : (b : ℕ) → n % 2 ≡ b → under b (count_trailing_zeros k (n / 2)) < suc d → (n / 2 < 2 ^ k → 0 < n / 2 → count_trailing_zeros k (n / 2) < d → 0 < n / 2 % 2 ^ d) → 0 < (n / 2 % 2 ^ d) * 2 + n % 2
    go zero e l ih = omega (arith, ih (omega (arith, pow-suc 2 k)) (omega arith) (omega arith))
    go (suc b) e l ih = omega arith
