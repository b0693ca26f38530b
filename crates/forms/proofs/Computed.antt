-- Rules that hold at finitely many numbers, shown by one test that antt computes. Assumes nothing.
use Rattle.std.proofs.Common.{◌≡◌, ℕ, zero, suc, ◌+◌, ◌*◌, ◌<◌, ◌≤◌, Bool, true, false, T, ltb, leb, sym, subst, inl, inr, arith, ltb→lt, leb→le}
use native.Mathlib.Nat.{le-suc_iff}
use Rattle.forms.specs.Choose.{factorial}

abbrev pub both : Bool → Bool → Bool
both true b = b
both false b = false

abbrev pub either : Bool → Bool → Bool
either true b = true
either false b = b

pub both_left : (a b : Bool) → T (both a b) → T a
both_left true b t = tt
both_left false b t = t

pub both_right : (a b : Bool) → T (both a b) → T b
both_right true b t = t
both_right false b t = absurd t

pub either_right : (a b : Bool) → T (either a b) → ¬ (T a) → T b
either_right true b t n = absurd (n tt)
either_right false b t n = t

-- the test f passes at each number below n
abbrev pub each : ℕ → (ℕ → Bool) → Bool
each zero f = true
each (suc n) f = both (f n) (each n f)

pub at : (n : ℕ) (f : ℕ → Bool) → T (each n f) → (k : ℕ) → k < n → T (f k)
at zero f t k h = absurd (omega arith)
at (suc n) f t k h =
    elim (le-suc_iff.0 h) [
      | inl l ↦ at n f (both_right (f n) (each n f) t) k l
      | inr e ↦ let s : k ≡ n = omega arith in subst (λ (m : ℕ). T (f m)) (sym s) (both_left (f n) (each n f) t)
    ]

-- ---- factorials

pub factorial_small : (n : ℕ) → n < 8 → factorial n ≤ 5040
unfolding factorial
factorial_small n l = leb→le (factorial n) 5040 (at 8 (λ k. leb (factorial k) 5040) tt n l)

-- the product of the factorials of three degrees with at most 64 coefficients
small : ℕ → ℕ → ℕ → Bool
small a b c = either (ltb 64 ((a + 1) * ((b + 1) * (c + 1)))) (leb (factorial a * (factorial b * factorial c)) 25401600)

pub factorials_small : (a b c : ℕ) → a < 8 → b < 8 → c < 8 → (a + 1) * ((b + 1) * (c + 1)) ≤ 64 → factorial a * (factorial b * factorial c) ≤ 25401600
unfolding small factorial
factorials_small a b c al bl cl h =
    let passed : T (small a b c) = at 8 (λ z. small a b z) (at 8 (λ y. each 8 (λ z. small a y z)) (at 8 (λ x. each 8 (λ y. each 8 (λ z. small x y z))) tt a al) b bl) c cl in
    leb→le (factorial a * (factorial b * factorial c)) 25401600
    (either_right (ltb 64 ((a + 1) * ((b + 1) * (c + 1)))) (leb (factorial a * (factorial b * factorial c)) 25401600) passed
    (λ t. absurd (omega (arith, ltb→lt 64 ((a + 1) * ((b + 1) * (c + 1))) t))))
