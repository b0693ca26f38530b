-- The halvings as loops run them: digit after digit, round after round in place.
--     partly f n t r     the row r of degree n after t rounds in place: round t writes the places 0, 1, … n - t - 1, each from itself
--                        and its right neighbour
-- Assumes nothing.
use Rattle.std.proofs.Common.{◌≡◌, ℕ, zero, suc, ◌+◌, ◌-◌, ◌/◌, ◌%◌, ◌^◌, ◌<◌, ◌≤◌, min, List, length, set, ℤ, pos, sym, refl, ap, ◌∙◌, ap₂, ⊎_elim, pow-suc, div-one, add-one, arith}
use native.Mathlib.Nat.{div-div-eq-div-mul}
use Rattle.std.proofs.lemmas.List.{get_or-set_same, get_or-set_other}
use Rattle.std.proofs.lemmas.Bool.{cases_eq, cases_lt}
use Rattle.forms.specs.Arrays.{numbers, Holds}
use Rattle.forms.specs.Halving.{Row, rounds, kept, deep}
use Rattle.forms.specs.WorkLemmas.{kept_reads}

-- ---- digits

-- one more digit, behind which s are left
pub deep_next : (g : ℕ → Row → Row) (d p s : ℕ) (r : Row) → s < d → deep g (d - s) (p / 2 ^ s) r ≡ g (p / 2 ^ s % 2) (deep g (d - suc s) (p / 2 ^ suc s) r)
unfolding deep
deep_next g d p s r h =
    let e : d - s ≡ suc (d - suc s) = omega arith in
    let f : p / 2 ^ s / 2 ≡ p / 2 ^ suc s = div-div-eq-div-mul p (2 ^ s) 2 ∙ ap (λ x. p / x) (sym (pow-suc 2 s)) in
    ap (λ n. deep g n (p / 2 ^ s) r) e ∙ ap (λ q. g (p / 2 ^ s % 2) (deep g (d - suc s) q r)) f

-- no digit yet, and all digits
pub deep_none : (g : ℕ → Row → Row) (d p : ℕ) (r : Row) → deep g (d - d) (p / 2 ^ d) r ≡ r
unfolding deep
deep_none g d p r = let e : d - d ≡ 0 = omega arith in ap (λ n. deep g n (p / 2 ^ d) r) e

pub deep_all : (g : ℕ → Row → Row) (d p : ℕ) (r : Row) → deep g (d - 0) (p / 2 ^ 0) r ≡ deep g d p r
deep_all g d p r =
    let e : d - 0 ≡ d = omega arith in
    ap (λ n. deep g n (p / 2 ^ 0) r) e ∙ ap (λ q. deep g d q r) (div-one p)

-- ---- rounds in place

unfoldable pub partly : (ℤ → ℤ → ℤ) → ℕ → ℕ → Row → Row
unfolding rounds
partly f n t r k = rounds f (min t (n - k)) r k

pub partly_start : (f : ℤ → ℤ → ℤ) (n : ℕ) (r : Row) (k : ℕ) → partly f n 0 r k ≡ r k
unfolding partly
partly_start f n r k = let e : min 0 (n - k) ≡ 0 = omega arith in rw e

partly_step : (f : ℤ → ℤ → ℤ) (n t : ℕ) (r : Row) (k : ℕ) → k + t < n → partly f n (suc t) r k ≡ f (partly f n t r k) (partly f n t r (suc k))
unfolding partly
partly_step f n t r k h =
    let a : min (suc t) (n - k) ≡ suc t = omega arith in
    let c : min t (n - k) ≡ t = omega arith in
    let d : min t (n - suc k) ≡ t = omega arith in
    rw (a, c, d)

partly_rest : (f : ℤ → ℤ → ℤ) (n t : ℕ) (r : Row) (k : ℕ) → n ≤ k + t → partly f n (suc t) r k ≡ partly f n t r k
unfolding partly
partly_rest f n t r k h =
    let a : min (suc t) (n - k) ≡ n - k = omega arith in
    let c : min t (n - k) ≡ n - k = omega arith in
    rw (a, c)

-- the first number after t rounds is the lower half's number at t, and n rounds leave the upper half
partly_first : (f : ℤ → ℤ → ℤ) (n t : ℕ) (r : Row) → t ≤ n → partly f n t r 0 ≡ kept f n 0 r t
unfolding partly kept
partly_first f n t r h = let e : min t (n - 0) ≡ t = omega arith in rw e

partly_end : (f : ℤ → ℤ → ℤ) (n b : ℕ) (r : Row) (k : ℕ) → k ≤ n → partly f n n r k ≡ kept f n (suc b) r k
unfolding partly kept
partly_end f n b r k h = let e : min n (n - k) ≡ n - k = omega arith in rw e

-- ---- on arrays

module _ (f : ℤ → ℤ → ℤ) (n : ℕ) (r : Row) where
  -- the array of the rounds: at the start, after one more round, and after all
  pub upper_start : (xs : List ℤ) → Holds n xs r → Holds n xs (partly f n 0 r)
  upper_start xs h k l = h k l ∙ sym (partly_start f n r k)

  pub upper_more : (t : ℕ) (xs ys : List ℤ) → t < n → Holds n xs (partly f n t r)
      → ((k : ℕ) → k < n - t → numbers ys k ≡ f (numbers xs k) (numbers xs (k + 1)))
      → ((k : ℕ) → n - t ≤ k → numbers ys k ≡ numbers xs k) → Holds n ys (partly f n (t + 1) r)
  upper_more t xs ys t-lt h new rest k l =
      rw (add-one t)
      (⊎_elim
      (λ (b : k < n - t).
      new k b ∙ ap₂ f (h k l) (ap (numbers xs) (add-one k) ∙ h (suc k) (omega arith)) ∙ sym (partly_step f n t r k (omega arith)))
      (λ (b : n - t ≤ k). rest k b ∙ h k l ∙ sym (partly_rest f n t r k (omega arith)))
      (cases_lt k (n - t)))

  pub upper_end : (b t : ℕ) (xs : List ℤ) → t ≡ n → ¬ (b ≡ 0) → Holds n xs (partly f n t r) → Holds n xs (kept f n b r)
  upper_end zero t xs e b0 h k l = absurd (b0 refl)
  upper_end (suc b) t xs e b0 h k l = h k l ∙ ap (λ s. partly f n s r k) e ∙ partly_end f n b r k l

  -- the array of the first numbers
  pub lower_start : (xs : List ℤ) → Holds n xs r → Holds 0 xs (kept f n 0 r)
  lower_start xs h k l =
      let e : k ≡ 0 = omega arith in
      ap (numbers xs) e ∙ h 0 (omega arith) ∙ sym (partly_start f n r 0) ∙ partly_first f n 0 r (omega arith) ∙ ap (kept f n 0 r) (sym e)

  pub lower_more : (t : ℕ) (xs ys : List ℤ) (z : ℤ) → t < n → t + 1 < length xs → Holds t xs (kept f n 0 r) → Holds n ys (partly f n (t + 1) r)
      → z ≡ numbers ys 0 → Holds (t + 1) (set xs (t + 1) z) (kept f n 0 r)
  lower_more t xs ys z t-lt len h up e k l =
      ⊎_elim
      (λ (s : k ≡ t + 1).
      ap (numbers (set xs (t + 1) z)) s ∙ get_or-set_same xs (t + 1) z (pos 0) len
      ∙ e ∙ up 0 (omega arith) ∙ partly_first f n (t + 1) r (omega arith) ∙ ap (kept f n 0 r) (sym s))
      (λ (s : k ≡ t + 1 → ⊥). get_or-set_other xs (t + 1) k z (pos 0) s ∙ h k (omega arith))
      (cases_eq k (t + 1))

  -- one more digit of those that are left
  pub digit_more : (d p t b : ℕ) (xs ys : List ℤ) → 0 < t → t ≤ d → b ≡ p / 2 ^ (t - 1) % 2 → Holds n xs (deep (kept f n) (d - t) (p / 2 ^ t) r)
      → Holds n ys (kept f n b (numbers xs)) → Holds n ys (deep (kept f n) (d - (t - 1)) (p / 2 ^ (t - 1)) r)
  digit_more d p t b xs ys some most e h g k l =
      let up : suc (t - 1) ≡ t = omega arith in
      g k l ∙ kept_reads f n b (numbers xs) (deep (kept f n) (d - t) (p / 2 ^ t) r) h k l
      ∙ ap₂ (λ c u. kept f n c (deep (kept f n) (d - u) (p / 2 ^ u) r) k) e (sym up)
      ∙ ap (λ s. s k) (sym (deep_next (kept f n) d p (t - 1) r (omega arith)))
