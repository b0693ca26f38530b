-- The Bernstein row of a power: what the weights evaluate to. Assumes nothing.
use Rattle.std.specs.Prelude.{◌≡◌, ℕ, ◌+◌, ◌-◌, ◌*◌, ◌^◌, ◌<◌, ◌≤◌, ℤ, pos, ◌*ℤ◌}
use Rattle.std.proofs.Common.{sym, ap, ◌∙◌, mul_comm, arith, pow-add}
use Rattle.std.proofs.Math.Path.{fun_ext}
use Rattle.std.proofs.Math.Nat.{one-le-pow}
use Rattle.forms.specs.Choose.{factorial, choose, weight}
use Rattle.forms.specs.Halving.{Row}
use Rattle.mapping.specs.Polynomials.{share}
use Rattle.forms.specs.Extra.{nats}
use Rattle.forms.specs.ChooseLemmas.{choose_factorials}
use Rattle.forms.specs.Rows.{ev, ev_scale, ev_choose}
use Rattle.arith.proofs.Ring.{*ℤ-left-comm}
use Rattle.arith.proofs.Order.{mul_same_cancel}

-- the powers of one denominator
share_nats : (K C U A B N F : ℕ) → A * B ≡ N → C * K ≡ F → K * (C * (U * N)) ≡ A * (F * (U * B))
share_nats K C U A B N F a b = rw (← a, ← b) (simp nats)

-- the weights of i along j evaluate to n! times the power i
pub ev_weight : (w u s : ℕ) → w + u ≡ s → 0 < s → (n i : ℕ) → i ≤ n
    → ev (pos w) (pos u) n (λ j. pos (weight n j i)) ≡ pos (factorial n * share n i u s)
unfolding weight
ev_weight w u s e s0 n i h =
    let K : ℕ = factorial i * factorial (n - i) in
    let turned : ◌≡◌ {A = Row} (λ j. pos (choose j i * K)) (λ j. pos (K * choose j i)) = fun_ext (λ j. ap pos (mul_comm (choose j i) K)) in
    let E : ℤ = ev (pos w) (pos u) n (λ j. pos (choose j i)) in
    let scaled_row : ev (pos w) (pos u) n (λ j. pos (K * choose j i)) ≡ pos K *ℤ E = ev_scale (pos w) (pos u) n (pos K) (λ j. pos (choose j i)) in
    let powers : s ^ i * s ^ (n - i) ≡ s ^ n =
    let k : i + (n - i) ≡ n = omega arith in
    sym (pow-add s i (n - i)) ∙ ap (λ x. s ^ x) k in
    ap (ev (pos w) (pos u) n) turned ∙ scaled_row
    ∙ mul_same_cancel (s ^ i) (one-le-pow i s s0)
    (*ℤ-left-comm (pos (s ^ i)) (pos K) E
    ∙ ap (λ z. pos K *ℤ z) (ev_choose w u s e n i)
    ∙ ap pos (share_nats K (choose n i) (u ^ i) (s ^ i) (s ^ (n - i)) (s ^ n) (factorial n) powers (choose_factorials n i (n - i) (omega arith))))
