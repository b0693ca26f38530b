-- A row of small second differences lies close to its own evaluation. Assumes nothing.
use Rattle.std.specs.Prelude.{◌≡◌, ℕ, zero, suc, ◌+◌, ◌-◌, ◌*◌, ◌^◌, ◌<◌, ◌≤◌, ℤ, pos, ◌+ℤ◌, ◌*ℤ◌, neg_ℤ, ◌≤ℤ◌, refl}
use Rattle.std.proofs.Common.{sym, ap, ap₂, ◌∙◌, inl, inr, eq-or-lt_of_le, suc-mul, mul-suc, add-one, arith}
use Rattle.std.proofs.Math.Path.{fun_ext}
use Rattle.std.proofs.Math.Nat.{pow-succ', pow-zero, sub_self}
use Rattle.std.proofs.Math.Decide.{dec_le}
use Rattle.std.proofs.Math.IntN.{*ℤ_comm}
use Rattle.std.specs.Int.Signed.{≤ℤ_refl}
use Rattle.forms.specs.Choose.{choose}
use Rattle.forms.specs.Halving.{Row}
use Rattle.forms.specs.Rows.{ev, ev_add, ev_scale, ev_le, ev_constant, ev_last, ev_choose}
use Rattle.forms.specs.HalvingLemmas.{rise, bend}
use Rattle.arith.proofs.Ring.{ring, terms, lin, *ℤ-+ℤ, +ℤ-*ℤ, one-mul, mul-one}
use Rattle.arith.proofs.Order.{mul-le, le_trans, le_eq, mul_le_cancel, mul_same_cancel}

-- ---- the binomial coefficients over 1 and 2

pub choose_none : (k : ℕ) → choose k 0 ≡ 1
unfolding choose
choose_none k = refl

pub choose_one : (k : ℕ) → choose k 1 ≡ k
unfolding choose
choose_one zero = refl
choose_one (suc k) = omega (arith, choose_one k)

pub choose_two : (k : ℕ) → 2 * choose k 2 + k ≡ k * k
unfolding choose
choose_two zero = refl
choose_two (suc k) =
    omega (arith, choose_one k, choose_two k, suc-mul k (suc k), mul-suc k k)

pub rise_choose : (i k : ℕ) → rise (λ j. pos (choose j (suc i))) k ≡ pos (choose k i)
unfolding choose
rise_choose i k = omega (arith, lin)

pub bend_choose : (i k : ℕ) → bend (λ j. pos (choose j (suc (suc i)))) k ≡ pos (choose k i)
bend_choose i k = ap₂ (λ x y. x +ℤ neg_ℤ y) (rise_choose (suc i) (suc k)) (rise_choose (suc i) k) ∙ rise_choose i k

-- ---- what the rows 0, 1, 2, … and the binomial coefficients over 2 evaluate to

pow_one : (n : ℕ) → n ^ 1 ≡ n
pow_one n = omega (arith, pow-succ' n 0, ap (λ z. n * z) (pow-zero n))

pow_two : (n : ℕ) → n ^ 2 ≡ n * n
pow_two n = pow-succ' n 1 ∙ ap (λ z. n * z) (pow_one n)

ev_count : (n j : ℕ) → 0 < n → j ≤ n → ev (pos (n - j)) (pos j) n (λ k. pos k) ≡ pos (j * n ^ n)
ev_count n j n0 h =
    let e : (n - j) + j ≡ n = omega arith in
    let c : pos (n ^ 1) *ℤ ev (pos (n - j)) (pos j) n (λ k. pos (choose k 1)) ≡ pos (choose n 1 * (j ^ 1 * n ^ n)) = ev_choose (n - j) j n e n 1 in
    let rows : ◌≡◌ {A = Row} (λ k. pos (choose k 1)) (λ k. pos k) = fun_ext (λ k. ap pos (choose_one k)) in
    mul_same_cancel n n0
    (ap₂ (λ a r. pos a *ℤ ev (pos (n - j)) (pos j) n r) (sym (pow_one n)) (sym rows) ∙ c
    ∙ ap₂ (λ a b. pos (a * (b * n ^ n))) (choose_one n) (pow_one j))

ev_pairs : (n j : ℕ) → j ≤ n → pos (n * n) *ℤ ev (pos (n - j)) (pos j) n (λ k. pos (choose k 2)) ≡ pos (choose n 2 * ((j * j) * n ^ n))
ev_pairs n j h =
    let e : (n - j) + j ≡ n = omega arith in
    let c : pos (n ^ 2) *ℤ ev (pos (n - j)) (pos j) n (λ k. pos (choose k 2)) ≡ pos (choose n 2 * (j ^ 2 * n ^ n)) = ev_choose (n - j) j n e n 2 in
    ap (λ a. pos a *ℤ ev (pos (n - j)) (pos j) n (λ k. pos (choose k 2))) (sym (pow_two n)) ∙ c ∙ ap (λ b. pos (choose n 2 * (b * n ^ n))) (pow_two j)

-- ---- a row without upward bends lies below its tangents

suc_times : (k : ℕ) (δ : ℤ) → pos (suc k) *ℤ δ ≡ (pos k *ℤ δ) +ℤ δ
suc_times k δ =
    ap (λ y. pos y *ℤ δ) (sym (add-one k)) ∙ +ℤ-*ℤ (pos k) (pos 1) δ ∙ ap (λ z. (pos k *ℤ δ) +ℤ z) (one-mul δ)

tangent_end : (A N U δ y : ℤ) → (A +ℤ (N *ℤ (U *ℤ δ))) ≤ℤ ((N *ℤ y) +ℤ (δ *ℤ (U *ℤ N))) → A ≤ℤ (N *ℤ y)
tangent_end A N U δ y h =
    let e : N *ℤ (U *ℤ δ) ≡ δ *ℤ (U *ℤ N) = simp ring in
    omega (arith, lin)

module _ (n : ℕ) (Y : Row) (concave : (k : ℕ) → suc (suc k) ≤ n → bend Y k ≤ℤ pos 0) where
  slopes_fall : (t i j : ℕ) → i + t ≡ j → suc j ≤ n → rise Y j ≤ℤ rise Y i
  slopes_fall zero i j e l = let f : j ≡ i = omega arith in rw f (≤ℤ_refl (rise Y i))
  slopes_fall (suc t) i zero e l = absurd (omega arith)
  slopes_fall (suc t) i (suc j) e l =
      let first : rise Y j ≤ℤ rise Y i = slopes_fall t i j (omega arith) (omega arith) in
      let c : bend Y j ≤ℤ pos 0 = concave j l in
      omega (arith, lin)

  after : (j t k : ℕ) → j + t ≡ k → suc j ≤ n → k ≤ n → (Y k +ℤ (pos j *ℤ rise Y j)) ≤ℤ (Y j +ℤ (pos k *ℤ rise Y j))
  after j zero k e l h = let f : k ≡ j = omega arith in rw f (≤ℤ_refl (Y j +ℤ (pos j *ℤ rise Y j)))
  after j (suc t) zero e l h = absurd (omega arith)
  after j (suc t) (suc k) e l h =
      let before : (Y k +ℤ (pos j *ℤ rise Y j)) ≤ℤ (Y j +ℤ (pos k *ℤ rise Y j)) = after j t k (omega arith) l (omega arith) in
      let slope : rise Y k ≤ℤ rise Y j = slopes_fall t j k (omega arith) h in
      rw (suc_times k (rise Y j)) (omega (arith, lin))

  before : (j t k : ℕ) → k + t ≡ j → suc j ≤ n → (Y k +ℤ (pos j *ℤ rise Y j)) ≤ℤ (Y j +ℤ (pos k *ℤ rise Y j))
  before j zero k e l = let f : k ≡ j = omega arith in rw f (≤ℤ_refl (Y j +ℤ (pos j *ℤ rise Y j)))
  before j (suc t) k e l =
      let next : (Y (suc k) +ℤ (pos j *ℤ rise Y j)) ≤ℤ (Y j +ℤ (pos (suc k) *ℤ rise Y j)) = before j t (suc k) (omega arith) l in
      let next' : (Y (suc k) +ℤ (pos j *ℤ rise Y j)) ≤ℤ (Y j +ℤ ((pos k *ℤ rise Y j) +ℤ rise Y j)) = rw (suc_times k (rise Y j)) at next in
      let slope : rise Y j ≤ℤ rise Y k = slopes_fall (suc t) k j e l in
      omega (arith, lin)

  tangent : (j k : ℕ) → suc j ≤ n → k ≤ n → (Y k +ℤ (pos j *ℤ rise Y j)) ≤ℤ (Y j +ℤ (pos k *ℤ rise Y j))
  tangent j k l h = elim (dec_le j k) [ yes p ↦ after j (k - j) k (omega arith) l h | no p ↦ before j (j - k) k (omega arith) l ]

  -- so its evaluation at j/n is at most its number at j
  pub under : (j : ℕ) → 0 < n → j ≤ n → ev (pos (n - j)) (pos j) n Y ≤ℤ (pos (n ^ n) *ℤ Y j)
  under j n0 h = elim (eq-or-lt_of_le h) [ inl e ↦ last e | inr l ↦ inner l ]
    where
      last : j ≡ n → ev (pos (n - j)) (pos j) n Y ≤ℤ (pos (n ^ n) *ℤ Y j)
      last e = rw (e, sub_self n) (le_eq (ev_last n n Y))

      inner : j < n → ev (pos (n - j)) (pos j) n Y ≤ℤ (pos (n ^ n) *ℤ Y j)
      inner l =
          let e : (n - j) + j ≡ n = omega arith in
          let W : ℤ = pos (n - j) in
          let U : ℤ = pos j in
          let N : ℤ = pos (n ^ n) in
          let δ : ℤ = rise Y j in
          let lines : ev W U n (λ k. Y k +ℤ (U *ℤ δ)) ≤ℤ ev W U n (λ k. Y j +ℤ (pos k *ℤ δ)) =
          ev_le (n - j) j n (λ k. Y k +ℤ (U *ℤ δ)) (λ k. Y j +ℤ (pos k *ℤ δ)) (λ k kn. tangent j k l kn) in
          let left : ev W U n (λ k. Y k +ℤ (U *ℤ δ)) ≡ ev W U n Y +ℤ (N *ℤ (U *ℤ δ)) =
          ev_add W U n Y (λ k. U *ℤ δ) ∙ ap (λ z. ev W U n Y +ℤ z) (ev_constant (n - j) j n n e (U *ℤ δ)) in
          let turned : ◌≡◌ {A = Row} (λ k. pos k *ℤ δ) (λ k. δ *ℤ pos k) = fun_ext (λ k. *ℤ_comm (pos k) δ) in
          let slope : ev W U n (λ k. pos k *ℤ δ) ≡ δ *ℤ (U *ℤ N) =
          ap (ev W U n) turned ∙ ev_scale W U n δ (λ k. pos k) ∙ ap (λ z. δ *ℤ z) (ev_count n j n0 h) in
          let right : ev W U n (λ k. Y j +ℤ (pos k *ℤ δ)) ≡ (N *ℤ Y j) +ℤ (δ *ℤ (U *ℤ N)) =
          ev_add W U n (λ k. Y j) (λ k. pos k *ℤ δ) ∙ ap₂ ◌+ℤ◌ (ev_constant (n - j) j n n e (Y j)) slope in
          tangent_end (ev W U n Y) N U δ (Y j) (rw (left, right) at lines)

-- ---- a row of bounded bends

bent_last : (a b g u v : ℤ) → (a +ℤ neg_ℤ u) ≤ℤ (b +ℤ neg_ℤ v) → g +ℤ v ≡ u → a ≤ℤ (b +ℤ g)
bent_last a b g u v h e = omega (arith, lin)

bent_gap : (n N M j : ℤ) → (n *ℤ (N *ℤ (M *ℤ (j *ℤ (n +ℤ neg_ℤ j))))) +ℤ (N *ℤ (M *ℤ ((n *ℤ n) *ℤ ((j *ℤ j) +ℤ neg_ℤ j))))
    ≡ N *ℤ (M *ℤ ((j *ℤ j) *ℤ ((n *ℤ n) +ℤ neg_ℤ n)))
bent_gap n N M j = simp terms (omega (arith, lin))

bent_left : (n q M A B : ℤ) → (pos 2 *ℤ (n *ℤ n)) *ℤ ((q *ℤ A) +ℤ (neg_ℤ M *ℤ B)) ≡ (n *ℤ (pos 2 *ℤ (n *ℤ (q *ℤ A)))) +ℤ neg_ℤ (M *ℤ (pos 2 *ℤ ((n *ℤ n) *ℤ B)))
bent_left n q M A B = simp terms

bent_right : (n N q M x c : ℤ) → (pos 2 *ℤ (n *ℤ n)) *ℤ (N *ℤ ((q *ℤ x) +ℤ (neg_ℤ M *ℤ c)))
    ≡ (n *ℤ (pos 2 *ℤ (n *ℤ (q *ℤ (N *ℤ x))))) +ℤ neg_ℤ (N *ℤ (M *ℤ ((n *ℤ n) *ℤ (pos 2 *ℤ c))))
bent_right n N q M x c = simp terms

bent_middle : (N M j C : ℤ) → M *ℤ (pos 2 *ℤ (C *ℤ ((j *ℤ j) *ℤ N))) ≡ N *ℤ (M *ℤ ((j *ℤ j) *ℤ (pos 2 *ℤ C)))
bent_middle N M j C = simp terms

bent_ring : (n N q M A B x c C j : ℤ) → (n *ℤ n) *ℤ B ≡ C *ℤ ((j *ℤ j) *ℤ N)
    → pos 2 *ℤ C ≡ (n *ℤ n) +ℤ neg_ℤ n → pos 2 *ℤ c ≡ (j *ℤ j) +ℤ neg_ℤ j
    → ((pos 2 *ℤ (n *ℤ n)) *ℤ ((q *ℤ A) +ℤ (neg_ℤ M *ℤ B))) ≤ℤ ((pos 2 *ℤ (n *ℤ n)) *ℤ (N *ℤ ((q *ℤ x) +ℤ (neg_ℤ M *ℤ c))))
    → (n *ℤ (pos 2 *ℤ (n *ℤ (q *ℤ A)))) ≤ℤ (n *ℤ ((pos 2 *ℤ (n *ℤ (q *ℤ (N *ℤ x)))) +ℤ (N *ℤ (M *ℤ (j *ℤ (n +ℤ neg_ℤ j))))))
bent_ring n N q M A B x c C j eB eC ec h =
    let left : (pos 2 *ℤ (n *ℤ n)) *ℤ ((q *ℤ A) +ℤ (neg_ℤ M *ℤ B)) ≡ (n *ℤ (pos 2 *ℤ (n *ℤ (q *ℤ A)))) +ℤ neg_ℤ (N *ℤ (M *ℤ ((j *ℤ j) *ℤ ((n *ℤ n) +ℤ neg_ℤ n)))) =
    bent_left n q M A B ∙ ap (λ z. (n *ℤ (pos 2 *ℤ (n *ℤ (q *ℤ A)))) +ℤ neg_ℤ z) (ap (λ z. M *ℤ (pos 2 *ℤ z)) eB ∙ bent_middle N M j C ∙ ap (λ z. N *ℤ (M *ℤ ((j *ℤ j) *ℤ z))) eC) in
    let right : (pos 2 *ℤ (n *ℤ n)) *ℤ (N *ℤ ((q *ℤ x) +ℤ (neg_ℤ M *ℤ c))) ≡ (n *ℤ (pos 2 *ℤ (n *ℤ (q *ℤ (N *ℤ x))))) +ℤ neg_ℤ (N *ℤ (M *ℤ ((n *ℤ n) *ℤ ((j *ℤ j) +ℤ neg_ℤ j)))) =
    bent_right n N q M x c ∙ ap (λ z. (n *ℤ (pos 2 *ℤ (n *ℤ (q *ℤ (N *ℤ x))))) +ℤ neg_ℤ (N *ℤ (M *ℤ ((n *ℤ n) *ℤ z)))) ec in
    rw (*ℤ-+ℤ n (pos 2 *ℤ (n *ℤ (q *ℤ (N *ℤ x)))) (N *ℤ (M *ℤ (j *ℤ (n +ℤ neg_ℤ j)))))
    (bent_last (n *ℤ (pos 2 *ℤ (n *ℤ (q *ℤ A)))) (n *ℤ (pos 2 *ℤ (n *ℤ (q *ℤ (N *ℤ x))))) (n *ℤ (N *ℤ (M *ℤ (j *ℤ (n +ℤ neg_ℤ j)))))
    (N *ℤ (M *ℤ ((j *ℤ j) *ℤ ((n *ℤ n) +ℤ neg_ℤ n)))) (N *ℤ (M *ℤ ((n *ℤ n) *ℤ ((j *ℤ j) +ℤ neg_ℤ j)))) (rw (left, right) at h) (bent_gap n N M j))

bent_bend : (q M a b c x y z : ℤ) → (((q *ℤ c) +ℤ (M *ℤ z)) +ℤ neg_ℤ ((q *ℤ b) +ℤ (M *ℤ y))) +ℤ neg_ℤ (((q *ℤ b) +ℤ (M *ℤ y)) +ℤ neg_ℤ ((q *ℤ a) +ℤ (M *ℤ x)))
    ≡ (q *ℤ ((c +ℤ neg_ℤ b) +ℤ neg_ℤ (b +ℤ neg_ℤ a))) +ℤ (M *ℤ ((z +ℤ neg_ℤ y) +ℤ neg_ℤ (y +ℤ neg_ℤ x)))
bent_bend q M a b c x y z = simp terms

bent_concave : (q M : ℤ) (X : Row) (k : ℕ) → (q *ℤ bend X k) ≤ℤ M → bend (λ i. (q *ℤ X i) +ℤ (neg_ℤ M *ℤ pos (choose i 2))) k ≤ℤ pos 0
bent_concave q M X k h =
    let e : bend (λ i. (q *ℤ X i) +ℤ (neg_ℤ M *ℤ pos (choose i 2))) k ≡ (q *ℤ bend X k) +ℤ (neg_ℤ M *ℤ bend (λ i. pos (choose i 2)) k) =
    bent_bend q (neg_ℤ M) (X k) (X (suc k)) (X (suc (suc k))) (pos (choose k 2)) (pos (choose (suc k) 2)) (pos (choose (suc (suc k)) 2)) in
    let one : bend (λ i. pos (choose i 2)) k ≡ pos 1 = bend_choose 0 k ∙ ap pos (choose_none k) in
    let all : bend (λ i. (q *ℤ X i) +ℤ (neg_ℤ M *ℤ pos (choose i 2))) k ≡ (q *ℤ bend X k) +ℤ neg_ℤ M =
    e ∙ ap (λ z. (q *ℤ bend X k) +ℤ (neg_ℤ M *ℤ z)) one ∙ ap (λ z. (q *ℤ bend X k) +ℤ z) (mul-one (neg_ℤ M)) in
    le_trans (le_eq all) (minus_le (q *ℤ bend X k) M h)
  where
    minus_le : (a b : ℤ) → a ≤ℤ b → (a +ℤ neg_ℤ b) ≤ℤ pos 0
    minus_le a b l = omega (arith, lin)

-- where q times every bend is at most M: q times the evaluation at j/n is at most q times the number at j, plus M · j(n - j)/2n
pub bent : (n j : ℕ) → 0 < n → j ≤ n → (q M : ℤ) (X : Row) → ((k : ℕ) → suc (suc k) ≤ n → (q *ℤ bend X k) ≤ℤ M)
    → (pos 2 *ℤ (pos n *ℤ (q *ℤ ev (pos (n - j)) (pos j) n X)))
    ≤ℤ ((pos 2 *ℤ (pos n *ℤ (q *ℤ (pos (n ^ n) *ℤ X j)))) +ℤ (pos (n ^ n) *ℤ (M *ℤ pos (j * (n - j)))))
bent n j n0 h q M X bends =
    let W : ℤ = pos (n - j) in
    let U : ℤ = pos j in
    let N : ℤ = pos (n ^ n) in
    let C : Row = λ k. pos (choose k 2) in
    let Y : Row = λ k. (q *ℤ X k) +ℤ (neg_ℤ M *ℤ C k) in
    let concave : (k : ℕ) → suc (suc k) ≤ n → bend Y k ≤ℤ pos 0 = λ k l. bent_concave q M X k (bends k l) in
    let below : ev W U n Y ≤ℤ (N *ℤ Y j) = under n Y concave j n0 h in
    let value : ev W U n Y ≡ (q *ℤ ev W U n X) +ℤ (neg_ℤ M *ℤ ev W U n C) =
    ev_add W U n (λ k. q *ℤ X k) (λ k. neg_ℤ M *ℤ C k) ∙ ap₂ ◌+ℤ◌ (ev_scale W U n q X) (ev_scale W U n (neg_ℤ M) C) in
    let twice_n : pos 2 *ℤ pos (choose n 2) ≡ (pos n *ℤ pos n) +ℤ neg_ℤ (pos n) = omega (arith, lin, choose_two n) in
    let twice_j : pos 2 *ℤ pos (choose j 2) ≡ (U *ℤ U) +ℤ neg_ℤ U = omega (arith, lin, choose_two j) in
    let gap : pos (n - j) ≡ pos n +ℤ neg_ℤ (pos j) = omega (arith, lin) in
    let rest : pos (j * (n - j)) ≡ U *ℤ (pos n +ℤ neg_ℤ U) = ap (λ z. pos j *ℤ z) gap in
    rw rest (mul_le_cancel n n0
    (bent_ring (pos n) N q M (ev W U n X) (ev W U n C) (X j) (C j) (pos (choose n 2)) U (ev_pairs n j h) twice_n twice_j
    (mul-le (2 * (n * n)) (rw value at below))))
