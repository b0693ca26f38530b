-- Sums over the coefficients at weights that lie close together lie close together.
--     bend_loss n d S    the part of the slack for one input that comes from the bends
--     times_ones T       the row of the number T
-- Assumes nothing.
use Rattle.std.specs.Prelude.{◌≡◌, ℕ, zero, suc, ◌+◌, ◌*◌, ◌^◌, ◌<◌, ℤ, pos, negsuc, ◌+ℤ◌, ◌*ℤ◌, neg_ℤ, ◌≤ℤ◌, refl}
use Rattle.std.proofs.Math.Path.{ap}
use Rattle.std.proofs.Common.{ap₂, ◌∙◌, mul-pos, mul-one, zero-mul, arith}
use Rattle.std.proofs.Math.Nat.{one-le-pow}
use Rattle.std.proofs.Math.IntN.{*ℤ-zero, +ℤ_idr}
use Rattle.std.specs.Int.Signed.{≤ℤ_refl}
use Rattle.arith.specs.Rounding.{quot_up}
use Rattle.forms.specs.Halving.{Row}
use Rattle.forms.specs.Polynomial.{Table, weighed}
use Rattle.forms.specs.Tables.{sizes, pairs, ones, bends1, bends2, bends3, loss, slack}
use Rattle.forms.specs.Extra.{quot_up_is, minus_one}
use Rattle.forms.specs.Rows.{Linear}
use Rattle.forms.specs.Powers.{Close}
use Rattle.forms.specs.Weighed.{Under, linear1, linear2, linear3, weighed_le, weighed_scale}
use Rattle.arith.proofs.Ring.{lin, *ℤ-+ℤ, *ℤ-left-comm}
use Rattle.arith.proofs.Order.{add_le, mul-le, le_trans, le_eq, antisym, mul_le_cancel}

unfoldable pub bend_loss : ℕ → ℕ → ℤ → ℤ
bend_loss zero d S = pos 0
bend_loss (suc m) d S = quot_up S (2 * suc m * 4 ^ d)

gap_nonneg : (K : ℕ) (x y : ℤ) → y ≤ℤ x → pos 0 ≤ℤ ((pos K *ℤ x) +ℤ neg_ℤ (pos K *ℤ y))
gap_nonneg K x y h = let m : (pos K *ℤ y) ≤ℤ (pos K *ℤ x) = mul-le K h in plain (pos K *ℤ x) (pos K *ℤ y) m
  where
    plain : (a b : ℤ) → b ≤ℤ a → pos 0 ≤ℤ (a +ℤ neg_ℤ b)
    plain a b l = omega (arith, lin)

gap_le : (a b c : ℤ) → a ≤ℤ (b +ℤ c) → (a +ℤ neg_ℤ b) ≤ℤ c
gap_le a b c h = omega (arith, lin)

gap_back : (a b c : ℤ) → (a +ℤ neg_ℤ b) ≤ℤ c → a ≤ℤ (b +ℤ c)
gap_back a b c h = omega (arith, lin)

gap_value : (n : ℕ) (H : Row → ℤ) → Linear n H → (x y : Row) (K : ℕ)
    → H (λ i. (pos K *ℤ x i) +ℤ (negsuc 0 *ℤ (pos K *ℤ y i))) ≡ (pos K *ℤ H x) +ℤ neg_ℤ (pos K *ℤ H y)
gap_value n H L x y K =
    L.add (λ i. pos K *ℤ x i) (λ i. negsuc 0 *ℤ (pos K *ℤ y i))
    ∙ ap₂ ◌+ℤ◌ (L.scale (pos K) x) (L.scale (negsuc 0) (λ i. pos K *ℤ y i) ∙ ap (λ z. negsuc 0 *ℤ z) (L.scale (pos K) y) ∙ minus_one (pos K *ℤ H y))

cancel : (K R : ℕ) (a b q S : ℤ) → 0 < K → (pos K *ℤ a) ≤ℤ ((pos K *ℤ b) +ℤ (pos R *ℤ S)) → S ≤ℤ (pos K *ℤ q) → a ≤ℤ (b +ℤ (pos R *ℤ q))
cancel K R a b q S K0 h l =
    let m : (pos R *ℤ S) ≤ℤ (pos K *ℤ (pos R *ℤ q)) = rw (*ℤ-left-comm (pos K) (pos R) q) (mul-le R l) in
    mul_le_cancel K K0 (rw (*ℤ-+ℤ (pos K) b (pos R *ℤ q)) (le_trans h (add_le (≤ℤ_refl (pos K *ℤ b)) m)))

-- one input: H takes the weights of that input, A bounds it, and A of the scaled pairs is R · S
pub closer : (n d T R : ℕ) (x y : Row) (H A : Row → ℤ) (S : ℤ) → Close n d T x y → Linear n H
    → ((z Z : Row) → Under n z Z → H z ≤ℤ A Z) → A (λ i. pos T *ℤ pairs i) ≡ pos R *ℤ S
    → H x ≤ℤ (H y +ℤ (pos R *ℤ bend_loss n d S))
unfolding bend_loss
closer zero d T R x y H A S close L bound whole =
    let same : H x ≡ H y = L.reads x y (λ i l. antisym (close.still refl i l) (close.under i l)) in
    rw (*ℤ-zero (pos R), +ℤ_idr (H y)) (le_eq same)
closer (suc m) d T R x y H A S close L bound whole =
    let n : ℕ = suc m in
    let K : ℕ = 2 * n * 4 ^ d in
    let K0 : 0 < K = mul-pos (mul-pos (omega arith) (omega arith)) (one-le-pow d 4 (omega arith)) in
    let z : Row = λ i. (pos K *ℤ x i) +ℤ (negsuc 0 *ℤ (pos K *ℤ y i)) in
    let Z : Row = λ i. pos T *ℤ pairs i in
    let under : Under n z Z = record {
      from = λ i l. rw (minus_one (pos K *ℤ y i)) (gap_nonneg K (x i) (y i) (close.under i l));
      to = λ i l. rw (minus_one (pos K *ℤ y i)) (gap_le (pos K *ℤ x i) (pos K *ℤ y i) (pos T *ℤ pairs i) (close.near i l));
    } in
    let gap : ((pos K *ℤ H x) +ℤ neg_ℤ (pos K *ℤ H y)) ≤ℤ (pos R *ℤ S) = rw (gap_value n H L x y K, whole) at (bound z Z under) in
    cancel K R (H x) (H y) (quot_up S K) S K0 (gap_back (pos K *ℤ H x) (pos K *ℤ H y) (pos R *ℤ S) gap) (quot_up_is S K K0)

-- ---- three inputs

bends1_is : (n1 n2 n3 : ℕ) (a : Table) → weighed n1 n2 n3 (sizes a) pairs ones ones ≡ bends1 n1 n2 n3 a
unfolding bends1
bends1_is n1 n2 n3 a = refl

bends2_is : (n1 n2 n3 : ℕ) (a : Table) → weighed n1 n2 n3 (sizes a) ones pairs ones ≡ bends2 n1 n2 n3 a
unfolding bends2
bends2_is n1 n2 n3 a = refl

bends3_is : (n1 n2 n3 : ℕ) (a : Table) → weighed n1 n2 n3 (sizes a) ones ones pairs ≡ bends3 n1 n2 n3 a
unfolding bends3
bends3_is n1 n2 n3 a = refl

unfoldable pub times_ones : ℕ → Row
times_ones T i = pos T *ℤ ones i

x_under : (n d T : ℕ) (x y : Row) → Close n d T x y → Under n x (times_ones T)
unfolding times_ones
x_under n d T x y c = record { from = λ i l. le_trans (c.least i l) (c.under i l); to = λ i l. rw (mul-one T) (c.most i l) }

y_under : (n d T : ℕ) (x y : Row) → Close n d T x y → Under n y (times_ones T)
unfolding times_ones
y_under n d T x y c = record { from = λ i l. c.least i l; to = λ i l. rw (mul-one T) (le_trans (c.under i l) (c.most i l)) }

chain : (x y z w R q1 q2 q3 : ℤ) → x ≤ℤ (y +ℤ (R *ℤ q1)) → y ≤ℤ (z +ℤ (R *ℤ q2)) → z ≤ℤ (w +ℤ (R *ℤ q3))
    → x ≤ℤ (w +ℤ (R *ℤ (q1 +ℤ (q2 +ℤ q3))))
chain x y z w R q1 q2 q3 a b c =
    let e : R *ℤ (q1 +ℤ (q2 +ℤ q3)) ≡ (R *ℤ q1) +ℤ ((R *ℤ q2) +ℤ (R *ℤ q3)) = *ℤ-+ℤ R q1 (q2 +ℤ q3) ∙ ap (λ m. (R *ℤ q1) +ℤ m) (*ℤ-+ℤ R q2 q3) in
    rw e (plain x y z w (R *ℤ q1) (R *ℤ q2) (R *ℤ q3) a b c)
  where
    plain : (x y z w s t u : ℤ) → x ≤ℤ (y +ℤ s) → y ≤ℤ (z +ℤ t) → z ≤ℤ (w +ℤ u) → x ≤ℤ (w +ℤ (s +ℤ (t +ℤ u)))
    plain x y z w s t u a b c = omega (arith, lin)

-- with weights close in each input, at scales T1, T2, T3
module _ (n1 n2 n3 : ℕ) (a : Table) (d1 d2 d3 T1 T2 T3 : ℕ) (x1 y1 x2 y2 x3 y3 : Row)
    (c1 : Close n1 d1 T1 x1 y1) (c2 : Close n2 d2 T2 x2 y2) (c3 : Close n3 d3 T3 x3 y3) where
  scale : ℕ
  scale = T1 * (T2 * T3)

  closer1 : weighed n1 n2 n3 a x1 x2 x3 ≤ℤ (weighed n1 n2 n3 a y1 x2 x3 +ℤ (pos scale *ℤ bend_loss n1 d1 (bends1 n1 n2 n3 a)))
  unfolding scale times_ones
  closer1 =
      closer n1 d1 T1 scale x1 y1 (λ x. weighed n1 n2 n3 a x x2 x3) (λ X. weighed n1 n2 n3 (sizes a) X (times_ones T2) (times_ones T3))
      (bends1 n1 n2 n3 a) c1 (linear1 n1 n2 n3 a x2 x3)
      (λ z Z u. weighed_le n1 n2 n3 a z Z x2 (times_ones T2) x3 (times_ones T3) u (x_under n2 d2 T2 x2 y2 c2) (x_under n3 d3 T3 x3 y3 c3))
      (weighed_scale n1 n2 n3 (sizes a) (pos T1) (pos T2) (pos T3) pairs ones ones ∙ ap (λ s. pos scale *ℤ s) (bends1_is n1 n2 n3 a))

  closer2 : weighed n1 n2 n3 a y1 x2 x3 ≤ℤ (weighed n1 n2 n3 a y1 y2 x3 +ℤ (pos scale *ℤ bend_loss n2 d2 (bends2 n1 n2 n3 a)))
  unfolding scale times_ones
  closer2 =
      closer n2 d2 T2 scale x2 y2 (λ x. weighed n1 n2 n3 a y1 x x3) (λ X. weighed n1 n2 n3 (sizes a) (times_ones T1) X (times_ones T3))
      (bends2 n1 n2 n3 a) c2 (linear2 n1 n2 n3 a y1 x3)
      (λ z Z u. weighed_le n1 n2 n3 a y1 (times_ones T1) z Z x3 (times_ones T3) (y_under n1 d1 T1 x1 y1 c1) u (x_under n3 d3 T3 x3 y3 c3))
      (weighed_scale n1 n2 n3 (sizes a) (pos T1) (pos T2) (pos T3) ones pairs ones ∙ ap (λ s. pos scale *ℤ s) (bends2_is n1 n2 n3 a))

  closer3 : weighed n1 n2 n3 a y1 y2 x3 ≤ℤ (weighed n1 n2 n3 a y1 y2 y3 +ℤ (pos scale *ℤ bend_loss n3 d3 (bends3 n1 n2 n3 a)))
  unfolding scale times_ones
  closer3 =
      closer n3 d3 T3 scale x3 y3 (λ x. weighed n1 n2 n3 a y1 y2 x) (λ X. weighed n1 n2 n3 (sizes a) (times_ones T1) (times_ones T2) X)
      (bends3 n1 n2 n3 a) c3 (linear3 n1 n2 n3 a y1 y2)
      (λ z Z u. weighed_le n1 n2 n3 a y1 (times_ones T1) y2 (times_ones T2) z Z (y_under n1 d1 T1 x1 y1 c1) (y_under n2 d2 T2 x2 y2 c2) u)
      (weighed_scale n1 n2 n3 (sizes a) (pos T1) (pos T2) (pos T3) ones ones pairs ∙ ap (λ s. pos scale *ℤ s) (bends3_is n1 n2 n3 a))

  pub close_all : weighed n1 n2 n3 a x1 x2 x3
      ≤ℤ (weighed n1 n2 n3 a y1 y2 y3
      +ℤ (pos (T1 * (T2 * T3)) *ℤ (bend_loss n1 d1 (bends1 n1 n2 n3 a) +ℤ (bend_loss n2 d2 (bends2 n1 n2 n3 a) +ℤ bend_loss n3 d3 (bends3 n1 n2 n3 a)))))
  unfolding scale
  close_all =
      chain (weighed n1 n2 n3 a x1 x2 x3) (weighed n1 n2 n3 a y1 x2 x3) (weighed n1 n2 n3 a y1 y2 x3) (weighed n1 n2 n3 a y1 y2 y3) (pos scale)
      (bend_loss n1 d1 (bends1 n1 n2 n3 a)) (bend_loss n2 d2 (bends2 n1 n2 n3 a)) (bend_loss n3 d3 (bends3 n1 n2 n3 a)) closer1 closer2 closer3

-- ---- the slack

loss_is : (n d : ℕ) (S : ℤ) → (pos (n * d) +ℤ (pos 2 *ℤ bend_loss n d S)) ≤ℤ (pos 2 *ℤ loss n d S)
unfolding bend_loss loss
loss_is zero d S = rw (zero-mul d) (≤ℤ_refl (pos 0))
loss_is (suc m) d S =
    let h : pos (suc m * d) ≤ℤ (pos 2 *ℤ quot_up (pos (suc m * d)) 2) = quot_up_is (pos (suc m * d)) 2 (omega arith) in
    rw (*ℤ-+ℤ (pos 2) (quot_up (pos (suc m * d)) 2) (quot_up S (2 * suc m * 4 ^ d))) (add_le h (≤ℤ_refl (pos 2 *ℤ quot_up S (2 * suc m * 4 ^ d))))

slack_text : (n1 n2 n3 : ℕ) (a : Table) (d1 d2 d3 : ℕ) → slack n1 n2 n3 a d1 d2 d3
    ≡ pos 1 +ℤ (loss n1 d1 (bends1 n1 n2 n3 a) +ℤ (loss n2 d2 (bends2 n1 n2 n3 a) +ℤ loss n3 d3 (bends3 n1 n2 n3 a)))
unfolding slack
slack_text n1 n2 n3 a d1 d2 d3 = refl

-- roundings and bends together stay within the slack
pub slack_is : (n1 n2 n3 : ℕ) (a : Table) (d1 d2 d3 : ℕ)
    → (pos (((2 + n1 * d1) + n2 * d2) + n3 * d3)
    +ℤ (pos 2 *ℤ (bend_loss n1 d1 (bends1 n1 n2 n3 a) +ℤ (bend_loss n2 d2 (bends2 n1 n2 n3 a) +ℤ bend_loss n3 d3 (bends3 n1 n2 n3 a)))))
    ≤ℤ (pos 2 *ℤ slack n1 n2 n3 a d1 d2 d3)
slack_is n1 n2 n3 a d1 d2 d3 =
    rw (slack_text n1 n2 n3 a d1 d2 d3)
    (plain (n1 * d1) (n2 * d2) (n3 * d3) (bend_loss n1 d1 (bends1 n1 n2 n3 a)) (bend_loss n2 d2 (bends2 n1 n2 n3 a)) (bend_loss n3 d3 (bends3 n1 n2 n3 a))
    (loss n1 d1 (bends1 n1 n2 n3 a)) (loss n2 d2 (bends2 n1 n2 n3 a)) (loss n3 d3 (bends3 n1 n2 n3 a))
    (loss_is n1 d1 (bends1 n1 n2 n3 a)) (loss_is n2 d2 (bends2 n1 n2 n3 a)) (loss_is n3 d3 (bends3 n1 n2 n3 a)))
  where
    plain : (e f g : ℕ) (q r s x y z : ℤ) → (pos e +ℤ (pos 2 *ℤ q)) ≤ℤ (pos 2 *ℤ x) → (pos f +ℤ (pos 2 *ℤ r)) ≤ℤ (pos 2 *ℤ y) → (pos g +ℤ (pos 2 *ℤ s)) ≤ℤ (pos 2 *ℤ z)
        → (pos (((2 + e) + f) + g) +ℤ (pos 2 *ℤ (q +ℤ (r +ℤ s)))) ≤ℤ (pos 2 *ℤ (pos 1 +ℤ (x +ℤ (y +ℤ z))))
    plain e f g q r s x y z h k l = omega (arith, lin)
