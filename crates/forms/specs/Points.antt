-- Points of a cell: the same point over another denominator, and the point near a number of the table. Assumes nothing.
use Rattle.std.specs.Prelude.{◌≡◌, ℕ, suc, ◌+◌, ◌*◌, ◌^◌, ◌<◌, ◌≤◌, ℤ, pos, ◌+ℤ◌, ◌*ℤ◌, ◌≤ℤ◌}
use Rattle.std.proofs.Common.{sym, ap₂, subst, ◌∙◌, mul-pos, suc-mul, mul-le-mul_left, mul-le-mul_right, le-add_right, arith, pow-add, pow_pos}
use Rattle.std.proofs.Math.Path.{ap}
use Rattle.std.proofs.Math.IntN.{*ℤ_comm}
use Rattle.std.specs.Int.Signed.{≤ℤ_refl}
use Rattle.forms.specs.Choose.{factorial}
use Rattle.forms.specs.Halving.{Row}
use Rattle.forms.specs.Polynomial.{Table, weighed}
use Rattle.forms.specs.Parts.{InPart, CellPoint}
use Rattle.mapping.specs.Polynomials.{poly, share}
use Rattle.forms.specs.Tables.{bends1, bends2, bends3, slack}
use Rattle.forms.specs.Extra.{nats, mul_pow, pow_pow}
use Rattle.forms.specs.ChooseLemmas.{factorial_pos}
use Rattle.forms.specs.Powers.{piece, share_times, grain, grain_pos, grain_le, point_row, place_row, point_scale, place_close, room}
use Rattle.forms.specs.Weighed.{linear1, linear2, linear3, weighed_scale, poly_weighed}
use Rattle.forms.specs.Closeness.{bend_loss, close_all, slack_is}
use Rattle.forms.specs.Rounded.{Near}
use Rattle.forms.specs.TablesLemmas.{exact, unit}
use Rattle.arith.proofs.Ring.{lin, *ℤ-assoc, *ℤ-+ℤ, *ℤ-left-comm}
use Rattle.arith.proofs.Order.{add_le, mul-le, le_trans, le_eq, mul_le_cancel}

-- ---- parts

part_nats : (p c D : ℕ) → p * (c * D) ≡ c * (p * D)
part_nats p c D = simp nats

pub part_times : (c d p u D : ℕ) → InPart d p u D → InPart d p (c * u) (c * D)
part_times c d p u D i =
    let a : (c * u) * 2 ^ d ≡ c * (u * 2 ^ d) = simp nats in
    record {
      from = rw (part_nats p c D, a) (mul-le-mul_left c i.from);
      to = rw (part_nats (suc p) c D, a) (mul-le-mul_left c i.to);
    }

near_part : (d p s j : ℕ) → j ≤ s → InPart d p (p * s + j) (2 ^ d * s)
near_part d p s j h =
    let a : p * (2 ^ d * s) ≡ (p * s) * 2 ^ d = simp nats in
    let b : suc p * (2 ^ d * s) ≡ (suc p * s) * 2 ^ d = simp nats in
    record {
      from = rw a (mul-le-mul_right (2 ^ d) (le-add_right (p * s) j));
      to = rw b (mul-le-mul_right (2 ^ d) (omega (arith, suc-mul p s)));
    }

-- ---- the value over another denominator

pub poly_times : (n1 n2 n3 : ℕ) (a : Table) (c1 u1 D1 c2 u2 D2 c3 u3 D3 : ℕ)
    → poly n1 n2 n3 a (c1 * u1) (c1 * D1) (c2 * u2) (c2 * D2) (c3 * u3) (c3 * D3)
    ≡ pos (c1 ^ n1 * (c2 ^ n2 * c3 ^ n3)) *ℤ poly n1 n2 n3 a u1 D1 u2 D2 u3 D3
poly_times n1 n2 n3 a c1 u1 D1 c2 u2 D2 c3 u3 D3 =
    let S1 : Row = λ i. pos (share n1 i u1 D1) in
    let S2 : Row = λ i. pos (share n2 i u2 D2) in
    let S3 : Row = λ i. pos (share n3 i u3 D3) in
    let R1 : Row = λ i. pos (share n1 i (c1 * u1) (c1 * D1)) in
    let R2 : Row = λ i. pos (share n2 i (c2 * u2) (c2 * D2)) in
    let R3 : Row = λ i. pos (share n3 i (c3 * u3) (c3 * D3)) in
    let Q1 : Row = λ i. pos (c1 ^ n1) *ℤ S1 i in
    let Q2 : Row = λ i. pos (c2 ^ n2) *ℤ S2 i in
    let Q3 : Row = λ i. pos (c3 ^ n3) *ℤ S3 i in
    poly_weighed n1 n2 n3 a (c1 * u1) (c1 * D1) (c2 * u2) (c2 * D2) (c3 * u3) (c3 * D3)
    ∙ (linear1 n1 n2 n3 a R2 R3).reads R1 Q1 (λ i l. ap pos (share_times n1 i c1 u1 D1 l))
    ∙ (linear2 n1 n2 n3 a Q1 R3).reads R2 Q2 (λ i l. ap pos (share_times n2 i c2 u2 D2 l))
    ∙ (linear3 n1 n2 n3 a Q1 Q2).reads R3 Q3 (λ i l. ap pos (share_times n3 i c3 u3 D3 l))
    ∙ weighed_scale n1 n2 n3 a (pos (c1 ^ n1)) (pos (c2 ^ n2)) (pos (c3 ^ n3)) S1 S2 S3
    ∙ ap (λ z. pos (c1 ^ n1 * (c2 ^ n2 * c3 ^ n3)) *ℤ z) (sym (poly_weighed n1 n2 n3 a u1 D1 u2 D2 u3 D3))

-- three denominators become one
powers_nats : (a b c x y z : ℕ) → (a * (b * c)) * (x * (y * z)) ≡ ((a * x) * (b * y)) * (c * z)
powers_nats a b c x y z = simp nats

pub one_denominator : (n1 n2 n3 : ℕ) (a : Table) (d1 m1 d2 m2 d3 m3 u1 D1 u2 D2 u3 D3 : ℕ) (z : ℤ) → 0 < D1 → 0 < D2 → 0 < D3
    → u1 ≤ D1 → u2 ≤ D2 → u3 ≤ D3 → InPart d1 m1 u1 D1 → InPart d2 m2 u2 D2 → InPart d3 m3 u3 D3
    → poly n1 n2 n3 a u1 D1 u2 D2 u3 D3 ≤ℤ (pos (D1 ^ n1 * (D2 ^ n2 * D3 ^ n3)) *ℤ z)
    → (c : CellPoint d1 m1 d2 m2 d3 m3) × (poly n1 n2 n3 a c.u1 c.D c.u2 c.D c.u3 c.D ≤ℤ (z *ℤ pos (c.D ^ (n1 + n2 + n3))))
one_denominator n1 n2 n3 a d1 m1 d2 m2 d3 m3 u1 D1 u2 D2 u3 D3 z o1 o2 o3 l1 l2 l3 i1 i2 i3 h =
    let c1 : ℕ = D2 * D3 in
    let c2 : ℕ = D1 * D3 in
    let c3 : ℕ = D1 * D2 in
    let E : ℕ = D1 * (D2 * D3) in
    let e1 : c1 * D1 ≡ E = simp nats in
    let e2 : c2 * D2 ≡ E = simp nats in
    let e3 : c3 * D3 ≡ E = simp nats in
    let C : ℕ = c1 ^ n1 * (c2 ^ n2 * c3 ^ n3) in
    let P : ℕ = D1 ^ n1 * (D2 ^ n2 * D3 ^ n3) in
    let power : C * P ≡ E ^ (n1 + n2 + n3) =
    powers_nats (c1 ^ n1) (c2 ^ n2) (c3 ^ n3) (D1 ^ n1) (D2 ^ n2) (D3 ^ n3)
    ∙ ap₂ (λ x y. x * y)
    (ap₂ (λ x y. x * y) (sym (mul_pow c1 D1 n1) ∙ ap (λ x. x ^ n1) e1) (sym (mul_pow c2 D2 n2) ∙ ap (λ x. x ^ n2) e2) ∙ sym (pow-add E n1 n2))
    (sym (mul_pow c3 D3 n3) ∙ ap (λ x. x ^ n3) e3)
    ∙ sym (pow-add E (n1 + n2) n3) in
    let value : poly n1 n2 n3 a (c1 * u1) E (c2 * u2) E (c3 * u3) E ≡ pos C *ℤ poly n1 n2 n3 a u1 D1 u2 D2 u3 D3 =
    ap (λ x. poly n1 n2 n3 a (c1 * u1) x (c2 * u2) E (c3 * u3) E) (sym e1)
    ∙ ap (λ x. poly n1 n2 n3 a (c1 * u1) (c1 * D1) (c2 * u2) x (c3 * u3) E) (sym e2)
    ∙ ap (λ x. poly n1 n2 n3 a (c1 * u1) (c1 * D1) (c2 * u2) (c2 * D2) (c3 * u3) x) (sym e3)
    ∙ poly_times n1 n2 n3 a c1 u1 D1 c2 u2 D2 c3 u3 D3 in
    let bound : pos C *ℤ (pos P *ℤ z) ≡ z *ℤ pos (E ^ (n1 + n2 + n3)) =
    sym (*ℤ-assoc (pos C) (pos P) z) ∙ ap (λ x. pos x *ℤ z) power ∙ *ℤ_comm (pos (E ^ (n1 + n2 + n3))) z in (
      record {
        u1 = c1 * u1;
        u2 = c2 * u2;
        u3 = c3 * u3;
        D = E;
        D_pos = mul-pos o1 (mul-pos o2 o3);
        u1_le = le_by e1 (mul-le-mul_left c1 l1);
        u2_le = le_by e2 (mul-le-mul_left c2 l2);
        u3_le = le_by e3 (mul-le-mul_left c3 l3);
        part1 = subst (InPart d1 m1 (c1 * u1)) e1 (part_times c1 d1 m1 u1 D1 i1);
        part2 = subst (InPart d2 m2 (c2 * u2)) e2 (part_times c2 d2 m2 u2 D2 i2);
        part3 = subst (InPart d3 m3 (c3 * u3)) e3 (part_times c3 d3 m3 u3 D3 i3);
      },
      rw (value, ← bound) (mul-le C h),
    )
  where
    le_by : {x y z : ℕ} → y ≡ z → x ≤ y → x ≤ z
    le_by {x} {y} {z} e l = omega arith

-- ---- the end of the argument, over plain numbers

double_le : (F G W P T : ℕ) (S X l Q : ℤ) (e : ℕ) → G * W ≡ F * P → T ≡ F * P
    → (pos F *ℤ S) ≤ℤ ((pos G *ℤ X) +ℤ (pos T *ℤ Q)) → (pos 2 *ℤ X) ≤ℤ (pos W *ℤ ((pos 2 *ℤ l) +ℤ pos e))
    → (pos F *ℤ (pos 2 *ℤ S)) ≤ℤ (pos F *ℤ (pos P *ℤ (((pos 2 *ℤ l) +ℤ pos e) +ℤ (pos 2 *ℤ Q))))
double_le F G W P T S X l Q e gw t h near =
    let m : ℤ = (pos 2 *ℤ l) +ℤ pos e in
    let a : (pos 2 *ℤ (pos F *ℤ S)) ≤ℤ ((pos 2 *ℤ (pos G *ℤ X)) +ℤ (pos 2 *ℤ (pos T *ℤ Q))) =
    le_trans (mul-le 2 h) (le_eq (*ℤ-+ℤ (pos 2) (pos G *ℤ X) (pos T *ℤ Q))) in
    let b : (pos 2 *ℤ (pos G *ℤ X)) ≤ℤ (pos G *ℤ (pos W *ℤ m)) = rw (*ℤ-left-comm (pos 2) (pos G) X) (mul-le G near) in
    let b_is : pos G *ℤ (pos W *ℤ m) ≡ pos F *ℤ (pos P *ℤ m) =
    sym (*ℤ-assoc (pos G) (pos W) m) ∙ ap (λ z. pos z *ℤ m) gw ∙ *ℤ-assoc (pos F) (pos P) m in
    let q_is : pos 2 *ℤ (pos T *ℤ Q) ≡ pos F *ℤ (pos P *ℤ (pos 2 *ℤ Q)) =
    ap (λ z. pos 2 *ℤ (pos z *ℤ Q)) t ∙ *ℤ-left-comm (pos 2) (pos (F * P)) Q ∙ *ℤ-assoc (pos F) (pos P) (pos 2 *ℤ Q) in
    let r_is : pos F *ℤ (pos P *ℤ (m +ℤ (pos 2 *ℤ Q))) ≡ (pos F *ℤ (pos P *ℤ m)) +ℤ (pos F *ℤ (pos P *ℤ (pos 2 *ℤ Q))) =
    ap (λ z. pos F *ℤ z) (*ℤ-+ℤ (pos P) m (pos 2 *ℤ Q)) ∙ *ℤ-+ℤ (pos F) (pos P *ℤ m) (pos P *ℤ (pos 2 *ℤ Q)) in
    rw (*ℤ-left-comm (pos F) (pos 2) S, r_is, ← b_is, ← q_is) (le_trans a (add_le b (≤ℤ_refl (pos 2 *ℤ (pos T *ℤ Q)))))

within : (P e : ℕ) (S l Q s : ℤ) → (pos e +ℤ (pos 2 *ℤ Q)) ≤ℤ (pos 2 *ℤ s)
    → (pos 2 *ℤ S) ≤ℤ (pos P *ℤ (((pos 2 *ℤ l) +ℤ pos e) +ℤ (pos 2 *ℤ Q))) → S ≤ℤ (pos P *ℤ (l +ℤ s))
within P e S l Q s h k =
    let m : (((pos 2 *ℤ l) +ℤ pos e) +ℤ (pos 2 *ℤ Q)) ≤ℤ (pos 2 *ℤ (l +ℤ s)) = plain (pos e) (pos 2 *ℤ Q) s l h in
    mul_le_cancel 2 (omega arith) (rw (*ℤ-left-comm (pos 2) (pos P) (l +ℤ s)) (le_trans k (mul-le P m)))
  where
    plain : (e q s l : ℤ) → (e +ℤ q) ≤ℤ (pos 2 *ℤ s) → (((pos 2 *ℤ l) +ℤ e) +ℤ q) ≤ℤ (pos 2 *ℤ (l +ℤ s))
    plain e q s l h = omega (arith, lin)

unit_nats : (f1 f2 f3 g1 g2 g3 q1 q2 q3 : ℕ)
    → (g1 * (g2 * g3)) * (q3 * (q2 * (q1 * (f1 * (f2 * f3))))) ≡ (f1 * (f2 * f3)) * ((q1 * g1) * ((q2 * g2) * (q3 * g3)))
unit_nats f1 f2 f3 g1 g2 g3 q1 q2 q3 = simp nats

scale_nats : (f1 f2 f3 x y z : ℕ) → (f1 * x) * ((f2 * y) * (f3 * z)) ≡ (f1 * (f2 * f3)) * (x * (y * z))
scale_nats f1 f2 f3 x y z = simp nats

grain_power : (n d : ℕ) → 2 ^ (n * d) * grain n ^ n ≡ (2 ^ d * grain n) ^ n
grain_power n d = ap (λ z. z * grain n ^ n) (sym (pow_pow 2 d n)) ∙ sym (mul_pow (2 ^ d) (grain n) n)

-- ---- the point of the cell near the number at j1, j2, j3: its value is at most the exact number there, plus what the bends lose

module _ (n1 n2 n3 : ℕ) (a : Table) (d1 m1 d2 m2 d3 m3 : ℕ) (h1 : m1 < 2 ^ d1) (h2 : m2 < 2 ^ d2) (h3 : m3 < 2 ^ d3)
    (j1 j2 j3 : ℕ) (k1 : j1 ≤ n1) (k2 : j2 ≤ n2) (k3 : j3 ≤ n3) (l : ℤ)
    (near : Near (((2 + n1 * d1) + n2 * d2) + n3 * d3) (unit n1 n2 n3 d1 d2 d3) l (exact n1 n2 n3 a d1 m1 d2 m2 d3 m3 j1 j2 j3)) where
  powers : ℕ
  powers = (2 ^ d1 * grain n1) ^ n1 * ((2 ^ d2 * grain n2) ^ n2 * (2 ^ d3 * grain n3) ^ n3)

  value : ℤ
  value = poly n1 n2 n3 a (m1 * grain n1 + j1) (2 ^ d1 * grain n1) (m2 * grain n2 + j2) (2 ^ d2 * grain n2) (m3 * grain n3 + j3) (2 ^ d3 * grain n3)

  losses : ℤ
  losses = bend_loss n1 d1 (bends1 n1 n2 n3 a) +ℤ (bend_loss n2 d2 (bends2 n1 n2 n3 a) +ℤ bend_loss n3 d3 (bends3 n1 n2 n3 a))

  point_le : (pos (factorial n1 * (factorial n2 * factorial n3)) *ℤ value)
      ≤ℤ ((pos (grain n1 ^ n1 * (grain n2 ^ n2 * grain n3 ^ n3)) *ℤ exact n1 n2 n3 a d1 m1 d2 m2 d3 m3 j1 j2 j3)
      +ℤ (pos (point_scale n1 d1 * (point_scale n2 d2 * point_scale n3 d3)) *ℤ losses))
  unfolding value losses
  point_le =
      let x_is : weighed n1 n2 n3 a (point_row n1 d1 m1 j1) (point_row n2 d2 m2 j2) (point_row n3 d3 m3 j3) ≡ pos (factorial n1 * (factorial n2 * factorial n3)) *ℤ value =
      weighed_scale n1 n2 n3 a (pos (factorial n1)) (pos (factorial n2)) (pos (factorial n3))
      (λ i. pos (share n1 i (m1 * grain n1 + j1) (2 ^ d1 * grain n1))) (λ i. pos (share n2 i (m2 * grain n2 + j2) (2 ^ d2 * grain n2)))
      (λ i. pos (share n3 i (m3 * grain n3 + j3) (2 ^ d3 * grain n3)))
      ∙ ap (λ z. pos (factorial n1 * (factorial n2 * factorial n3)) *ℤ z)
      (sym (poly_weighed n1 n2 n3 a (m1 * grain n1 + j1) (2 ^ d1 * grain n1) (m2 * grain n2 + j2) (2 ^ d2 * grain n2) (m3 * grain n3 + j3) (2 ^ d3 * grain n3))) in
      let y_is : weighed n1 n2 n3 a (place_row n1 d1 m1 j1) (place_row n2 d2 m2 j2) (place_row n3 d3 m3 j3)
      ≡ pos (grain n1 ^ n1 * (grain n2 ^ n2 * grain n3 ^ n3)) *ℤ exact n1 n2 n3 a d1 m1 d2 m2 d3 m3 j1 j2 j3 =
      weighed_scale n1 n2 n3 a (pos (grain n1 ^ n1)) (pos (grain n2 ^ n2)) (pos (grain n3 ^ n3)) (piece n1 d1 m1 j1) (piece n2 d2 m2 j2) (piece n3 d3 m3 j3) in
      rw (x_is, y_is) at
      (close_all n1 n2 n3 a d1 d2 d3 (point_scale n1 d1) (point_scale n2 d2) (point_scale n3 d3)
      (point_row n1 d1 m1 j1) (place_row n1 d1 m1 j1) (point_row n2 d2 m2 j2) (place_row n2 d2 m2 j2) (point_row n3 d3 m3 j3) (place_row n3 d3 m3 j3)
      (place_close n1 d1 m1 j1 h1 k1) (place_close n2 d2 m2 j2 h2 k2) (place_close n3 d3 m3 j3 h3 k3))

  unit_is : (grain n1 ^ n1 * (grain n2 ^ n2 * grain n3 ^ n3)) * unit n1 n2 n3 d1 d2 d3 ≡ (factorial n1 * (factorial n2 * factorial n3)) * powers
  unfolding unit powers
  unit_is =
      unit_nats (factorial n1) (factorial n2) (factorial n3) (grain n1 ^ n1) (grain n2 ^ n2) (grain n3 ^ n3) (2 ^ (n1 * d1)) (2 ^ (n2 * d2)) (2 ^ (n3 * d3))
      ∙ rw (grain_power n1 d1, grain_power n2 d2, grain_power n3 d3)

  scale_is : point_scale n1 d1 * (point_scale n2 d2 * point_scale n3 d3) ≡ (factorial n1 * (factorial n2 * factorial n3)) * powers
  unfolding powers
  scale_is = scale_nats (factorial n1) (factorial n2) (factorial n3) ((2 ^ d1 * grain n1) ^ n1) ((2 ^ d2 * grain n2) ^ n2) ((2 ^ d3 * grain n3) ^ n3)

  value_le : value ≤ℤ (pos powers *ℤ (l +ℤ slack n1 n2 n3 a d1 d2 d3))
  unfolding losses
  value_le =
      within powers (((2 + n1 * d1) + n2 * d2) + n3 * d3) value l losses (slack n1 n2 n3 a d1 d2 d3) (slack_is n1 n2 n3 a d1 d2 d3)
      (mul_le_cancel (factorial n1 * (factorial n2 * factorial n3)) (mul-pos (factorial_pos n1) (mul-pos (factorial_pos n2) (factorial_pos n3)))
      (double_le (factorial n1 * (factorial n2 * factorial n3)) (grain n1 ^ n1 * (grain n2 ^ n2 * grain n3 ^ n3)) (unit n1 n2 n3 d1 d2 d3) powers
      (point_scale n1 d1 * (point_scale n2 d2 * point_scale n3 d3)) value (exact n1 n2 n3 a d1 m1 d2 m2 d3 m3 j1 j2 j3) l losses (((2 + n1 * d1) + n2 * d2) + n3 * d3)
      unit_is scale_is point_le near.above))

  -- over one denominator
  pub near_point : (c : CellPoint d1 m1 d2 m2 d3 m3)
      × (poly n1 n2 n3 a c.u1 c.D c.u2 c.D c.u3 c.D ≤ℤ ((l +ℤ slack n1 n2 n3 a d1 d2 d3) *ℤ pos (c.D ^ (n1 + n2 + n3))))
  unfolding value powers
  near_point =
      one_denominator n1 n2 n3 a d1 m1 d2 m2 d3 m3 (m1 * grain n1 + j1) (2 ^ d1 * grain n1) (m2 * grain n2 + j2) (2 ^ d2 * grain n2) (m3 * grain n3 + j3) (2 ^ d3 * grain n3)
      (l +ℤ slack n1 n2 n3 a d1 d2 d3)
      (mul-pos (pow_pos d1) (grain_pos n1)) (mul-pos (pow_pos d2) (grain_pos n2)) (mul-pos (pow_pos d3) (grain_pos n3))
      (room d1 m1 (grain n1) j1 h1 g1) (room d2 m2 (grain n2) j2 h2 g2) (room d3 m3 (grain n3) j3 h3 g3)
      (near_part d1 m1 (grain n1) j1 g1) (near_part d2 m2 (grain n2) j2 g2) (near_part d3 m3 (grain n3) j3 g3)
      value_le
    where
      g1 : j1 ≤ grain n1
      g1 = omega (arith, grain_le n1)

      g2 : j2 ≤ grain n2
      g2 = omega (arith, grain_le n2)

      g3 : j3 ≤ grain n3
      g3 = omega (arith, grain_le n3)
