-- The low end of the enclosure: it is at most every value on the cell, and within the slack of one. Assumes nothing.
use Rattle.std.specs.Prelude.{◌≡◌, ℕ, ◌+◌, ◌*◌, ◌^◌, ◌<◌, ◌≤◌, ℤ, pos, ◌+ℤ◌, ◌*ℤ◌, ◌≤ℤ◌}
use Rattle.std.proofs.Math.Nat.{mul-pos}
use Rattle.std.proofs.Common.{one-mul as one-times, pow_pos}
use Rattle.forms.specs.Choose.{factorial}
use Rattle.forms.specs.Halving.{Row}
use Rattle.forms.specs.Polynomial.{Table, weighed}
use Rattle.forms.specs.Parts.{InPart, CellPoint}
use Rattle.mapping.specs.Polynomials.{poly, share}
use Rattle.forms.specs.Tables.{low, low_table, slack}
use Rattle.forms.specs.Extra.{nats}
use Rattle.forms.specs.ChooseLemmas.{factorial_pos}
use Rattle.forms.specs.Powers.{piece, part_least}
use Rattle.forms.specs.Weighed.{linear1, linear2, linear3, poly_weighed}
use Rattle.forms.specs.Extremes.{least_of_le, least_of_at}
use Rattle.forms.specs.TablesLemmas.{exact, unit, table_near, low_is}
use Rattle.forms.specs.Points.{near_point}
use Rattle.arith.proofs.Ring.{ring, one-mul}
use Rattle.arith.proofs.Order.{mul-le, le_trans, mul_le_cancel}

unit_nats : (f1 f2 f3 q1 q2 q3 : ℕ) → ((1 * (f3 * q3)) * (f2 * q2)) * (f1 * q1) ≡ q3 * (q2 * (q1 * (f1 * (f2 * f3))))
unit_nats f1 f2 f3 q1 q2 q3 = simp (one-times, nats)

unit_left : (A B C W l : ℤ) → A *ℤ (B *ℤ (C *ℤ (W *ℤ l))) ≡ W *ℤ (l *ℤ (A *ℤ (B *ℤ C)))
unit_left A B C W l = simp ring

module _ (n1 n2 n3 : ℕ) (a : Table) (d1 m1 d2 m2 d3 m3 : ℕ) (h1 : m1 < 2 ^ d1) (h2 : m2 < 2 ^ d2) (h3 : m3 < 2 ^ d3) where
  unit_pos : 0 < unit n1 n2 n3 d1 d2 d3
  unfolding unit
  unit_pos = mul-pos (pow_pos (n3 * d3)) (mul-pos (pow_pos (n2 * d2)) (mul-pos (pow_pos (n1 * d1))
      (mul-pos (factorial_pos n1) (mul-pos (factorial_pos n2) (factorial_pos n3)))))

  unit_is : ((1 * (factorial n3 * 2 ^ (n3 * d3))) * (factorial n2 * 2 ^ (n2 * d2))) * (factorial n1 * 2 ^ (n1 * d1)) ≡ unit n1 n2 n3 d1 d2 d3
  unfolding unit
  unit_is = unit_nats (factorial n1) (factorial n2) (factorial n3) (2 ^ (n1 * d1)) (2 ^ (n2 * d2)) (2 ^ (n3 * d3))

  -- every number of the exact table is at least the low end
  exact_least : (j1 j2 j3 : ℕ) → j1 ≤ n1 → j2 ≤ n2 → j3 ≤ n3
      → (pos (unit n1 n2 n3 d1 d2 d3) *ℤ low n1 n2 n3 a d1 m1 d2 m2 d3 m3) ≤ℤ exact n1 n2 n3 a d1 m1 d2 m2 d3 m3 j1 j2 j3
  exact_least j1 j2 j3 k1 k2 k3 =
      rw (← low_is n1 n2 n3 a d1 m1 d2 m2 d3 m3)
      (le_trans (mul-le (unit n1 n2 n3 d1 d2 d3) (least_of_le n1 n2 n3 (low_table n1 n2 n3 a d1 m1 d2 m2 d3 m3) j1 j2 j3 k1 k2 k3))
      (table_near n1 n2 n3 a d1 m1 d2 m2 d3 m3 j1 j2 j3 k1 k2 k3).below)

  -- the value at each point of the cell is at least the low end
  pub encloses_low : (u1 D1 u2 D2 u3 D3 : ℕ) → 0 < D1 → 0 < D2 → 0 < D3 → InPart d1 m1 u1 D1 → InPart d2 m2 u2 D2 → InPart d3 m3 u3 D3
      → (low n1 n2 n3 a d1 m1 d2 m2 d3 m3 *ℤ pos (D1 ^ n1 * (D2 ^ n2 * D3 ^ n3))) ≤ℤ poly n1 n2 n3 a u1 D1 u2 D2 u3 D3
  encloses_low u1 D1 u2 D2 u3 D3 o1 o2 o3 i1 i2 i3 =
      let W : ℕ = unit n1 n2 n3 d1 d2 d3 in
      let l : ℤ = low n1 n2 n3 a d1 m1 d2 m2 d3 m3 in
      let S1 : Row = λ i. pos (share n1 i u1 D1) in
      let S2 : Row = λ i. pos (share n2 i u2 D2) in
      let S3 : Row = λ i. pos (share n3 i u3 D3) in
      let c1 : ℕ = factorial n1 * 2 ^ (n1 * d1) in
      let c2 : ℕ = factorial n2 * 2 ^ (n2 * d2) in
      let c3 : ℕ = factorial n3 * 2 ^ (n3 * d3) in
      let three : (j1 j2 : ℕ) → j1 ≤ n1 → j2 ≤ n2 → (pos (D3 ^ n3) *ℤ (pos W *ℤ l)) ≤ℤ (pos (1 * c3) *ℤ weighed n1 n2 n3 a (piece n1 d1 m1 j1) (piece n2 d2 m2 j2) S3) =
      λ j1 j2 k1 k2. part_least n3 d3 m3 u3 D3 h3 o3 i3 (λ z. weighed n1 n2 n3 a (piece n1 d1 m1 j1) (piece n2 d2 m2 j2) z)
      (linear3 n1 n2 n3 a (piece n1 d1 m1 j1) (piece n2 d2 m2 j2)) 1 (pos W *ℤ l)
      (λ j3 k3. rw (one-mul (exact n1 n2 n3 a d1 m1 d2 m2 d3 m3 j1 j2 j3)) (exact_least j1 j2 j3 k1 k2 k3)) in
      let two : (j1 : ℕ) → j1 ≤ n1 → (pos (D2 ^ n2) *ℤ (pos (D3 ^ n3) *ℤ (pos W *ℤ l))) ≤ℤ (pos ((1 * c3) * c2) *ℤ weighed n1 n2 n3 a (piece n1 d1 m1 j1) S2 S3) =
      λ j1 k1. part_least n2 d2 m2 u2 D2 h2 o2 i2 (λ y. weighed n1 n2 n3 a (piece n1 d1 m1 j1) y S3) (linear2 n1 n2 n3 a (piece n1 d1 m1 j1) S3)
      (1 * c3) (pos (D3 ^ n3) *ℤ (pos W *ℤ l)) (λ j2 k2. three j1 j2 k1 k2) in
      let one : (pos (D1 ^ n1) *ℤ (pos (D2 ^ n2) *ℤ (pos (D3 ^ n3) *ℤ (pos W *ℤ l)))) ≤ℤ (pos (((1 * c3) * c2) * c1) *ℤ weighed n1 n2 n3 a S1 S2 S3) =
      part_least n1 d1 m1 u1 D1 h1 o1 i1 (λ x. weighed n1 n2 n3 a x S2 S3) (linear1 n1 n2 n3 a S2 S3)
      ((1 * c3) * c2) (pos (D2 ^ n2) *ℤ (pos (D3 ^ n3) *ℤ (pos W *ℤ l))) two in
      let all : (pos W *ℤ (l *ℤ pos (D1 ^ n1 * (D2 ^ n2 * D3 ^ n3)))) ≤ℤ (pos W *ℤ poly n1 n2 n3 a u1 D1 u2 D2 u3 D3) =
      rw (unit_left (pos (D1 ^ n1)) (pos (D2 ^ n2)) (pos (D3 ^ n3)) (pos W) l, unit_is, ← poly_weighed n1 n2 n3 a u1 D1 u2 D2 u3 D3) at one in
      mul_le_cancel W unit_pos all

  -- at some point of the cell the value is at most the low end plus the slack
  pub low_near : (c : CellPoint d1 m1 d2 m2 d3 m3)
      × (poly n1 n2 n3 a c.u1 c.D c.u2 c.D c.u3 c.D
      ≤ℤ ((low n1 n2 n3 a d1 m1 d2 m2 d3 m3 +ℤ slack n1 n2 n3 a d1 d2 d3) *ℤ pos (c.D ^ (n1 + n2 + n3))))
  low_near =
      let at = least_of_at n1 n2 n3 (low_table n1 n2 n3 a d1 m1 d2 m2 d3 m3) in
      rw (← low_is n1 n2 n3 a d1 m1 d2 m2 d3 m3, at.is)
      (near_point n1 n2 n3 a d1 m1 d2 m2 d3 m3 h1 h2 h3 at.i at.j at.k at.i_le at.j_le at.k_le
      (low_table n1 n2 n3 a d1 m1 d2 m2 d3 m3 at.i at.j at.k)
      (table_near n1 n2 n3 a d1 m1 d2 m2 d3 m3 at.i at.j at.k at.i_le at.j_le at.k_le))
