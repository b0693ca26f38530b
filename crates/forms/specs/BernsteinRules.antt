-- The Bernstein form of a polynomial on a cell: what holds of its enclosure and its slack, for all degrees n1, n2, n3, all coefficients a
-- and all cells with depths d1, d2, d3 and places m1, m2, m3.
--     encloses           at each point of the cell the value lies between the low and the high end; each input has its own denominator
--     encloses_at        the same at a point over one denominator
--     low_near           at some point of the cell the value is at most the low end plus the slack
--     high_near          at some point of the cell the value is at least the high end minus the slack
--     low_high           the low end is at most the high end
--     mirrored           the high table is minus the low table of the negated polynomial
-- Assumes nothing.
use Rattle.std.specs.Prelude.{◌≡◌, ℕ, ◌+◌, ◌*◌, ◌^◌, ◌<◌, ℤ, pos, ◌+ℤ◌, ◌-ℤ◌, ◌*ℤ◌, neg_ℤ, ◌≤ℤ◌}
use Rattle.std.proofs.Common.{sym, ap, ◌∙◌, mul_assoc, arith, pow-add}
use Rattle.std.proofs.Math.Nat.{one-le-pow}
use Rattle.std.proofs.Math.IntN.{*ℤ_comm, neg_ℤ-+ℤ}
use Rattle.forms.specs.Polynomial.{Table}
use Rattle.forms.specs.Parts.{InPart, CellPoint}
use Rattle.mapping.specs.Polynomials.{poly}
use Rattle.forms.specs.Tables.{low_table, high_table, low, high, slack}
use Rattle.forms.specs.Ends as Ends
use Rattle.forms.specs.Mirror.{neg_table, high_table_mirror, high_mirror, poly_mirror, slack_mirror}
use Rattle.arith.proofs.Ring.{lin, neg-*ℤ}
use Rattle.arith.proofs.Order.{le_trans, mul_le_cancel}

-- ---- the high side, from the low side of the negated polynomial

turn_high : (s l P : ℤ) → (l *ℤ P) ≤ℤ neg_ℤ s → s ≤ℤ (neg_ℤ l *ℤ P)
turn_high s l P h = rw (neg-*ℤ l P) (omega (arith, lin))

turn_near : (s l e P : ℤ) → neg_ℤ s ≤ℤ ((l +ℤ e) *ℤ P) → ((neg_ℤ l -ℤ e) *ℤ P) ≤ℤ s
turn_near s l e P h =
    let m : (neg_ℤ l -ℤ e) *ℤ P ≡ neg_ℤ ((l +ℤ e) *ℤ P) = ap (λ z. z *ℤ P) (sym (neg_ℤ-+ℤ l e)) ∙ neg-*ℤ (l +ℤ e) P in
    rw m (omega (arith, lin))

module _ (n1 n2 n3 : ℕ) (a : Table) (d1 m1 d2 m2 d3 m3 : ℕ) (h1 : m1 < 2 ^ d1) (h2 : m2 < 2 ^ d2) (h3 : m3 < 2 ^ d3) where
  pub encloses : (u1 D1 u2 D2 u3 D3 : ℕ) → 0 < D1 → 0 < D2 → 0 < D3 → InPart d1 m1 u1 D1 → InPart d2 m2 u2 D2 → InPart d3 m3 u3 D3
      → ((low n1 n2 n3 a d1 m1 d2 m2 d3 m3 *ℤ pos (D1 ^ n1 * (D2 ^ n2 * D3 ^ n3))) ≤ℤ poly n1 n2 n3 a u1 D1 u2 D2 u3 D3)
      × (poly n1 n2 n3 a u1 D1 u2 D2 u3 D3 ≤ℤ (high n1 n2 n3 a d1 m1 d2 m2 d3 m3 *ℤ pos (D1 ^ n1 * (D2 ^ n2 * D3 ^ n3))))
  encloses u1 D1 u2 D2 u3 D3 o1 o2 o3 i1 i2 i3 =
      let below : (b : Table) → (low n1 n2 n3 b d1 m1 d2 m2 d3 m3 *ℤ pos (D1 ^ n1 * (D2 ^ n2 * D3 ^ n3))) ≤ℤ poly n1 n2 n3 b u1 D1 u2 D2 u3 D3 =
      λ b. Ends.encloses_low n1 n2 n3 b d1 m1 d2 m2 d3 m3 h1 h2 h3 u1 D1 u2 D2 u3 D3 o1 o2 o3 i1 i2 i3 in (
        below a,
        rw (high_mirror n1 n2 n3 a d1 m1 d2 m2 d3 m3)
            (turn_high (poly n1 n2 n3 a u1 D1 u2 D2 u3 D3) (low n1 n2 n3 (neg_table a) d1 m1 d2 m2 d3 m3) (pos (D1 ^ n1 * (D2 ^ n2 * D3 ^ n3)))
            (rw (poly_mirror n1 n2 n3 a u1 D1 u2 D2 u3 D3) at (below (neg_table a)))),
      )

  pub encloses_at : (c : CellPoint d1 m1 d2 m2 d3 m3)
      → ((low n1 n2 n3 a d1 m1 d2 m2 d3 m3 *ℤ pos (c.D ^ (n1 + n2 + n3))) ≤ℤ poly n1 n2 n3 a c.u1 c.D c.u2 c.D c.u3 c.D)
      × (poly n1 n2 n3 a c.u1 c.D c.u2 c.D c.u3 c.D ≤ℤ (high n1 n2 n3 a d1 m1 d2 m2 d3 m3 *ℤ pos (c.D ^ (n1 + n2 + n3))))
  encloses_at c =
      let E : ℕ = c.D in
      let e : E ^ (n1 + n2 + n3) ≡ E ^ n1 * (E ^ n2 * E ^ n3) =
      pow-add E (n1 + n2) n3 ∙ ap (λ x. x * E ^ n3) (pow-add E n1 n2) ∙ mul_assoc (E ^ n1) (E ^ n2) (E ^ n3) in
      rw e (encloses c.u1 E c.u2 E c.u3 E c.D_pos c.D_pos c.D_pos c.part1 c.part2 c.part3)

  pub low_near : (c : CellPoint d1 m1 d2 m2 d3 m3)
      × (poly n1 n2 n3 a c.u1 c.D c.u2 c.D c.u3 c.D
      ≤ℤ ((low n1 n2 n3 a d1 m1 d2 m2 d3 m3 +ℤ slack n1 n2 n3 a d1 d2 d3) *ℤ pos (c.D ^ (n1 + n2 + n3))))
  low_near = Ends.low_near n1 n2 n3 a d1 m1 d2 m2 d3 m3 h1 h2 h3

  pub high_near : (c : CellPoint d1 m1 d2 m2 d3 m3)
      × (((high n1 n2 n3 a d1 m1 d2 m2 d3 m3 -ℤ slack n1 n2 n3 a d1 d2 d3) *ℤ pos (c.D ^ (n1 + n2 + n3)))
      ≤ℤ poly n1 n2 n3 a c.u1 c.D c.u2 c.D c.u3 c.D)
  high_near =
      let m = Ends.low_near n1 n2 n3 (neg_table a) d1 m1 d2 m2 d3 m3 h1 h2 h3 in
      let c : CellPoint d1 m1 d2 m2 d3 m3 = m.0 in (
        c,
        rw (high_mirror n1 n2 n3 a d1 m1 d2 m2 d3 m3)
            (turn_near (poly n1 n2 n3 a c.u1 c.D c.u2 c.D c.u3 c.D) (low n1 n2 n3 (neg_table a) d1 m1 d2 m2 d3 m3)
            (slack n1 n2 n3 a d1 d2 d3) (pos (c.D ^ (n1 + n2 + n3)))
            (rw (poly_mirror n1 n2 n3 a c.u1 c.D c.u2 c.D c.u3 c.D, slack_mirror n1 n2 n3 a d1 d2 d3) at m.1)),
      )

  pub low_high : low n1 n2 n3 a d1 m1 d2 m2 d3 m3 ≤ℤ high n1 n2 n3 a d1 m1 d2 m2 d3 m3
  low_high =
      let c = low_near.0 in
      let P : ℕ = c.D ^ (n1 + n2 + n3) in
      let both : (low n1 n2 n3 a d1 m1 d2 m2 d3 m3 *ℤ pos P) ≤ℤ (high n1 n2 n3 a d1 m1 d2 m2 d3 m3 *ℤ pos P) =
      le_trans (encloses_at c).0 (encloses_at c).1 in
      mul_le_cancel P (one-le-pow (n1 + n2 + n3) c.D c.D_pos)
      (rw (*ℤ_comm (pos P) (low n1 n2 n3 a d1 m1 d2 m2 d3 m3), *ℤ_comm (pos P) (high n1 n2 n3 a d1 m1 d2 m2 d3 m3)) both)

pub mirrored : (n1 n2 n3 : ℕ) (a : Table) (d1 m1 d2 m2 d3 m3 j1 j2 j3 : ℕ)
    → high_table n1 n2 n3 a d1 m1 d2 m2 d3 m3 j1 j2 j3 ≡ neg_ℤ (low_table n1 n2 n3 (λ i j k. neg_ℤ (a i j k)) d1 m1 d2 m2 d3 m3 j1 j2 j3)
mirrored = high_table_mirror
