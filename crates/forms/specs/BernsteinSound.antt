-- The Bernstein form keeps the rules of a form: its theorems, read off at the points of a cell. Assumes nothing.
use Rattle.std.specs.Prelude.{ℕ, zero, suc, ◌+◌, ◌^◌, ◌<◌, ◌≤◌, ℤ, pos, ◌+ℤ◌, ◌-ℤ◌, ◌*ℤ◌, ◌≤ℤ◌}
use Rattle.std.proofs.Common.{add-one, arith}
use Rattle.mapping.specs.Cells.{depth, place}
use Rattle.mapping.specs.Points.{Point, Rational, Covers, In}
use Rattle.mapping.specs.Polynomials.{poly}
use Rattle.mapping.specs.Values.{degree, coefficient, scaled, value, weight, AtLeast, AtMost}
use Rattle.mapping.specs.declared.mapping.Mapping.{Mapping}
use Rattle.mapping.specs.declared.cell.Cell.{Cell}
use Rattle.forms.specs.Rules.{Rules}
use Rattle.forms.specs.Bernstein.{bernstein}
use Rattle.forms.specs.Parts.{InPart, CellPoint}
use Rattle.forms.specs.BernsteinRules as rules

-- ---- inputs

pub three_cases : (P : ℕ → Type 0) → P 0 → P 1 → P 2 → (v : ℕ) → v < 3 → P v
three_cases P a b c zero h = a
three_cases P a b c (suc zero) h = b
three_cases P a b c (suc (suc zero)) h = c
three_cases P a b c (suc (suc (suc v))) h = absurd (omega arith)

abbrev three : ℕ → ℕ → ℕ → ℕ → ℕ
three a b c zero = a
three a b c (suc zero) = b
three a b c (suc (suc v)) = c

part : (d q u D : ℕ) → Covers d q u D → InPart d q u D
part d q u D h = record { from = h.0; to = rw (add-one q) at h.1 }

covers : (d q u D : ℕ) → InPart d q u D → Covers d q u D
covers d q u D h = (h.from, rw (add-one q) h.to)

-- ---- bounds of a value

module _ (m : Mapping) (p : Point) (z : ℤ) where
  abbrev power : ℤ
  power = pos (p.denominator ^ (degree m 0 + degree m 1 + degree m 2))

  abbrev exact : ℤ
  exact = poly (degree m 0) (degree m 1) (degree m 2) (coefficient m) (p.numerator 0) p.denominator (p.numerator 1) p.denominator (p.numerator 2) p.denominator

  at_least : (z *ℤ power) ≤ℤ exact → AtLeast m p z
  unfolding AtLeast value scaled weight
  at_least h = h

  at_most : exact ≤ℤ (z *ℤ power) → AtMost m p z
  unfolding AtMost value scaled weight
  at_most h = h

-- ---- points of a cell

module _ (c : Cell) where
  abbrev OfCell : Type 0
  OfCell = CellPoint (depth c.shape 0) (place c.shape 0) (depth c.shape 1) (place c.shape 1) (depth c.shape 2) (place c.shape 2)

  from_point : (p : Point) → Rational p → In p c.shape → OfCell
  from_point p r i = record {
    u1 = p.numerator 0;
    u2 = p.numerator 1;
    u3 = p.numerator 2;
    D = p.denominator;
    D_pos = r.0;
    u1_le = r.1 0 (omega arith);
    u2_le = r.1 1 (omega arith);
    u3_le = r.1 2 (omega arith);
    part1 = part (depth c.shape 0) (place c.shape 0) (p.numerator 0) p.denominator (i 0 (omega arith));
    part2 = part (depth c.shape 1) (place c.shape 1) (p.numerator 1) p.denominator (i 1 (omega arith));
    part3 = part (depth c.shape 2) (place c.shape 2) (p.numerator 2) p.denominator (i 2 (omega arith));
  }

  abbrev to_point : OfCell → Point
  to_point q = record { denominator = q.D; numerator = three q.u1 q.u2 q.u3 }

  rational : (q : OfCell) → Rational (to_point q)
  rational q = (q.D_pos, three_cases (λ v. three q.u1 q.u2 q.u3 v ≤ q.D) q.u1_le q.u2_le q.u3_le)

  inside : (q : OfCell) → In (to_point q) c.shape
  inside q =
      three_cases (λ v. Covers (depth c.shape v) (place c.shape v) (three q.u1 q.u2 q.u3 v) q.D)
      (covers (depth c.shape 0) (place c.shape 0) q.u1 q.D q.part1)
      (covers (depth c.shape 1) (place c.shape 1) q.u2 q.D q.part2)
      (covers (depth c.shape 2) (place c.shape 2) q.u3 q.D q.part3)

-- ---- the rules

module _ (m : Mapping) (c : Cell) where
  low_holds : (p : Point) → Rational p → In p c.shape → AtLeast m p (bernstein m c).low
  unfolding bernstein from_point
  low_holds p r i =
      at_least m p (bernstein m c).low
      (rules.encloses_at (degree m 0) (degree m 1) (degree m 2) (coefficient m) (depth c.shape 0) (place c.shape 0) (depth c.shape 1) (place c.shape 1) (depth c.shape 2) (place c.shape 2)
      (c.inside 0 (omega arith)) (c.inside 1 (omega arith)) (c.inside 2 (omega arith)) (from_point c p r i)).0

  high_holds : (p : Point) → Rational p → In p c.shape → AtMost m p (bernstein m c).high
  unfolding bernstein from_point
  high_holds p r i =
      at_most m p (bernstein m c).high
      (rules.encloses_at (degree m 0) (degree m 1) (degree m 2) (coefficient m) (depth c.shape 0) (place c.shape 0) (depth c.shape 1) (place c.shape 1) (depth c.shape 2) (place c.shape 2)
      (c.inside 0 (omega arith)) (c.inside 1 (omega arith)) (c.inside 2 (omega arith)) (from_point c p r i)).1

  low_near : (p : Point) × Rational p × In p c.shape × AtMost m p ((bernstein m c).low +ℤ (bernstein m c).slack)
  unfolding bernstein
  low_near =
      let q = rules.low_near (degree m 0) (degree m 1) (degree m 2) (coefficient m) (depth c.shape 0) (place c.shape 0) (depth c.shape 1) (place c.shape 1) (depth c.shape 2) (place c.shape 2)
      (c.inside 0 (omega arith)) (c.inside 1 (omega arith)) (c.inside 2 (omega arith)) in
      (to_point c q.0, rational c q.0, inside c q.0, at_most m (to_point c q.0) ((bernstein m c).low +ℤ (bernstein m c).slack) q.1)

  high_near : (p : Point) × Rational p × In p c.shape × AtLeast m p ((bernstein m c).high -ℤ (bernstein m c).slack)
  unfolding bernstein
  high_near =
      let q = rules.high_near (degree m 0) (degree m 1) (degree m 2) (coefficient m) (depth c.shape 0) (place c.shape 0) (depth c.shape 1) (place c.shape 1) (depth c.shape 2) (place c.shape 2)
      (c.inside 0 (omega arith)) (c.inside 1 (omega arith)) (c.inside 2 (omega arith)) in
      (to_point c q.0, rational c q.0, inside c q.0, at_least m (to_point c q.0) ((bernstein m c).high -ℤ (bernstein m c).slack) q.1)

pub bernstein_rules : Rules bernstein
bernstein_rules = record { low_holds = low_holds; high_holds = high_holds; low_near = low_near; high_near = high_near }
