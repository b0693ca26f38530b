-- Cells from plain numbers: a cell is told by its shape, and a shape within the limits is the shape of its cell. Assumes nothing.
use Rattle.std.proofs.Common.{◌≡◌, ℕ, ◌+◌, ◌*◌, ◌^◌, ◌<◌, ◌≤◌, length, Some, None, Option, MatchOption, sym, refl, ◌∙◌, subst, arith}
use mathlib.Core.HLevel.{is_prop→PathP, Π_prop}
use native.Mathlib.Bridge.{le_prop}
use native.Mathlib.Nat.{ℕ_set, pow-zero}
use Rattle.mapping.specs.Cells.{depth, place, Valid, box}
use Rattle.mapping.specs.Points.{Point, Rational, Covers, In}
use Rattle.mapping.specs.declared.cell.Part.{Part}
use Rattle.mapping.specs.declared.cell.Shape.{Shape}
use Rattle.mapping.specs.declared.cell.Cell.{Cell}
use Rattle.mapping.proofs.Halving.{valid_cell}
use Rattle.enquiry.specs.CellOf.{whole_parts, whole, valid?, cell_when, cell_of}

pub same_cell : (a b : Cell) → a.shape ≡ b.shape → a ≡ b
same_cell a b e = λ i. record {
  shape = e i;
  three = is_prop→PathP (λ j. length (e j).parts ≡ 3) (λ j. ℕ_set (length (e j).parts) 3) a.three b.three i;
  shallow = is_prop→PathP (λ j. (v : ℕ) → v < 3 → depth (e j) v ≤ 10) (λ j. Π_prop (λ v. Π_prop (λ h. le_prop))) a.shallow b.shallow i;
  inside = is_prop→PathP (λ j. (v : ℕ) → v < 3 → place (e j) v < 2 ^ depth (e j) v) (λ j. Π_prop (λ v. Π_prop (λ h. le_prop))) a.inside b.inside i;
}

when_valid : (s : Shape) (d : Dec (Valid s)) → Valid s → (cell_when s d).shape ≡ s
when_valid s (yes ok) v = refl
when_valid s (no not) v = absurd (not v)

when_not : (s : Shape) (d : Dec (Valid s)) → (Valid s → ⊥) → cell_when s d ≡ whole
when_not s (yes ok) n = absurd (n ok)
when_not s (no not) n = refl

pub cell_of_valid : (s : Shape) → Valid s → (cell_of s).shape ≡ s
unfolding cell_of
cell_of_valid s ok = when_valid s (valid? s) ok

pub cell_of_not : (s : Shape) → (Valid s → ⊥) → cell_of s ≡ whole
unfolding cell_of
cell_of_not s n = when_not s (valid? s) n

-- a cell of this shape is the cell of the shape
pub cell_of_shape : (c : Cell) (s : Shape) → c.shape ≡ s → c ≡ cell_of s
cell_of_shape c s e = same_cell c (cell_of s) (subst (λ t. c.shape ≡ t) (sym (cell_of_valid s (subst Valid e (valid_cell c)))) e)

-- the cell that was made of a shape, else the whole box
pub made_or_whole : (P : Type 0) (s : Shape) (made : Option Cell) (c : Cell)
    → MatchOption made (Valid s → ⊥) (λ d. d.shape ≡ s) → MatchOption made ((c.shape ≡ box) × P) (λ d. c ≡ d) → c ≡ cell_of s
made_or_whole P s None c not h = same_cell c whole h.0 ∙ sym (cell_of_not s not)
made_or_whole P s (Some d) c e h = h ∙ cell_of_shape d s e

pub box_valid : Valid box
box_valid = valid_cell whole

-- the box holds every rational point
pub in_box : (p : Point) → Rational p → In p box
in_box p r v h =
    subst (λ (q : Part). Covers q.depth q.place (p.numerator v) p.denominator) (sym (whole_parts v))
    (subst (λ (w : ℕ). (0 * p.denominator ≤ p.numerator v * w) × (p.numerator v * w ≤ (0 + 1) * p.denominator)) (sym (pow-zero 2))
    (omega arith, omega (arith, r.1 v h)))
