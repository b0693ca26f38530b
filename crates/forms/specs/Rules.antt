-- The rules of an enclosure form. A form is told by its meaning: one fixed answer for every mapping and every cell.
--     ask m c            the answer: the two ends of the enclosure, and the slack
--     Rules ask          for every mapping and every cell: each exact value lies in the enclosure, some value is at most
--                        low + slack, and some value is at least high − slack
-- Assumes nothing.
use Rattle.std.specs.Prelude.{◌+ℤ◌, ◌-ℤ◌}
use Rattle.mapping.specs.Points.{Point, Rational, In}
use Rattle.mapping.specs.Values.{AtLeast, AtMost}
use Rattle.mapping.specs.declared.mapping.Mapping.{Mapping}
use Rattle.mapping.specs.declared.cell.Cell.{Cell}
use Rattle.forms.specs.declared.answer.Answer.{Answer}

pub record Rules (ask : Mapping → Cell → Answer) : Type 0 where
  pub low_holds : (m : Mapping) (c : Cell) (p : Point) → Rational p → In p c.shape → AtLeast m p (ask m c).low
  pub high_holds : (m : Mapping) (c : Cell) (p : Point) → Rational p → In p c.shape → AtMost m p (ask m c).high
  pub low_near : (m : Mapping) (c : Cell) → (p : Point) × Rational p × In p c.shape × AtMost m p ((ask m c).low +ℤ (ask m c).slack)
  pub high_near : (m : Mapping) (c : Cell) → (p : Point) × Rational p × In p c.shape × AtLeast m p ((ask m c).high -ℤ (ask m c).slack)
