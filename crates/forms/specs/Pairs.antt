-- A pair of forms: the tighter of two answers.
--     tighter x y        the greater low end, the smaller high end, the smaller slack
--     both f g           the meaning of a pair, from those of its parts
-- Assumes nothing.
use Rattle.std.specs.Int.{int_max, int_min}
use Rattle.mapping.specs.declared.mapping.Mapping.{Mapping}
use Rattle.mapping.specs.declared.cell.Cell.{Cell}
use Rattle.forms.specs.declared.answer.Answer.{Answer}

abbrev pub tighter : Answer → Answer → Answer
tighter x y = record { low = int_max x.low y.low; high = int_min x.high y.high; slack = int_min x.slack y.slack }

abbrev pub both : (Mapping → Cell → Answer) → (Mapping → Cell → Answer) → Mapping → Cell → Answer
both f g m c = tighter (f m c) (g m c)
