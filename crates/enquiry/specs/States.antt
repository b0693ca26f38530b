-- The state of an enquiry, as a reader would draw it.
--     State              the open regions in their order, the hull and the largest slack of the cleared ones, the witness
--     row_of s a         the region with this shape and a form's answer
--     no_answer, no_row  what stands where there is none
--     region_at s i      the open region with number i, counted from 0
--     join x y           the hull of two enclosures, and the larger slack
--     join_on h a        the same, onto what there may be
--     join_rows h rows   the same, one region after the other
--     hull s             the hull and the largest slack of all regions, open and cleared
--     opened ask m       a new enquiry: one region, the whole box with the form's answer
-- Assumes nothing.
use Rattle.std.specs.Prelude.{ℕ, List, [], ◌∷◌, pos, Some, None, fold, Option, slice_index_or}
use Rattle.std.specs.Int.{int_max, int_min}
use Rattle.mapping.specs.Cells.{box}
use Rattle.mapping.specs.declared.cell.Shape.{Shape}
use Rattle.mapping.specs.declared.cell.Cell.{Cell}
use Rattle.mapping.specs.declared.mapping.Mapping.{Mapping}
use Rattle.forms.specs.declared.answer.Answer.{Answer}
use Rattle.enquiry.specs.CellOf.{cell_of}
use Rattle.enquiry.specs.declared.table.Row.{Row}
use Rattle.enquiry.specs.declared.witness.Witness.{Witness}

pub record State : Type 0 where
  pub rows : List Row
  pub cleared : Option Answer
  pub witness : Option Witness

abbrev pub row_of : Shape → Answer → Row
row_of s a = record { shape = s; answer = a }

abbrev pub no_answer : Answer
no_answer = record { low = pos 0; high = pos 0; slack = pos 0 }

abbrev pub no_row : Row
no_row = row_of box no_answer

abbrev pub region_at : State → ℕ → Row
region_at s i = slice_index_or s.rows i no_row

abbrev pub join : Answer → Answer → Answer
join x y = record { low = int_min x.low y.low; high = int_max x.high y.high; slack = int_max x.slack y.slack }

abbrev pub join_on : Option Answer → Answer → Option Answer
join_on None a = Some a
join_on (Some h) a = Some (join h a)

abbrev pub join_rows : Option Answer → List Row → Option Answer
join_rows h rows = fold (λ g r. join_on g r.answer) h rows

unfoldable pub hull : State → Option Answer
hull s = join_rows s.cleared s.rows

unfoldable pub opened : (Mapping → Cell → Answer) → Mapping → State
opened ask m = record { rows = row_of box (ask m (cell_of box)) ∷ []; cleared = None; witness = None }
