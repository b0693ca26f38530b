-- The Bernstein form: its answer for a mapping and a cell.
--     bernstein m c      the enclosure and the slack of the mapping's polynomial on the cell
-- Assumes nothing.
use Rattle.mapping.specs.Cells.{depth, place}
use Rattle.mapping.specs.Values.{degree, coefficient}
use Rattle.mapping.specs.declared.mapping.Mapping.{Mapping}
use Rattle.mapping.specs.declared.cell.Cell.{Cell}
use Rattle.forms.specs.declared.answer.Answer.{Answer}
use Rattle.forms.specs.Tables as tables

unfoldable pub bernstein : Mapping → Cell → Answer
bernstein m c =
    let s = c.shape in
    record {
      low = tables.low (degree m 0) (degree m 1) (degree m 2) (coefficient m) (depth s 0) (place s 0) (depth s 1) (place s 1) (depth s 2) (place s 2);
      high = tables.high (degree m 0) (degree m 1) (degree m 2) (coefficient m) (depth s 0) (place s 0) (depth s 1) (place s 1) (depth s 2) (place s 2);
      slack = tables.slack (degree m 0) (degree m 1) (degree m 2) (coefficient m) (depth s 0) (depth s 1) (depth s 2);
    }
