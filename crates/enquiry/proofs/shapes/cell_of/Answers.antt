use Rattle.enquiry.proofs.Cells.{made_or_whole}
use Rattle.enquiry.proofs.shapes.cell_of.Goals as goal

pub returns : goal.returns
returns c = record { value = made_or_whole _ c.args.shape c.new.result c.unwrap_or_else.result c.new.ensures.value c.unwrap_or_else.ensures }
