-- What the code holds, as a reader would draw it.
--     view e             the state of an enquiry
--     enquiry_of f m s   the enquiry with this form, mapping and state
-- Assumes nothing.
use Rattle.mapping.specs.declared.mapping.Mapping.{Mapping}
use Rattle.enquiry.specs.States.{State}
use Rattle.enquiry.specs.declared.enquiry.Enquiry.{Enquiry}

abbrev pub view : {F : Type 0} → Enquiry F → State
view e = record { rows = e.table; cleared = e.cleared; witness = e.witness }

abbrev pub enquiry_of : {F : Type 0} → F → Mapping → State → Enquiry F
enquiry_of f m s = record { form = f; mapping = m; table = s.rows; cleared = s.cleared; witness = s.witness }
