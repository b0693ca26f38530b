-- What a checked record is told by.
--     number_of f        0 where nothing is refused, else the number of the refusal
-- Assumes nothing.
use Rattle.std.specs.Prelude.{ℕ, Some, None, Option}
use Rattle.mapping.specs.Faults.{record_number}
use Rattle.mapping.specs.declared.fault.RecordFault.{RecordFault}

abbrev pub number_of : Option RecordFault → ℕ
number_of None = 0
number_of (Some f) = record_number f
