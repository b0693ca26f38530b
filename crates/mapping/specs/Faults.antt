-- The numbers of the refusals.
--     record_number f    of a record that is read
--     write_number f     of one that is written
-- Assumes nothing.
use Rattle.std.specs.Prelude.{ℕ}
use Rattle.mapping.specs.declared.fault.RecordFault.{RecordFault}
use Rattle.mapping.specs.declared.fault.RecordFault.TheVariants.{Short, Format, NoInput, AbsentDegree, ZeroBits, TooMany, Length}
use Rattle.mapping.specs.declared.fault.WriteFault.{WriteFault}
use Rattle.mapping.specs.declared.fault.WriteFault.TheVariants.{SmallBuffer}

abbrev pub record_number : RecordFault → ℕ
record_number Short = 1
record_number Format = 2
record_number NoInput = 3
record_number AbsentDegree = 4
record_number ZeroBits = 5
record_number TooMany = 6
record_number Length = 7

abbrev pub write_number : WriteFault → ℕ
write_number SmallBuffer = 11
