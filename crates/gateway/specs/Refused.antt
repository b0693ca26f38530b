-- What C is told of a call: a number that names each refusal, and what stands for success.
--     enclose_number f   the number of a refusal to ask a form
--     enclose_told r     that number; or 0
--     deliver_number f   the number of a refusal to hand an answer over
--     deliver_told r     that number; or how many bytes were written
-- Assumes nothing.
use Rattle.std.specs.Prelude.{ℕ, ℤ, pos, Ok, Err, Result}
use Rattle.mapping.specs.Faults.{record_number}
use Rattle.gateway.specs.Delivered.{too_small, no_memory}
use Rattle.gateway.specs.declared.fault.EncloseFault.{EncloseFault}
use Rattle.gateway.specs.declared.fault.EncloseFault.TheVariants.{Record, NoForm, NoCell, NoRoom}
use Rattle.gateway.specs.declared.fault.DeliverFault.{DeliverFault}
use Rattle.gateway.specs.declared.fault.DeliverFault.TheVariants.{SmallOutput, NoMemory}

abbrev pub enclose_number : EncloseFault → ℕ
enclose_number (Record f) = record_number f
enclose_number NoForm = 71
enclose_number NoCell = 72
enclose_number NoRoom = 73

abbrev pub enclose_told : Result (Unit {0}) EncloseFault → ℕ
enclose_told (Ok x) = 0
enclose_told (Err f) = enclose_number f

abbrev pub deliver_number : DeliverFault → ℤ
deliver_number SmallOutput = too_small
deliver_number NoMemory = no_memory

abbrev pub deliver_told : Result ℕ DeliverFault → ℤ
deliver_told (Ok n) = pos n
deliver_told (Err f) = deliver_number f
