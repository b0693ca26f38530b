-- Which refusal an input gets. Assumes nothing.
use Rattle.std.proofs.Common.{◌≡◌, ℕ, List, Some}
use Rattle.std.specs.Option.{option_map}
use Rattle.mapping.specs.Listed.{first_listed}
use Rattle.mapping.specs.Records.{record_fault}
use Rattle.job.specs.Loading.{input_faults, load_fault, Parted}
use Rattle.job.specs.declared.fault.LoadFault.{LoadFault}
use Rattle.job.specs.declared.fault.LoadFault.TheVariants.{Record}

-- a refusal before the record is read is the one that is given
pub input_refused : (bs : List ℕ) (f : LoadFault) → first_listed (input_faults bs) ≡ Some f → load_fault bs ≡ Some f
unfolding load_fault
input_refused bs f e = rw e

-- without one the record decides
pub record_decides : (bs part rest : List ℕ) → Parted bs part rest → load_fault bs ≡ option_map Record (record_fault part)
unfolding load_fault
record_decides bs part rest cut = rw (cut.accepted, cut.record_is)
