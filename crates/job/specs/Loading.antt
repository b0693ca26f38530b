-- How an input begins: two bytes with the length of the record, most significant first, and the record.
--     input_faults bs    the refusals before the record is read, each with its condition, in their order
--     load_fault bs      the refusal that is given, if any: one of these, or else the record's own
--     Parted bs p q      nothing is refused before the record is read; p is the record, and q the bytes behind it
--     Loaded bs r        what loading comes to: the mapping that the bytes of the record are the record of, or the refusal
--     load_number f      the number of a refusal
-- Assumes nothing.
use Rattle.std.specs.Prelude.{◌≡◌, ℕ, ◌+◌, ◌≤◌, Bool, ◌||◌, List, [], ◌∷◌, length, Some, None, Ok, Err, Option, Result, nat_lt}
use Rattle.std.specs.Option.{option_map}
use Rattle.mapping.specs.Bits.{bits_of}
use Rattle.mapping.specs.Faults.{record_number}
use Rattle.mapping.specs.Framed.{announced, framed, beyond}
use Rattle.mapping.specs.Listed.{first_listed}
use Rattle.mapping.specs.Records.{record_bits, record_fault}
use Rattle.mapping.specs.declared.mapping.Mapping.{Mapping}
use Rattle.job.specs.declared.fault.LoadFault.{LoadFault}
use Rattle.job.specs.declared.fault.LoadFault.TheVariants.{TooLong, Cut, Record}

abbrev pub input_faults : List ℕ → List (Bool × LoadFault)
input_faults bs =
    (nat_lt 4096 (length bs), TooLong)
    ∷ ((nat_lt (length bs) 2 || nat_lt (length bs) (2 + announced bs), Cut)
    ∷ [])

-- a first refusal, or else a second
abbrev pub or_else : Option LoadFault → Option LoadFault → Option LoadFault
or_else (Some f) o = Some f
or_else None o = o

unfoldable pub load_fault : List ℕ → Option LoadFault
load_fault bs = or_else (first_listed (input_faults bs)) (option_map Record (record_fault (framed bs)))

-- nothing is refused before the record is read, and the record and the rest are within the input
pub record Parted (bs part rest : List ℕ) : Type 0 where
  pub accepted : first_listed (input_faults bs) ≡ None
  pub within : 2 + announced bs ≤ length bs
  pub record_is : part ≡ framed bs
  pub rest_is : rest ≡ beyond bs

abbrev pub Loaded : List ℕ → Result Mapping LoadFault → Type 0
Loaded bs (Ok m) = (load_fault bs ≡ None) × (bits_of (framed bs) ≡ record_bits m)
Loaded bs (Err f) = load_fault bs ≡ Some f

abbrev pub load_number : LoadFault → ℕ
load_number TooLong = 41
load_number Cut = 42
load_number (Record f) = record_number f
