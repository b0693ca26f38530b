-- The record of a mapping, as bits, and what is refused of bytes that are read as one.
--     header_for m       the header of the mapping's record
--     value_bits cs      coefficients as fields of 32 bits in two's complement, one after the other
--     Padded n cs        an array of n coefficients, each of 32 bits, with zeros behind them
--     record_bits m      the record of the mapping: its header, then its coefficients
--     record_size m      the bytes of the record
--     kinds              the kinds in the order of their numbers
--     header_of bs       the fields that stand at the header's places in bytes
--     record_faults bs   the refusals of bytes, each with its condition, in their order
--     record_fault bs    the refusal that is given, if any
--     Parsed bs r        what reading bytes comes to: the mapping that they are the record of, or the refusal
--     Filled bs p q r    the place, which held p, holds the mapping that bytes are the record of, or is untouched at a refusal
--     written m n        what writing into n bytes answers: the record's size, or the refusal where it does not fit
--     Written m p q r    the buffer, which held p, begins with the record and goes on as before, or is untouched at a refusal
--     Begins bs q r      the buffer now begins with just these bytes, where something was written
-- Assumes nothing.
use Rattle.std.specs.Prelude.{◌≡◌, ℕ, ◌+◌, ◌*◌, ◌^◌, ◌<◌, ◌≤◌, Bool, cond, List, [], ◌∷◌, ◌++◌, length, take, drop, slice_index_or, ℤ, pos, Some, None, Ok, Err, Option, Result, nat_lt}
use Rattle.std.specs.Int.{w32}
use Rattle.std.specs.Int.Signed.{mag}
use Rattle.std.proofs.Common.{of_z}
use Rattle.std.specs.List.{flat_map}
use Rattle.mapping.specs.Bits.{spell, bits_of, field}
use Rattle.mapping.specs.Terms.{terms}
use Rattle.mapping.specs.Listed.{first_listed}
use Rattle.mapping.specs.Headers.{header_bits, header_faults}
use Rattle.mapping.specs.declared.header.Header.{Header}
use Rattle.mapping.specs.declared.kind.Kind.{Kind}
use Rattle.mapping.specs.declared.kind.Kind.TheVariants.{Unsigned8, Signed8, Unsigned16, Signed16, Unsigned12, Signed12, Unsigned14, Signed14}
use Rattle.mapping.specs.declared.mapping.Mapping.{Mapping}
use Rattle.mapping.specs.declared.fault.RecordFault.{RecordFault}
use Rattle.mapping.specs.declared.fault.RecordFault.TheVariants.{Short}
use Rattle.mapping.specs.declared.fault.WriteFault.{WriteFault}
use Rattle.mapping.specs.declared.fault.WriteFault.TheVariants.{SmallBuffer}

abbrev pub header_for : Mapping → Header
header_for m = record {
  format = 1;
  inputs = m.inputs;
  degrees = m.degrees;
  kind = m.kind;
  shift = m.shift;
  zeros = 0;
}

unfoldable pub value_bits : List ℤ → List ℕ
value_bits cs = flat_map (λ c. spell 32 (of_z w32 c)) cs

pub record Padded (n : ℕ) (cs : List ℤ) : Type 0 where
  pub table : length cs ≡ 64
  pub narrow : (k : ℕ) → mag (slice_index_or cs k (pos 0)) < 2 ^ 31
  pub unused : (k : ℕ) → n ≤ k → slice_index_or cs k (pos 0) ≡ pos 0

unfoldable pub record_bits : Mapping → List ℕ
record_bits m = header_bits (header_for m) ++ value_bits (take (terms m.degrees) m.coefficients)

abbrev pub record_size : Mapping → ℕ
record_size m = 3 + 4 * terms m.degrees

abbrev pub kinds : List Kind
kinds = Unsigned8 ∷ (Signed8 ∷ (Unsigned16 ∷ (Signed16 ∷ (Unsigned12 ∷ (Signed12 ∷ (Unsigned14 ∷ (Signed14 ∷ [])))))))

abbrev pub header_of : List ℕ → Header
header_of bs = record {
  format = field bs 0 4;
  inputs = field bs 4 2;
  degrees = field bs 6 3 ∷ (field bs 9 3 ∷ (field bs 12 3 ∷ []));
  kind = slice_index_or kinds (field bs 15 3) Unsigned8;
  shift = field bs 18 4;
  zeros = field bs 22 2;
}

abbrev pub record_faults : List ℕ → List (Bool × RecordFault)
record_faults bs = (nat_lt (length bs) 3, Short) ∷ header_faults (header_of bs) (length bs)

unfoldable pub record_fault : List ℕ → Option RecordFault
record_fault bs = first_listed (record_faults bs)

abbrev pub Parsed : List ℕ → Result Mapping RecordFault → Type 0
Parsed bs (Ok m) = (record_fault bs ≡ None) × (bits_of bs ≡ record_bits m)
Parsed bs (Err f) = record_fault bs ≡ Some f

abbrev pub Filled : List ℕ → Mapping → Mapping → Result (Unit {0}) RecordFault → Type 0
Filled bs before after (Ok x) = bits_of bs ≡ record_bits after
Filled bs before after (Err f) = after ≡ before

abbrev pub written : Mapping → ℕ → Result ℕ WriteFault
written m n = cond (nat_lt n (record_size m)) (Err SmallBuffer) (Ok (record_size m))

abbrev pub Written : Mapping → List ℕ → List ℕ → Result ℕ WriteFault → Type 0
Written m before after (Ok n) = (bits_of (take n after) ≡ record_bits m) × (drop n after ≡ drop n before)
Written m before after (Err f) = after ≡ before

abbrev pub Begins : List ℕ → List ℕ → Result ℕ WriteFault → Type 0
Begins bs after (Ok n) = take n after ≡ bs
Begins bs after (Err f) = Unit {0}
