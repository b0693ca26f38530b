-- The header of a record: eight fields in 24 bits, and what is refused of them.
--     header_bits h      the fields one after the other: format, inputs, three degrees, kind, shift, two zero bits
--     FitsHeader h       each field fits its bits, as a kind does by its type
--     header_faults h n  the refusals of a header before n bytes in all, each with its condition, in their order
-- Assumes nothing.
use Rattle.std.specs.Prelude.{ℕ, ◌+◌, ◌*◌, ◌^◌, ◌<◌, Bool, not, ◌&&◌, ◌||◌, List, [], ◌∷◌, ◌++◌, ◌==◌, nat_lt, slice_index}
use Rattle.mapping.specs.Bits.{spell}
use Rattle.mapping.specs.Terms.{terms}
use Rattle.mapping.specs.Kinds.{kind_number}
use Rattle.mapping.specs.declared.header.Header.{Header}
use Rattle.mapping.specs.declared.fault.RecordFault.{RecordFault}
use Rattle.mapping.specs.declared.fault.RecordFault.TheVariants.{Format, NoInput, AbsentDegree, ZeroBits, TooMany, Length}

abbrev pub header_bits : Header → List ℕ
header_bits h =
    spell 4 h.format ++ (spell 2 h.inputs
    ++ (spell 3 (slice_index h.degrees 0) ++ (spell 3 (slice_index h.degrees 1) ++ (spell 3 (slice_index h.degrees 2)
    ++ (spell 3 (kind_number h.kind) ++ (spell 4 h.shift ++ spell 2 h.zeros))))))

pub record FitsHeader (h : Header) : Type 0 where
  pub format : h.format < 2 ^ 4
  pub inputs : h.inputs < 2 ^ 2
  pub degree₁ : slice_index h.degrees 0 < 2 ^ 3
  pub degree₂ : slice_index h.degrees 1 < 2 ^ 3
  pub degree₃ : slice_index h.degrees 2 < 2 ^ 3
  pub shift : h.shift < 2 ^ 4
  pub zeros : h.zeros < 2 ^ 2

-- an input past the last has a degree other than 0
abbrev pub absent_degree : Header → Bool
absent_degree h =
    (nat_lt h.inputs 2 && not (slice_index h.degrees 1 == 0)) || (nat_lt h.inputs 3 && not (slice_index h.degrees 2 == 0))

abbrev pub header_faults : Header → ℕ → List (Bool × RecordFault)
header_faults h n =
    (not (h.format == 1), Format)
    ∷ (((h.inputs == 0), NoInput)
    ∷ ((absent_degree h, AbsentDegree)
    ∷ ((not (h.zeros == 0), ZeroBits)
    ∷ ((nat_lt 64 (terms h.degrees), TooMany)
    ∷ ((not (n == 3 + 4 * terms h.degrees), Length)
    ∷ [])))))
