-- The eight register kinds.
--     kind_number k      the number that stands for it in a record
--     Numbered n r       the kind that has number n; none, and the number back, from 8 on
--     count_low k        the lowest count that the register holds
--     count_high k       the highest
-- Assumes nothing.
use Rattle.std.specs.Prelude.{◌≡◌, ℕ, ◌≤◌, ℤ, pos, negsuc, Result, MatchResult}
use Rattle.mapping.specs.declared.kind.Kind.{Kind}
use Rattle.mapping.specs.declared.kind.UnknownKind.{UnknownKind}
use Rattle.mapping.specs.declared.kind.Kind.TheVariants.{Unsigned8, Signed8, Unsigned16, Signed16, Unsigned12, Signed12, Unsigned14, Signed14}

abbrev pub kind_number : Kind → ℕ
kind_number Unsigned8 = 0
kind_number Signed8 = 1
kind_number Unsigned16 = 2
kind_number Signed16 = 3
kind_number Unsigned12 = 4
kind_number Signed12 = 5
kind_number Unsigned14 = 6
kind_number Signed14 = 7

abbrev pub Numbered : ℕ → Result Kind UnknownKind → Type 0
Numbered n r = MatchResult r (λ k. kind_number k ≡ n) (λ e. (8 ≤ n) × (e.0 ≡ n))

abbrev pub count_low : Kind → ℤ
count_low Unsigned8 = pos 0
count_low Signed8 = negsuc 127
count_low Unsigned16 = pos 0
count_low Signed16 = negsuc 32767
count_low Unsigned12 = pos 0
count_low Signed12 = negsuc 2047
count_low Unsigned14 = pos 0
count_low Signed14 = negsuc 8191

abbrev pub count_high : Kind → ℤ
count_high Unsigned8 = pos 255
count_high Signed8 = pos 127
count_high Unsigned16 = pos 65535
count_high Signed16 = pos 32767
count_high Unsigned12 = pos 4095
count_high Signed12 = pos 2047
count_high Unsigned14 = pos 16383
count_high Signed14 = pos 8191
