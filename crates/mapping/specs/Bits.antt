-- Numbers as bits, the most significant first. A bit is 0 or 1.
--     spell k v          the k lowest bits of v, as a field of k bits holds them
--     number bits        the number that bits write
--     bits_of bytes      the bits of bytes, one byte after the other
--     field bytes p k    the number in the k bits from bit p on
--     Bytes bs           each number is a byte
--     Taken w u r t      taking a field of w bits off the bits u, which leaves t, gives the number r, or a fault where u has fewer
-- Assumes nothing.
use Rattle.std.specs.Prelude.{◌≡◌, ℕ, zero, suc, ◌+◌, ◌*◌, ◌/◌, ◌%◌, ◌^◌, ◌<◌, List, [], ◌∷◌, ◌++◌, length, take, drop, Ok, Err, Result}
use Rattle.std.specs.List.{flat_map, AllByRecursion}

unfoldable pub spell : ℕ → ℕ → List ℕ
spell zero v = []
spell (suc k) v = (v / 2 ^ k % 2) ∷ spell k v

unfoldable pub number : List ℕ → ℕ
number [] = 0
number (b ∷ bits) = b * 2 ^ length bits + number bits

unfoldable pub bits_of : List ℕ → List ℕ
bits_of bytes = flat_map (spell 8) bytes

unfoldable pub field : List ℕ → ℕ → ℕ → ℕ
field bytes p k = number (take k (drop p (bits_of bytes)))

abbrev pub Bytes : List ℕ → Type 0
Bytes bs = AllByRecursion (λ b. b < 256) bs

abbrev pub Taken : {F : Type 0} → ℕ → List ℕ → Result ℕ F → List ℕ → Type 0
Taken width before (Ok v) after = (v < 2 ^ width) × (before ≡ spell width v ++ after) × (length before ≡ width + length after)
Taken width before (Err f) after = (length before < width) × (after ≡ before)
