-- What it is to be in the register of a mapping.
--     InRegister m p         the exact value at the point is in the register
--     wholly_in m low high   no number from low to high is outside the register
--     wholly_out m low high  every number from low to high is above the register, or every one is below it
-- Assumes nothing.
use Rattle.std.specs.Prelude.{Bool, ◌&&◌, ◌||◌, ℤ, int_le, int_lt}
use Rattle.mapping.specs.Points.{Point}
use Rattle.mapping.specs.Values.{AtLeast, AtMost}
use Rattle.mapping.specs.Registers.{register_low, register_high}
use Rattle.mapping.specs.declared.mapping.Mapping.{Mapping}

unfoldable pub InRegister : Mapping → Point → Type 0
InRegister m p = AtLeast m p (register_low m) × AtMost m p (register_high m)

unfoldable pub wholly_in : Mapping → ℤ → ℤ → Bool
wholly_in m low high = int_le (register_low m) low && int_le high (register_high m)

unfoldable pub wholly_out : Mapping → ℤ → ℤ → Bool
wholly_out m low high = int_lt (register_high m) low || int_lt high (register_low m)
