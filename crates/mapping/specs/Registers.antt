-- The register of a mapping, in steps. A count is worth 2^shift steps.
--     register_low m     the lowest value that the register holds
--     register_high m    the highest
--     Blank m            a new mapping: one input of degree 0, kind 0, shift 0 and zeros
-- Assumes nothing.
use Rattle.std.specs.Prelude.{◌≡◌, ℕ, ◌^◌, [], ◌∷◌, ℤ, pos, ◌*ℤ◌, slice_index_or}
use Rattle.mapping.specs.Kinds.{count_low, count_high}
use Rattle.mapping.specs.declared.kind.Kind.TheVariants.{Unsigned8}
use Rattle.mapping.specs.declared.mapping.Mapping.{Mapping}

abbrev pub register_low : Mapping → ℤ
register_low m = count_low m.kind *ℤ pos (2 ^ m.shift)

abbrev pub register_high : Mapping → ℤ
register_high m = count_high m.kind *ℤ pos (2 ^ m.shift)

pub record Blank (m : Mapping) : Type 0 where
  pub inputs : m.inputs ≡ 1
  pub degrees : m.degrees ≡ 0 ∷ (0 ∷ (0 ∷ []))
  pub kind : m.kind ≡ Unsigned8
  pub shift : m.shift ≡ 0
  pub coefficients : (k : ℕ) → slice_index_or m.coefficients k (pos 0) ≡ pos 0
