-- A cell in nine bytes. Inputs are counted from 0.
--     pair_at bs i       the two bytes from place i on, as a number, the most significant first
--     part_in bs v       the part of input v: the depth in byte v, and the place in the two bytes from place 3 + 2 v on
--     unpacked bs        the shape in nine bytes: three depths, and then three places, two bytes each
-- Assumes nothing.
use Rattle.std.specs.Prelude.{ℕ, ◌+◌, ◌*◌, List, [], ◌∷◌, slice_index}
use Rattle.mapping.specs.declared.cell.Part.{Part}
use Rattle.mapping.specs.declared.cell.Shape.{Shape}

abbrev pub pair_at : List ℕ → ℕ → ℕ
pair_at bs i = slice_index bs i * 256 + slice_index bs (i + 1)

abbrev pub part_in : List ℕ → ℕ → Part
part_in bs v = record { depth = slice_index bs v; place = pair_at bs (3 + 2 * v) }

unfoldable pub unpacked : List ℕ → Shape
unpacked bs = record { parts = part_in bs 0 ∷ (part_in bs 1 ∷ (part_in bs 2 ∷ [])) }
