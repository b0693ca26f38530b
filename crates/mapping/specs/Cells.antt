-- Cells: dyadic parts of the input box. Inputs are counted from 0 here: v stands for input v + 1.
--     whole_part         an input from 0 to 1: depth 0 and place 0
--     depth s v          how often input v was halved
--     place s v          which of the 2^depth parts it is in
--     Valid s            the limits: three inputs, each depth at most 10, each place below 2^depth
--     box                the whole box: all depths 0
--     half_part s v side the lower half (side 0) or the upper half (side 1) of the part of input v
--     half s v side      input v in its lower half (side 0) or its upper half (side 1)
--     Halves s n         input n, counted from 1, is there and is not at its deepest
-- Assumes nothing.
use Rattle.std.specs.Prelude.{◌≡◌, ℕ, ◌+◌, ◌-◌, ◌*◌, ◌^◌, ◌<◌, ◌≤◌, [], ◌∷◌, length, slice_index_or, slice_set}
use Rattle.mapping.specs.declared.cell.Part.{Part}
use Rattle.mapping.specs.declared.cell.Shape.{Shape}

abbrev pub whole_part : Part
whole_part = record { depth = 0; place = 0 }

abbrev pub depth : Shape → ℕ → ℕ
depth s v = (slice_index_or s.parts v whole_part).depth

abbrev pub place : Shape → ℕ → ℕ
place s v = (slice_index_or s.parts v whole_part).place

pub record Valid (s : Shape) : Type 0 where
  pub three : length s.parts ≡ 3
  pub shallow : (v : ℕ) → v < 3 → depth s v ≤ 10
  pub inside : (v : ℕ) → v < 3 → place s v < 2 ^ depth s v

abbrev pub box : Shape
box = record { parts = whole_part ∷ (whole_part ∷ (whole_part ∷ [])) }

abbrev pub half_part : Shape → ℕ → ℕ → Part
half_part s v side = record { depth = depth s v + 1; place = 2 * place s v + side }

abbrev pub half : Shape → ℕ → ℕ → Shape
half s v side = record { parts = slice_set s.parts v (half_part s v side) }

abbrev pub Halves : Shape → ℕ → Type 0
Halves s n = (1 ≤ n) × (n ≤ 3) × (depth s (n - 1) < 10)
