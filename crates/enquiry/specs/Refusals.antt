-- The numbers of the refusals.
--     refusal_number f   the number that a refused call answers
-- Assumes nothing.
use Rattle.std.specs.Prelude.{ℕ}
use Rattle.enquiry.specs.declared.refusal.Refusal.{Refusal}
use Rattle.enquiry.specs.declared.refusal.Refusal.TheVariants.{NoRegion, NoInput, Deepest, Full, NotWithin, NoCorner}

abbrev pub refusal_number : Refusal → ℕ
refusal_number NoRegion = 21
refusal_number NoInput = 22
refusal_number Deepest = 23
refusal_number Full = 24
refusal_number NotWithin = 25
refusal_number NoCorner = 26
