-- Refusals in a listed order.
--     first_listed cs    the refusal of the first condition of the list that holds, if any does
--     outcome x o        Ok x where nothing is refused, else Err with the refusal
-- Assumes nothing.
use Rattle.std.specs.Prelude.{Bool, cond, List, [], ◌∷◌, Some, None, Ok, Err, Option, Result}

abbrev pub first_listed : {F : Type 0} → List (Bool × F) → Option F
first_listed [] = None
first_listed (c ∷ cs) = cond c.0 (Some c.1) (first_listed cs)

abbrev pub outcome : {T F : Type 0} → T → Option F → Result T F
outcome x None = Ok x
outcome x (Some f) = Err f
