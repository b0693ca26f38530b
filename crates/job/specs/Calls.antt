-- The calls of a job, as bytes: three for each call, a code, a region and an argument.
--     call_of code i n   the call; none for an unknown code. A call ignores the bytes that it does not need
--     call_in bs         the call that three bytes are; none for any other number of bytes
--     steps_of bs        the calls in their order; none stands for an unknown code and for a last call cut short
--     valid steps        the calls that can be made
-- Assumes nothing.
use Rattle.std.specs.Prelude.{ℕ, cond, List, [], ◌∷◌, Some, None, Option, ◌==◌}
use Rattle.std.specs.List.{filter_map}
use Rattle.enquiry.specs.declared.call.Call.{Call}
use Rattle.enquiry.specs.declared.call.Call.TheVariants.{Halve, Clear, Probe, Report}

-- the codes are the letters H, C, P and R
abbrev pub call_of : ℕ → ℕ → ℕ → Option Call
call_of code i n =
    cond (code == 72) (Some (Halve i n))
    (cond (code == 67) (Some (Clear i))
    (cond (code == 80) (Some (Probe i n))
    (cond (code == 82) (Some Report) None)))

-- three bytes are a call of a known code; fewer, or more, are none
abbrev pub call_in : List ℕ → Option Call
call_in (code ∷ (i ∷ (n ∷ []))) = call_of code i n
call_in _ = None

abbrev pub steps_of : List ℕ → List (Option Call)
steps_of [] = []
steps_of (a ∷ []) = None ∷ []
steps_of (a ∷ (b ∷ [])) = None ∷ []
steps_of (a ∷ (b ∷ (c ∷ bs))) = call_of a b c ∷ steps_of bs

abbrev pub valid : List (Option Call) → List Call
valid steps = filter_map (λ step. step) steps
