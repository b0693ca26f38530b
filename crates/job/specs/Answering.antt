-- What a job is answered by.
--     ask                the form that a job uses: the pair of Bernstein and nested form
--     ending m steps     what the enquiry leaves at the end of a run
--     run_lines m steps  the lines of a run: the opening report, a line for each step, the last line
--     Told m steps ls    the lines are those of a run, whose reports are honest and whose witness is true
--     Answered bs ls     one line with the first refusal, or the lines of the run on the mapping whose record the
--                        input holds; then all reports of the run are honest, and a witness that it ends with is outside the register
-- Assumes nothing.
use Rattle.std.specs.Prelude.{◌≡◌, ℕ, ◌⊎◌, List, [], ◌∷◌, ◌++◌, Some, None, Option}
use Rattle.mapping.specs.Bits.{bits_of}
use Rattle.mapping.specs.Framed.{framed, beyond}
use Rattle.mapping.specs.Records.{record_bits}
use Rattle.mapping.specs.declared.cell.Cell.{Cell}
use Rattle.mapping.specs.declared.mapping.Mapping.{Mapping}
use Rattle.forms.specs.Bernstein.{bernstein}
use Rattle.forms.specs.Nested.{nested}
use Rattle.forms.specs.Pairs.{both}
use Rattle.forms.specs.declared.answer.Answer.{Answer}
use Rattle.enquiry.specs.Honest.{Honest, WitnessTrue}
use Rattle.enquiry.specs.Runs.{replies, after, reports}
use Rattle.enquiry.specs.States.{opened}
use Rattle.enquiry.specs.Steps.{report, close}
use Rattle.enquiry.specs.declared.call.Call.{Call}
use Rattle.enquiry.specs.declared.closed.Closed.{Closed}
use Rattle.job.specs.Calls.{steps_of, valid}
use Rattle.job.specs.Lines.{merged, last_line}
use Rattle.job.specs.Loading.{load_fault}
use Rattle.job.specs.declared.denial.Denial.TheVariants.{Load}
use Rattle.job.specs.declared.fault.LoadFault.{LoadFault}
use Rattle.job.specs.declared.line.Line.{Line}
use Rattle.job.specs.declared.line.Line.TheVariants.{Range, No}

abbrev pub ask : Mapping → Cell → Answer
ask = both bernstein nested

abbrev pub ending : Mapping → List (Option Call) → Closed
ending m steps = close m (after ask m (opened ask m) (valid steps))

unfoldable pub run_lines : Mapping → List (Option Call) → List Line
run_lines m steps =
    let calls = valid steps in
    Range (report m (opened ask m))
    ∷ (merged steps (replies ask m (opened ask m) calls) ++ (last_line m (ending m steps) ∷ []))

-- the lines are those of a run, its reports are honest, and a witness that it ends with is outside the register
pub record Told (m : Mapping) (steps : List (Option Call)) (ls : List Line) : Type 0 where
  pub lines : ls ≡ run_lines m steps
  pub honest : Honest m (reports ask m (valid steps))
  pub witness : WitnessTrue m (ending m steps)

-- the input is refused
pub record Refused (bs : List ℕ) (ls : List Line) : Type 0 where
  pub fault : LoadFault
  pub given : load_fault bs ≡ Some fault
  pub lines : ls ≡ No (Load fault) ∷ []

-- the input holds a record, and its calls were run
pub record Ran (bs : List ℕ) (ls : List Line) : Type 0 where
  pub mapping : Mapping
  pub accepted : load_fault bs ≡ None
  pub held : bits_of (framed bs) ≡ record_bits mapping
  pub told : Told mapping (steps_of (beyond bs)) ls

abbrev pub Answered : List ℕ → List Line → Type 0
Answered bs ls = Refused bs ls ⊎ Ran bs ls
