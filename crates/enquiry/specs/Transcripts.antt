-- The transcript of a run.
--     Transcribed ask m cs t    the transcript of the calls cs is the defined one: the opening report, every reply, the closed state
--     seen_in t                 every report in the transcript, the oldest first
-- Assumes nothing.
use Rattle.std.specs.Prelude.{◌≡◌, List, vec_items}
use Rattle.mapping.specs.declared.cell.Cell.{Cell}
use Rattle.mapping.specs.declared.mapping.Mapping.{Mapping}
use Rattle.forms.specs.declared.answer.Answer.{Answer}
use Rattle.enquiry.specs.Runs.{replies, after, seen}
use Rattle.enquiry.specs.States.{opened}
use Rattle.enquiry.specs.Steps.{report, close}
use Rattle.enquiry.specs.declared.call.Call.{Call}
use Rattle.enquiry.specs.declared.report.Report.{Report}
use Rattle.enquiry.specs.declared.run.Transcript.{Transcript}

pub record Transcribed (ask : Mapping → Cell → Answer) (m : Mapping) (calls : List Call) (t : Transcript) : Type 0 where
  pub opening : t.opening ≡ report m (opened ask m)
  pub replies : vec_items t.replies ≡ replies ask m (opened ask m) calls
  pub closed : t.closed ≡ close m (after ask m (opened ask m) calls)

abbrev pub seen_in : Transcript → List Report
seen_in t = seen t.opening (vec_items t.replies) t.closed
