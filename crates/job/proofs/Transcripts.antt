-- A transcript turned into lines. Assumes nothing.
use Rattle.std.proofs.Common.{◌≡◌, List, [], ◌∷◌, ◌++◌, vec_items, Option}
use Rattle.mapping.specs.declared.mapping.Mapping.{Mapping}
use Rattle.enquiry.specs.Honest.{Honest}
use Rattle.enquiry.specs.Runs.{reports}
use Rattle.enquiry.specs.Transcripts.{Transcribed, seen_in}
use Rattle.enquiry.specs.declared.call.Call.{Call}
use Rattle.enquiry.specs.declared.run.Transcript.{Transcript}
use Rattle.job.specs.Answering.{ask, run_lines}
use Rattle.job.specs.Calls.{valid}
use Rattle.job.specs.Lines.{merged, last_line}
use Rattle.job.specs.declared.line.Line.{Line}
use Rattle.job.specs.declared.line.Line.TheVariants.{Range}

module _ (m : Mapping) (steps : List (Option Call)) (t : Transcript) (told : Transcribed ask m (valid steps) t) where
  -- the opening line, those of the steps and the last one
  pub lines_are : (most all : List Line) → most ≡ Range t.opening ∷ merged steps (vec_items t.replies) → all ≡ most ++ (last_line m t.closed ∷ []) → all ≡ run_lines m steps
  unfolding run_lines
  lines_are most all e f = rw (f, e, told.opening, told.replies, told.closed)

  -- the reports in the transcript are those of the run
  pub honest_run : Honest m (seen_in t) → Honest m (reports ask m (valid steps))
  unfolding reports
  honest_run h = rw (told.opening, told.replies, told.closed) at h
