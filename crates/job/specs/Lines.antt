-- The lines of a job.
--     line_of r          the line of a reply
--     merged steps rs    a line for each step: a refusal where there is no call, else the line of the next reply
--     last_line m c      the last line, from what an enquiry leaves when it is closed
-- Assumes nothing.
use Rattle.std.specs.Prelude.{List, [], ◌∷◌, Some, None, Option}
use Rattle.mapping.specs.declared.mapping.Mapping.{Mapping}
use Rattle.enquiry.specs.declared.call.Call.{Call}
use Rattle.enquiry.specs.declared.call.Reply.{Reply}
use Rattle.enquiry.specs.declared.call.Reply.TheVariants as reply
use Rattle.enquiry.specs.declared.closed.Closed.{Closed}
use Rattle.enquiry.specs.declared.closed.Closed.TheVariants.{Without, With}
use Rattle.job.specs.declared.denial.Denial.TheVariants.{Refused, NoCall}
use Rattle.job.specs.declared.line.Line.{Line}
use Rattle.job.specs.declared.line.Line.TheVariants.{Range, Halved, Cleared, Point, No, Verdict, Leaves}

abbrev pub line_of : Reply → Line
line_of (reply.Halved n) = Halved n
line_of (reply.Cleared n) = Cleared n
line_of (reply.Probed low high) = Point low high
line_of (reply.Reported r) = Range r
line_of (reply.Refused f) = No (Refused f)

abbrev pub merged : List (Option Call) → List Reply → List Line
merged [] rs = []
merged (None ∷ steps) rs = No NoCall ∷ merged steps rs
merged (Some c ∷ steps) [] = []
merged (Some c ∷ steps) (r ∷ rs) = line_of r ∷ merged steps rs

abbrev pub last_line : Mapping → Closed → Line
last_line m (Without r) = Verdict r.verdict
last_line m (With r w) = Leaves m.inputs w
