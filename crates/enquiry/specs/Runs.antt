-- A whole run: an enquiry is opened, takes a list of calls, and is closed.
--     told f r           the reply of a call that may be refused
--     ends_told e        the reply of a probe
--     reply ask m s c    the reply to a call, and the state after it
--     replies ask m s cs the replies to a list of calls, in their order
--     after ask m s cs   the state after them
--     reported rs        the reports among replies
--     seen first rs last the reports that a caller sees: at the opening, among the replies, at the close
--     reports ask m cs   every report of a run
-- Assumes nothing.
use Rattle.std.specs.Prelude.{List, [], ◌∷◌, ◌++◌, ℤ, Ok, Err, Result}
use Rattle.mapping.specs.declared.cell.Cell.{Cell}
use Rattle.mapping.specs.declared.mapping.Mapping.{Mapping}
use Rattle.forms.specs.declared.answer.Answer.{Answer}
use Rattle.enquiry.specs.States.{State, opened}
use Rattle.enquiry.specs.Steps.{halve, clear, probe, report, close, last_report}
use Rattle.enquiry.specs.declared.call.Call.{Call}
use Rattle.enquiry.specs.declared.call.Call.TheVariants as call
use Rattle.enquiry.specs.declared.call.Reply.{Reply}
use Rattle.enquiry.specs.declared.call.Reply.TheVariants.{Halved, Cleared, Probed, Reported, Refused}
use Rattle.enquiry.specs.declared.closed.Closed.{Closed}
use Rattle.enquiry.specs.declared.refusal.Refusal.{Refusal}
use Rattle.enquiry.specs.declared.report.Report.{Report}

abbrev pub told : {T : Type 0} → (T → Reply) → Result T Refusal → Reply
told f (Ok x) = f x
told f (Err e) = Refused e

abbrev pub ends_told : ℤ × ℤ → Reply
ends_told e = Probed e.0 e.1

unfoldable pub reply : (Mapping → Cell → Answer) → Mapping → State → Call → Reply × State
reply ask m s (call.Halve i n) = let r = halve ask m s i n in (told Halved r.0, r.1)
reply ask m s (call.Clear i) = let r = clear m s i in (told Cleared r.0, r.1)
reply ask m s (call.Probe i k) = let r = probe m s i k in (told ends_told r.0, r.1)
reply ask m s call.Report = (Reported (report m s), s)

unfoldable pub replies : (Mapping → Cell → Answer) → Mapping → State → List Call → List Reply
replies ask m s [] = []
replies ask m s (c ∷ cs) = (reply ask m s c).0 ∷ replies ask m (reply ask m s c).1 cs

unfoldable pub after : (Mapping → Cell → Answer) → Mapping → State → List Call → State
after ask m s [] = s
after ask m s (c ∷ cs) = after ask m (reply ask m s c).1 cs

abbrev pub reported : List Reply → List Report
reported [] = []
reported (Halved n ∷ rs) = reported rs
reported (Cleared n ∷ rs) = reported rs
reported (Probed low high ∷ rs) = reported rs
reported (Reported r ∷ rs) = r ∷ reported rs
reported (Refused f ∷ rs) = reported rs

abbrev pub seen : Report → List Reply → Closed → List Report
seen first rs last = first ∷ (reported rs ++ last_report last ∷ [])

unfoldable pub reports : (Mapping → Cell → Answer) → Mapping → List Call → List Report
reports ask m cs =
    seen (report m (opened ask m)) (replies ask m (opened ask m) cs) (close m (after ask m (opened ask m) cs))
