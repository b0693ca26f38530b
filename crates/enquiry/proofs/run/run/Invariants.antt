use Rattle.std.proofs.Common.{◌≡◌, take, vec_items}
use Rattle.enquiry.specs.Runs.{replies, after}
use Rattle.enquiry.specs.Views.{view, enquiry_of}
use Rattle.enquiry.proofs.run.run.Given as goal

-- the first calls are played, from the enquiry as the loop found it
abbrev pub invariant-loop-call : goal.invariant-loop-call
invariant-loop-call g l =
    let start = l.initial.enquiry in
    let ask = g.F.Form.meaning start.form in
    record {
      enquiry : l.enquiry ≡ enquiry_of start.form start.mapping (after ask start.mapping (view start) (take l.call-index l.calls));
      replies : vec_items l.replies ≡ replies ask start.mapping (view start) (take l.call-index l.calls);
    }
