use Rattle.std.proofs.Common.{◌≡◌, vec_items, ap, ◌∙◌}
use Rattle.enquiry.specs.Transcripts.{Transcribed}
use Rattle.job.specs.Answering.{ask}
use Rattle.job.specs.Calls.{steps_of, valid}
use Rattle.job.proofs.Transcripts.{lines_are, honest_run}
use Rattle.job.proofs.answer.run_lines.Goals as goal

pub returns : goal.returns
returns c =
    let m = c.args.mapping in
    let steps = steps_of c.args.bytes.now in
    let t = c.in_ok-transcript.transcript in
    let read : c.deref.result.now ≡ steps = c.deref.ensures.value ∙ c.in_ok-steps.ensures.value in
    let calls : c.deref-2.result.now ≡ valid steps = c.deref-2.ensures.value ∙ c.in_ok-calls.ensures.value ∙ ap valid read in
    let told : Transcribed ask m (valid steps) t = rw calls at c.in_ok-transcript.ensures.value in
    let added = rw (c.deref-3.ensures.value, c.in_ok-steps.ensures.value, c.deref-4.ensures.value, c.in_ok-lines.ensures.items) at c.in_ok-add_lines.ensures.value in
    let all = rw c.last_line.ensures.value at c.in_ok-push.ensures.items in
    record {
      value = record {
        lines = lines_are m steps t told (vec_items c.add_lines.new.lines) (vec_items c.push.new.self) added all;
        honest = honest_run m steps t told c.in_ok-transcript.ensures.honest;
        witness = rw told.closed at c.in_ok-transcript.ensures.witness;
      };
    }
