use Rattle.std.proofs.Common.{vec_items, sym, refl, subst}
use Rattle.enquiry.specs.Honest.{WitnessTrue}
use Rattle.enquiry.specs.Runs.{replies, after}
use Rattle.enquiry.specs.declared.run.Transcript.{Transcript}
use Rattle.enquiry.proofs.Replies.{after_next, replies_next, transcribed, transcript_honest}
use Rattle.enquiry.proofs.run.run.Goals as goal

pub loop-call-init : goal.loop-call-init
unfolding replies after
loop-call-init g c = record { enquiry = refl; replies = c.new-replies.ensures.items }

pub loop-call-preserved : goal.loop-call-preserved
loop-call-preserved g c =
    let inv = c.loop-call.invariant in
    let more = after_next g.F.Form.meaning c.open-enquiry.result c.loop-call.enquiry c.args.calls.now c.loop-call.call-index _ c.loop-call-test.true in
    let told = replies_next g.F.Form.meaning c.open-enquiry.result c.loop-call.enquiry c.args.calls.now c.loop-call.call-index _ c.loop-call-test.true in
    record {
      enquiry = more c.answer.new.self inv.enquiry c.answer.ensures.after;
      replies = told (vec_items c.loop-call.replies) (vec_items c.push.new.self) c.answer.result inv.enquiry inv.replies c.in_ok-push.ensures.items c.answer.ensures.value;
    }

pub returns : goal.returns
returns g c =
    let opened = c.open-enquiry.ensures in
    let calls = c.args.calls.now in
    let t : Transcript = record { opening = c.report-opening.result; replies = c.loop-call.replies; closed = c.close.result } in
    let value =
    transcribed g.F.Form.meaning c.args.form c.args.mapping c.open-enquiry.result c.loop-call.enquiry calls c.loop-call.call-index t
    opened.value c.report-opening.ensures.value c.loop-call-test.false c.loop-call.invariant.replies c.loop-call.invariant.enquiry c.close.ensures.value in
    record {
      value = value;
      honest = transcript_honest (g.F.Form.meaning c.args.form) c.args.mapping calls t value (opened.honest calls);
      witness = subst (WitnessTrue c.args.mapping) (sym value.closed) (opened.witness calls);
    }
