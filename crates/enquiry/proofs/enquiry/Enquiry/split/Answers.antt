use Rattle.std.proofs.Common.{◌-◌, set, ap, ◌∙◌}
use Rattle.std.specs.List.{slice_get}
use Rattle.enquiry.specs.Views.{view, enquiry_of}
use Rattle.enquiry.proofs.States.{half_is, halved_is}
use Rattle.enquiry.proofs.enquiry.Enquiry.split.Goals as goal

pub returns : goal.returns
returns g c =
    let self = c.args.self.now in
    let ask = g.F.Form.meaning self.form in
    let row = c.in-Some.row in
    let halves = c.in-Some-halves.halves in
    let half = half_is ask self.mapping row c.cell_of.result in
    let shapes = c.in-Some-halves.ensures.value in
    let low = half halves.0 (c.args.input - 1) 0 c.part-first.result c.cell_of.ensures.value shapes.0 c.part-first.ensures.value in
    let high = half halves.1 (c.args.input - 1) 1 c.part-second.result c.cell_of.ensures.value shapes.1 c.part-second.ensures.value in
    record {
      after = ap (enquiry_of self.form self.mapping)
          (halved_is ask self.mapping (view self) c.args.region c.args.input row c.part-first.result c.part-second.result c.put.new.self c.push.new.self
          (c.in-Some.ensures.value ∙ ap (slice_get self.table) c.from.ensures) low high
          (c.put.ensures.after ∙ ap (λ k. set self.table k c.part-first.result) c.from-2.ensures) c.push.ensures.after);
    }
