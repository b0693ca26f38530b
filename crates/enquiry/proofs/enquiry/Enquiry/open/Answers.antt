use Rattle.std.proofs.Common.{ap}
use Rattle.enquiry.specs.Views.{enquiry_of}
use Rattle.enquiry.proofs.Promise.{every_run_honest, every_witness_true}
use Rattle.enquiry.proofs.States.{opened_is}
use Rattle.enquiry.proofs.enquiry.Enquiry.open.Goals as goal

pub returns : goal.returns
returns g c =
    let ask = g.F.Form.meaning c.args.form in
    record {
      value = ap (enquiry_of c.args.form c.args.mapping)
          (opened_is ask c.args.mapping c.whole-cell.result c.ask-answer.result c.new-table.result
          c.whole-cell.ensures.value c.ask-answer.ensures.value c.new-table.ensures.value);
      honest = every_run_honest ask (g.met.F.Form.sound c.args.form) c.args.mapping;
      witness = every_witness_true ask (g.met.F.Form.sound c.args.form) c.args.mapping;
    }
