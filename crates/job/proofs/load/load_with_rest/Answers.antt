use Rattle.std.proofs.Common.{sym, ap, ◌∙◌, arith}
use Rattle.std.specs.Option.{option_map}
use Rattle.mapping.specs.Records.{record_fault}
use Rattle.mapping.proofs.Reading.{refused_from, passed_from}
use Rattle.job.specs.declared.fault.LoadFault.TheVariants.{Record}
use Rattle.job.proofs.Inputs.{input_refused, record_decides}
use Rattle.job.proofs.load.load_with_rest.Goals as goal

pub returns-in_err-record : goal.returns-in_err-record
returns-in_err-record c = grind (arith, input_refused)

pub returns-in_err-read : goal.returns-in_err-read
returns-in_err-read c =
    let part = c.in_ok-record.record.now in
    let e = record_decides c.args.input.now part c.in_ok-record.rest.now c.in_ok-record.ensures.value in
    let f = refused_from tt (record_fault part) c.in_err-read.field-0.0 (sym c.in_err-read.ensures.value) in
    grind arith

pub returns : goal.returns
returns c =
    let part = c.in_ok-record.record.now in
    let cut = c.in_ok-record.ensures.value in
    let e = record_decides c.args.input.now part c.in_ok-record.rest.now cut in
    let f = passed_from tt tt (record_fault part) (sym c.in_ok-read.ensures.value) in
    let held = c.in_ok-read.ensures.after in
    record { value = ((e ∙ ap (option_map Record) f, rw (← cut.record_is) held), cut.rest_is) }
