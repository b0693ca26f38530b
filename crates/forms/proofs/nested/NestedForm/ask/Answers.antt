use Rattle.std.proofs.Common.{◌∙◌, arith, w64, SFits, rules}
use Rattle.std.proofs.lemmas.Int.{to_z-of_z}
use Rattle.forms.specs.Nested.{cell_factors}
use Rattle.forms.specs.Worked.{Agrees}
use Rattle.forms.proofs.Agreeing.{three_low, three_high}
use Rattle.forms.proofs.nested.NestedForm.ask.Goals as goal

pub returns : goal.returns
returns c =
    let m = c.args.m.now in
    let g = cell_factors c.args.c.now.shape in
    let first : Agrees c.factor.result g 0 = omega (arith, c.factor.ensures) in
    let second : Agrees c.factor-2.result g 1 = omega (arith, c.factor-2.ensures) in
    let third : Agrees c.factor-3.result g 2 = omega (arith, c.factor-3.ensures) in
    let low_fits : SFits w64 c.ends-low.result.0 = search rules in
    let high_fits : SFits w64 c.ends-low.result.1 = search rules in
    let slack_fits : SFits w64 c.slack.result = search rules in
    let low = to_z-of_z w64 c.ends-low.result.0 low_fits ∙ c.ends-low.ensures.low ∙ three_low m g _ _ _ first second third in
    let high = to_z-of_z w64 c.ends-low.result.1 high_fits ∙ c.ends-low.ensures.high ∙ three_high m g _ _ _ first second third in
    let slack = to_z-of_z w64 c.slack.result slack_fits ∙ c.slack.ensures.value in
    record { value = λ i. record { low = low i; high = high i; slack = slack i } }
