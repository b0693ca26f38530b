-- The slack, from what the inputs add to it. Assumes nothing.
use Rattle.std.proofs.Common.{ap, ◌∙◌, lit<}
use Rattle.mapping.specs.Cells.{depth}
use Rattle.mapping.specs.Values.{degree}
use Rattle.forms.specs.Tables.{loss}
use Rattle.forms.proofs.Losses.{slack_word, slack_is}
use Rattle.forms.proofs.Weights.{bends_are}
use Rattle.forms.proofs.slack.slack.Goals as goal

pub returns : goal.returns
returns c =
    let m = c.args.m.now in
    let s = c.args.c.now.shape in
    let one = c.loss.ensures in
    let two = c.loss-2.ensures in
    let three = c.loss-3.ensures in
    let sums = bends_are m _ c.weighed_sizes.ensures.value in
    let first = one.value ∙ ap (loss (degree m 0) (depth s 0)) (sums 0 (lit< tt)) in
    let second = two.value ∙ ap (loss (degree m 1) (depth s 1)) (sums 1 (lit< tt)) in
    let third = three.value ∙ ap (loss (degree m 2) (depth s 2)) (sums 2 (lit< tt)) in
    record {
      value = slack_word c.loss.result c.loss-2.result c.loss-3.result one.least one.most two.least two.most three.least three.most
          ∙ slack_is m c.args.c.now c.loss.result c.loss-2.result c.loss-3.result first second third;
    }
