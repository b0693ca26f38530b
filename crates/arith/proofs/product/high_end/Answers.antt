-- The high end is minus the low end of the negated enclosure. Assumes nothing.
use Rattle.arith.proofs.EndWords.{high_fits, high_word}
use Rattle.arith.proofs.product.high_end.Goals as goal

pub overflow_sub-result : goal.overflow_sub-result
overflow_sub-result c =
    high_fits c.args.high c.low_end.result c.args.by.low c.args.by.high c.args.by.depth c.requires c.low_end.ensures.laws c.low_end.ensures.value

pub returns : goal.returns
returns c =
    high_word c.args.high c.low_end.result c.args.by.low c.args.by.high c.args.by.depth c.requires c.low_end.ensures.laws c.low_end.ensures.value
