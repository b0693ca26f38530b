-- The low end is the defined one, whichever numerator the sign chose, and the laws of the product hold. Assumes nothing.
use Rattle.std.proofs.Common.{◌^◌, ◌≤◌, ◌∙◌, arith}
use Rattle.arith.specs.declared.factor.Factor.{Factor}
use Rattle.arith.proofs.Products.{low_by_high, low_by_low, laws}
use Rattle.arith.proofs.Words.{small}
use Rattle.arith.proofs.EndWords.{negative, not_negative, chosen_fits, chosen_is}
use Rattle.arith.proofs.product.low_end.Goals as goal
use Rattle.arith.proofs.product.low_end.Goals.{then-low-lt0, else-low-lt0}

high_small : (f : Factor) → f.high ≤ 2 ^ 15
high_small f = small f.high f.depth f.within f.shallow

low_small : (f : Factor) → f.low ≤ 2 ^ 15
low_small f = omega (arith, f.ordered, high_small f)

pub overflow_mul-result : goal.overflow_mul-result
overflow_mul-result c =
    let by = c.args.by in
    elim c.if-low-lt0.branch [
      | then-low-lt0 w ↦ chosen_fits c.args.low _ c.from-most.result by.high c.requires c.ranges.low (high_small by) w.numerator-is c.from-most.ensures
      | else-low-lt0 w ↦ chosen_fits c.args.low _ c.from-least.result by.low c.requires c.ranges.low (low_small by) w.numerator-is c.from-least.ensures
    ]

pub returns : goal.returns
returns c =
    let p = c.args.low in
    let by = c.args.by in
    let m = 2 ^ by.depth in
    record {
      value = elim c.if-low-lt0.branch [
        | then-low-lt0 w ↦
            chosen_is p _ c.from-most.result by.high c.requires c.ranges.low (high_small by) w.numerator-is c.from-most.ensures m
            ∙ low_by_high p by.low by.high by.depth by.ordered (negative p c.ranges.low w.if-low-lt0.true)
        | else-low-lt0 w ↦
            chosen_is p _ c.from-least.result by.low c.requires c.ranges.low (low_small by) w.numerator-is c.from-least.ensures m
            ∙ low_by_low p by.low by.high by.depth by.ordered (not_negative p c.ranges.low w.if-low-lt0.false)
      ];
      laws = laws by.low by.high by.depth by.ordered by.within;
    }
