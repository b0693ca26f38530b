-- One row more, in place. Assumes nothing.
use Rattle.std.proofs.Common.{◌≡◌, ◌+◌, ◌*◌, ◌<◌, length, get_or, sym, refl, ◌∙◌, arith, length-set, rules}
use Rattle.forms.specs.Totals.{row_sum}
use Rattle.forms.proofs.Added.{total_none}
use Rattle.forms.proofs.Upto.{upto_none, upto_more}
use Rattle.forms.proofs.Working.{rows_fit, row, row_long, row_at}
use Rattle.forms.proofs.Sizing.{flat_sum, flat_weighed, row_small, sum_same, all_more, all_fits}
use Rattle.forms.proofs.sums.add_rows.Goals as goal

pub returns-then-degree-eq0 : goal.returns-then-degree-eq0
returns-then-degree-eq0 c =
    let flat = c.if-degree-eq0.true in
    record {
      sums = λ t l. flat_sum c.args.weights.now.each c.args.numbers.now c.args.degree flat t;
      value = flat_weighed c.args.weights.now.each c.args.numbers.now c.args.degree flat c.args.weights.now.none c.args.rows;
    }

pub loop-t-init : goal.loop-t-init
loop-t-init c =
    let xs = c.args.numbers.now in
    let len : length xs ≡ 64 = search rules in
    (len, upto_none 0 (λ j. row_sum c.args.degree xs (j * (c.args.degree + 1))) (λ j. get_or xs j 0) xs (λ j. refl), sym (total_none _))

pub add_row-sum-requires : goal.add_row-sum-requires
add_row-sum-requires c =
    let xs = c.args.numbers.now in
    let ys = c.loop-t.numbers in
    let n = c.args.degree in
    let t = c.loop-t.t in
    let ws = c.args.weights.now in
    let r = row n c.args.rows t ys c.loop-t-test.true c.requires.room c.loop-t.invariant.0 in
    let long = row_long n c.args.rows t ys c.loop-t-test.true c.requires.room c.loop-t.invariant.0 in
    let at = row_at n c.args.rows t ys c.loop-t-test.true c.requires.room c.loop-t.invariant.0 0 in
    let small = row_small ws.each xs ys r n c.args.rows t c.requires.degree c.loop-t-test.true c.requires.room ws.light c.requires.small c.loop-t.invariant.1 long at in
    record { few = omega (arith, long, c.requires.degree); small = small }

pub overflow_add-all : goal.overflow_add-all
overflow_add-all c =
    let xs = c.args.numbers.now in
    let ys = c.loop-t.numbers in
    let n = c.args.degree in
    let t = c.loop-t.t in
    let ws = c.args.weights.now in
    let r = row n c.args.rows t ys c.loop-t-test.true c.requires.room c.loop-t.invariant.0 in
    let long = row_long n c.args.rows t ys c.loop-t-test.true c.requires.room c.loop-t.invariant.0 in
    let at = row_at n c.args.rows t ys c.loop-t-test.true c.requires.room c.loop-t.invariant.0 0 in
    omega (
      arith,
      all_fits ws.each xs ys r n c.args.rows t c.requires.degree c.loop-t-test.true c.requires.room ws.light c.requires.small c.loop-t.invariant.1 long at
          c.loop-t.all c.add_row-sum.result.1 c.loop-t.invariant.2 c.add_row-sum.ensures.weighed,
    )

pub loop-t-preserved : goal.loop-t-preserved
loop-t-preserved c =
    let xs = c.args.numbers.now in
    let ys = c.loop-t.numbers in
    let n = c.args.degree in
    let t = c.loop-t.t in
    let ws = c.args.weights.now in
    let r = row n c.args.rows t ys c.loop-t-test.true c.requires.room c.loop-t.invariant.0 in
    let long = row_long n c.args.rows t ys c.loop-t-test.true c.requires.room c.loop-t.invariant.0 in
    let at = row_at n c.args.rows t ys c.loop-t-test.true c.requires.room c.loop-t.invariant.0 0 in
    let inside : t < length ys = omega (arith, c.loop-t.invariant.0, c.loop-t-test.true, rows_fit c.args.rows n 64 c.requires.room) in
    let same = sum_same ws.each xs ys r n c.args.rows t c.requires.degree c.loop-t-test.true c.requires.room ws.light c.requires.small c.loop-t.invariant.1 long at in (
      length-set ys t c.add_row-sum.result.0 ∙ c.loop-t.invariant.0,
      upto_more 0 (λ j. row_sum n xs (j * (n + 1))) (λ j. get_or xs j 0) t ys c.add_row-sum.result.0 inside (c.add_row-sum.ensures.sum ∙ same) c.loop-t.invariant.1,
      all_more ws.each xs ys r n c.args.rows t c.requires.degree c.loop-t-test.true c.requires.room ws.light c.requires.small c.loop-t.invariant.1 long at
          c.loop-t.all c.add_row-sum.result.1 c.loop-t.invariant.2 c.add_row-sum.ensures.weighed,
    )
