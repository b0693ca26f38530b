-- One number more in both sums. Assumes nothing.
use Rattle.std.proofs.Common.{◌≡◌, ◌+◌, ◌*◌, ◌∷◌, [], ◌++◌, length, get_or, sym, ap, ◌∙◌, arith, length-append}
use Rattle.std.proofs.lemmas.Slice.Zip.{zip_turn, zip_end}
use Rattle.forms.specs.Totals.{total}
use Rattle.forms.proofs.Added.{total_none}
use Rattle.forms.proofs.Sizing.{sum_fits, product_fits, weighed_fits, sum_more, weighed_more}
use Rattle.forms.proofs.sums.add_row.Goals as goal

pub loop-x-init : goal.loop-x-init
loop-x-init c = (sym (total_none _), sym (total_none _))

pub overflow_add-sum : goal.overflow_add-sum
overflow_add-sum c =
    let row = c.args.row.now in
    let ws = c.args.weights.now in
    let s = c.into_iter-x-iterator.result in
    let n = length c.loop-x.yielded in
    let first : s.a.rest.now ≡ row = cc in
    let second : s.b.rest.now ≡ ws.each = cc in
    let turn = zip_turn row ws.each c.loop-x.yielded s c.loop-x.x-iterator c.next.new.self c.next.result first second c.loop-x.yielded_by
    (c.in-Some.x, c.in-Some.weight) c.in-Some.is c.next.ensures.steps in
    omega (
      arith,
      sum_fits ws.each row c.requires.few ws.light c.requires.small n c.loop-x.sum c.loop-x.weighed c.in-Some.x.now c.in-Some.weight.now turn.0 (turn.2 0) (turn.3 0)
          c.loop-x.invariant.0 c.loop-x.invariant.1,
    )

pub overflow_mul-weighed : goal.overflow_mul-weighed
overflow_mul-weighed c =
    let row = c.args.row.now in
    let ws = c.args.weights.now in
    let s = c.into_iter-x-iterator.result in
    let n = length c.loop-x.yielded in
    let first : s.a.rest.now ≡ row = cc in
    let second : s.b.rest.now ≡ ws.each = cc in
    let turn = zip_turn row ws.each c.loop-x.yielded s c.loop-x.x-iterator c.next.new.self c.next.result first second c.loop-x.yielded_by
    (c.in-Some.x, c.in-Some.weight) c.in-Some.is c.next.ensures.steps in
    omega (
      arith,
      product_fits ws.each row c.requires.few ws.light c.requires.small n c.loop-x.sum c.loop-x.weighed c.in-Some.x.now c.in-Some.weight.now turn.0 (turn.2 0) (turn.3 0)
          c.loop-x.invariant.0 c.loop-x.invariant.1,
    )

pub overflow_add-weighed : goal.overflow_add-weighed
overflow_add-weighed c =
    let row = c.args.row.now in
    let ws = c.args.weights.now in
    let s = c.into_iter-x-iterator.result in
    let n = length c.loop-x.yielded in
    let first : s.a.rest.now ≡ row = cc in
    let second : s.b.rest.now ≡ ws.each = cc in
    let turn = zip_turn row ws.each c.loop-x.yielded s c.loop-x.x-iterator c.next.new.self c.next.result first second c.loop-x.yielded_by
    (c.in-Some.x, c.in-Some.weight) c.in-Some.is c.next.ensures.steps in
    omega (
      arith,
      weighed_fits ws.each row c.requires.few ws.light c.requires.small n c.loop-x.sum c.loop-x.weighed c.in-Some.x.now c.in-Some.weight.now turn.0 (turn.2 0) (turn.3 0)
          c.loop-x.invariant.0 c.loop-x.invariant.1,
    )

pub loop-x-preserved : goal.loop-x-preserved
loop-x-preserved c =
    let row = c.args.row.now in
    let ws = c.args.weights.now in
    let s = c.into_iter-x-iterator.result in
    let n = length c.loop-x.yielded in
    let first : s.a.rest.now ≡ row = cc in
    let second : s.b.rest.now ≡ ws.each = cc in
    let turn = zip_turn row ws.each c.loop-x.yielded s c.loop-x.x-iterator c.next.new.self c.next.result first second c.loop-x.yielded_by
    (c.in-Some.x, c.in-Some.weight) c.in-Some.is c.next.ensures.steps in
    let one : length (c.loop-x.yielded ++ (c.in-Some.x, c.in-Some.weight) ∷ []) ≡ n + 1 = length-append c.loop-x.yielded ((c.in-Some.x, c.in-Some.weight) ∷ []) in (
      sum_more ws.each row c.requires.few ws.light c.requires.small n c.loop-x.sum c.loop-x.weighed c.in-Some.x.now c.in-Some.weight.now turn.0 (turn.2 0) (turn.3 0)
          c.loop-x.invariant.0 c.loop-x.invariant.1 ∙ ap (λ k. total k (λ i. get_or row i 0)) (sym one),
      weighed_more ws.each row c.requires.few ws.light c.requires.small n c.loop-x.sum c.loop-x.weighed c.in-Some.x.now c.in-Some.weight.now turn.0 (turn.2 0) (turn.3 0)
          c.loop-x.invariant.0 c.loop-x.invariant.1 ∙ ap (λ k. total k (λ i. get_or ws.each i 0 * get_or row i 0)) (sym one),
    )

pub returns : goal.returns
returns c =
    let row = c.args.row.now in
    let ws = c.args.weights.now in
    let s = c.into_iter-x-iterator.result in
    let first : s.a.rest.now ≡ row = cc in
    let second : s.b.rest.now ≡ ws.each = cc in
    let end = zip_end row ws.each c.loop-x.yielded s c.loop-x.x-iterator c.next.new.self c.next.result first second c.loop-x.yielded_by c.in-None.is c.next.ensures.steps in
    let all : length c.loop-x.yielded ≡ length row = omega (arith, end, ws.eight, c.requires.few) in
    record {
      sum = c.loop-x.invariant.0 ∙ ap (λ k. total k (λ i. get_or row i 0)) all;
      weighed = c.loop-x.invariant.1 ∙ ap (λ k. total k (λ i. get_or ws.each i 0 * get_or row i 0)) all;
    }
