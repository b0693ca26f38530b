use Rattle.std.proofs.Common.{◌≡◌, ◌-◌, ◌<◌, length, get_or, pos, refl, sym, ap, ◌∙◌, arith}
use Rattle.forms.specs.Worked.{low_of, high_of, worked}
use Rattle.forms.proofs.Upto.{upto_none}
use Rattle.forms.proofs.Working.{low_of_kept, high_of_kept, rows_fit, row, row_long, row_at, row_small, partly_more, worked_flat}
use Rattle.forms.proofs.table.Table.work_off.Goals as goal

pub returns-then-degree-eq0 : goal.returns-then-degree-eq0
returns-then-degree-eq0 c =
    let xs = c.args.self.now in
    let by = c.args.by in
    let n = c.args.degree in
    record {
      low = λ t l. worked_flat (low_of by) xs.low n t c.if-degree-eq0.true;
      high = λ t l. worked_flat (high_of by) xs.high n t c.if-degree-eq0.true;
    }

pub loop-t-init : goal.loop-t-init
loop-t-init c = (
  upto_none (pos 0) _ (λ j. get_or c.args.self.now.low j (pos 0)) c.args.self.now.low (λ j. refl),
  upto_none (pos 0) _ (λ j. get_or c.args.self.now.high j (pos 0)) c.args.self.now.high (λ j. refl),
)

pub horner-low-requires : goal.horner-low-requires
horner-low-requires c =
    let t = c.loop-t.t in
    let n = c.args.degree in
    let by = c.args.by in
    let xs = c.args.self.now in
    let ys = c.loop-t.self in
    let few = c.requires.degree in
    let some = c.loop-t-test.true in
    let long = row_long n c.args.rows t ys.low some c.requires.room ys.lows in
    let lows = row_at n c.args.rows t ys.low some c.requires.room ys.lows (pos 0) in
    let highs = row_at n c.args.rows t ys.high some c.requires.room ys.highs (pos 0) in
    let low = row_small (low_of by) (low_of_kept by) n c.args.rows t xs.low ys.low _ few some c.requires.low c.loop-t.invariant.0 lows in
    let high = row_small (high_of by) (high_of_kept by) n c.args.rows t xs.high ys.high _ few some c.requires.high c.loop-t.invariant.1 highs in
    record {
      some = omega (arith, long);
      few = omega (arith, long, few);
      alike = row_long n c.args.rows t ys.high some c.requires.room ys.highs ∙ sym long;
      low = λ k l. low k (omega (arith, long));
      high = λ k l. high k (omega (arith, long));
    }

pub loop-t-preserved : goal.loop-t-preserved
loop-t-preserved c =
    let t = c.loop-t.t in
    let n = c.args.degree in
    let by = c.args.by in
    let xs = c.args.self.now in
    let ys = c.loop-t.self in
    let few = c.requires.degree in
    let some = c.loop-t-test.true in
    let inside : t < 64 = omega (arith, some, rows_fit c.args.rows n 64 c.requires.room) in
    let long = row_long n c.args.rows t ys.low some c.requires.room ys.lows in
    let r = row n c.args.rows t ys.low some c.requires.room ys.lows in
    let s = row n c.args.rows t ys.high some c.requires.room ys.highs in
    let last : length r - 1 ≡ n = omega (arith, long) in
    let lows = row_at n c.args.rows t ys.low some c.requires.room ys.lows (pos 0) in
    let highs = row_at n c.args.rows t ys.high some c.requires.room ys.highs (pos 0) in (
      partly_more (low_of by) (low_of_kept by) n c.args.rows t xs.low ys.low r few some c.requires.low c.loop-t.invariant.0 lows
          c.horner-low.result.0 (omega (arith, ys.lows)) (c.horner-low.ensures.low ∙ ap (λ i. worked (low_of by) i r 0) last),
      partly_more (high_of by) (high_of_kept by) n c.args.rows t xs.high ys.high s few some c.requires.high c.loop-t.invariant.1 highs
          c.horner-low.result.1 (omega (arith, ys.highs)) (c.horner-low.ensures.high ∙ ap (λ i. worked (high_of by) i s 0) last),
    )
