use Rattle.std.proofs.Common.{◌≡◌, ℕ, ◌+◌, ◌-◌, ◌^◌, ◌≤◌, ◌++◌, ◌∷◌, [], length, take, List, ℤ, pos, sym, ap, ◌∙◌, ⊎_elim, arith, length-take}
use Rattle.forms.specs.Worked.{low_of, high_of, worked, Small}
use Rattle.forms.proofs.Working.{low_of_kept, high_of_kept, so_far_tame, turn_fits, turn, before_turns, after_turns, back_long, back_front, back_item}
use Rattle.forms.proofs.table.horner.Goals as goal

few : (n : ℕ) → n ≤ 8 → n - 1 ≤ 7
few n h = omega arith

small : (n : ℕ) (xs : List ℤ) → 1 ≤ n → Small (2 ^ 40) n xs → Small (2 ^ 40) (n - 1 + 1) xs
small n xs some h k l = h k (omega arith)

pub loop-x-init : goal.loop-x-init
loop-x-init c =
    let n = length c.args.lows.now in
    let s = c.into_iter-x-iterator.result in
    let lows : s.a.iter.rest.now ≡ take (n - 1) c.args.lows.now = grind arith in
    let highs : s.b.iter.rest.now ≡ take (n - 1) c.args.highs.now = grind arith in
    let long : length s.a.iter.rest.now ≡ n - 1 = omega (arith, ap length lows, length-take (n - 1) c.args.lows.now) in
    let long_high : length s.b.iter.rest.now ≡ n - 1 = omega (arith, ap length highs, length-take (n - 1) c.args.highs.now, c.requires.alike) in (
      omega arith,
      long_high ∙ sym long,
      lows ∙ ap (λ k. take k c.args.lows.now) (sym long),
      highs ∙ ap (λ k. take k c.args.highs.now) (sym long_high),
      before_turns (low_of c.args.by) (low_of_kept c.args.by) c.args.lows.now (n - 1) (few n c.requires.few) (small n c.args.lows.now c.requires.some c.requires.low)
          ∙ ap (λ k. worked (low_of c.args.by) (n - 1 - k) c.args.lows.now k) (sym long),
      before_turns (high_of c.args.by) (high_of_kept c.args.by) c.args.highs.now (n - 1) (few n c.requires.few) (small n c.args.highs.now c.requires.some c.requires.high)
          ∙ ap (λ k. worked (high_of c.args.by) (n - 1 - k) c.args.highs.now k) (sym long),
    )

pub times-l-requires : goal.times-l-requires
times-l-requires c =
    let n = length c.args.lows.now in
    let k = length c.loop-x.x-iterator.a.iter.rest.now in
    record {
      low = so_far_tame (low_of c.args.by) (low_of_kept c.args.by) c.args.lows.now (n - 1) (few n c.requires.few) (small n c.args.lows.now c.requires.some c.requires.low)
          k _ c.loop-x.invariant.0 c.loop-x.invariant.4;
      high = so_far_tame (high_of c.args.by) (high_of_kept c.args.by) c.args.highs.now (n - 1) (few n c.requires.few) (small n c.args.highs.now c.requires.some c.requires.high)
          k _ c.loop-x.invariant.0 c.loop-x.invariant.5;
    }

pub overflow_add-low : goal.overflow_add-low
overflow_add-low c =
    let n = length c.args.lows.now in
    let rs = c.loop-x.x-iterator in
    let rest = c.next.new.self in
    let inv = c.loop-x.invariant in
    let taken : (rs.a.iter.rest.now ≡ rest.a.iter.rest.now ++ c.in-Some.x.now ∷ []) × (rs.b.iter.rest.now ≡ rest.b.iter.rest.now ++ c.in-Some.y.now ∷ []) = c.in-Some.ensures.steps in
    let k = length rest.a.iter.rest.now in
    let long = back_long _ _ c.args.lows.now _ taken.0 inv.2 in
    let long_high = back_long _ _ c.args.highs.now _ taken.1 inv.3 in
    let same : length rest.b.iter.rest.now ≡ k = omega (arith, long, long_high, inv.1) in
    let left : k + 1 ≤ n - 1 = omega (arith, long, inv.0) in
    let was = rw long at inv.4 in
    let entry = back_item _ _ c.args.lows.now _ taken.0 inv.2 (pos 0) in
    turn_fits (low_of c.args.by) (low_of_kept c.args.by) c.args.lows.now (n - 1) (few n c.requires.few) (small n c.args.lows.now c.requires.some c.requires.low)
    k _ c.times-l.result.0 c.in-Some.x.now left was c.times-l.ensures.low entry

pub overflow_add-high : goal.overflow_add-high
overflow_add-high c =
    let n = length c.args.lows.now in
    let rs = c.loop-x.x-iterator in
    let rest = c.next.new.self in
    let inv = c.loop-x.invariant in
    let taken : (rs.a.iter.rest.now ≡ rest.a.iter.rest.now ++ c.in-Some.x.now ∷ []) × (rs.b.iter.rest.now ≡ rest.b.iter.rest.now ++ c.in-Some.y.now ∷ []) = c.in-Some.ensures.steps in
    let k = length rest.a.iter.rest.now in
    let long = back_long _ _ c.args.lows.now _ taken.0 inv.2 in
    let long_high = back_long _ _ c.args.highs.now _ taken.1 inv.3 in
    let same : length rest.b.iter.rest.now ≡ k = omega (arith, long, long_high, inv.1) in
    let left : k + 1 ≤ n - 1 = omega (arith, long, inv.0) in
    let was_high = rw long at inv.5 in
    let entry_high = rw same at (back_item _ _ c.args.highs.now _ taken.1 inv.3 (pos 0)) in
    turn_fits (high_of c.args.by) (high_of_kept c.args.by) c.args.highs.now (n - 1) (few n c.requires.few) (small n c.args.highs.now c.requires.some c.requires.high)
    k _ c.times-l.result.1 c.in-Some.y.now left was_high c.times-l.ensures.high entry_high

pub loop-x-preserved : goal.loop-x-preserved
loop-x-preserved c =
    let n = length c.args.lows.now in
    let rs = c.loop-x.x-iterator in
    let rest = c.next.new.self in
    let inv = c.loop-x.invariant in
    let taken : (rs.a.iter.rest.now ≡ rest.a.iter.rest.now ++ c.in-Some.x.now ∷ []) × (rs.b.iter.rest.now ≡ rest.b.iter.rest.now ++ c.in-Some.y.now ∷ []) = c.in-Some.ensures.steps in
    let k = length rest.a.iter.rest.now in
    let long = back_long _ _ c.args.lows.now _ taken.0 inv.2 in
    let long_high = back_long _ _ c.args.highs.now _ taken.1 inv.3 in
    let same : length rest.b.iter.rest.now ≡ k = omega (arith, long, long_high, inv.1) in
    let left : k + 1 ≤ n - 1 = omega (arith, long, inv.0) in
    let was = rw long at inv.4 in
    let entry = back_item _ _ c.args.lows.now _ taken.0 inv.2 (pos 0) in
    let was_high = rw long at inv.5 in
    let entry_high = rw same at (back_item _ _ c.args.highs.now _ taken.1 inv.3 (pos 0)) in (
      omega arith,
      same,
      back_front _ _ c.args.lows.now _ taken.0 inv.2,
      back_front _ _ c.args.highs.now _ taken.1 inv.3,
      turn (low_of c.args.by) (low_of_kept c.args.by) c.args.lows.now (n - 1) (few n c.requires.few) (small n c.args.lows.now c.requires.some c.requires.low)
          k _ c.times-l.result.0 c.in-Some.x.now left was c.times-l.ensures.low entry,
      turn (high_of c.args.by) (high_of_kept c.args.by) c.args.highs.now (n - 1) (few n c.requires.few) (small n c.args.highs.now c.requires.some c.requires.high)
          k _ c.times-l.result.1 c.in-Some.y.now left was_high c.times-l.ensures.high entry_high,
    )

pub returns : goal.returns
returns c =
    let n = length c.args.lows.now in
    let k = length c.loop-x.x-iterator.a.iter.rest.now in
    let none : k ≤ 0 = ⊎_elim (λ a. omega (arith, a.1.0)) (λ b. omega (arith, b.1.0, c.loop-x.invariant.1)) c.in-None.ensures.steps in
    record {
      low = after_turns (low_of c.args.by) (low_of_kept c.args.by) c.args.lows.now (n - 1) (few n c.requires.few) (small n c.args.lows.now c.requires.some c.requires.low)
          k _ none c.loop-x.invariant.4;
      high = after_turns (high_of c.args.by) (high_of_kept c.args.by) c.args.highs.now (n - 1) (few n c.requires.few) (small n c.args.highs.now c.requires.some c.requires.high)
          k _ none c.loop-x.invariant.5;
    }
