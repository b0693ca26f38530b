use Rattle.std.proofs.Common.{◌≡◌, length, get_or, pos, ◌∙◌, arith, lit<, rules}
use Rattle.std.proofs.lemmas.List.{get_or_default}
use Rattle.forms.specs.Worked.{low_of, high_of, no_factor}
use Rattle.forms.proofs.Working.{low_of_kept, high_of_kept}
use Rattle.forms.proofs.Upto.{throughout}
use Rattle.forms.proofs.Inputs.{room_3, room_2, small_3, small_2, small_1, worked_off, low_over, high_over}
use Rattle.forms.proofs.nested.ends.Goals as goal

pub widen-requires : goal.widen-requires
widen-requires c = throughout (pos 0) 64

pub widen-requires-2 : goal.widen-requires-2
widen-requires-2 c = throughout (pos 0) 64

pub work_off-requires : goal.work_off-requires
work_off-requires c =
    let m = c.args.m.now in
    rw c.degrees.ensures.value (record {
      room = room_3 m;
      degree = m.low 2 (lit< tt);
      low = small_3 m c.widen.new.table c.widen.ensures.value;
      high = small_3 m c.widen-2.new.table c.widen-2.ensures.value;
    })

pub work_off-requires-2 : goal.work_off-requires-2
work_off-requires-2 c =
    let m = c.args.m.now in
    let f = get_or c.args.by 2 c.index-by-2.result in
    let low_3 = rw c.degrees.ensures.value at c.work_off.ensures.low in
    let high_3 = rw c.degrees.ensures.value at c.work_off.ensures.high in
    rw c.degrees.ensures.value (record {
      room = room_2 m;
      degree = m.low 1 (lit< tt);
      low = small_2 m c.widen.new.table c.widen.ensures.value (low_of f) (low_of_kept f) c.work_off.new.self.low low_3;
      high = small_2 m c.widen-2.new.table c.widen-2.ensures.value (high_of f) (high_of_kept f) c.work_off.new.self.high high_3;
    })

pub work_off-requires-3 : goal.work_off-requires-3
work_off-requires-3 c =
    let m = c.args.m.now in
    let f = get_or c.args.by 2 c.index-by-2.result in
    let low_3 = rw c.degrees.ensures.value at c.work_off.ensures.low in
    let high_3 = rw c.degrees.ensures.value at c.work_off.ensures.high in
    let g = get_or c.args.by 1 c.index-by-1.result in
    let low_2 = rw c.degrees.ensures.value at c.work_off-2.ensures.low in
    let high_2 = rw c.degrees.ensures.value at c.work_off-2.ensures.high in
    rw c.degrees.ensures.value (record {
      room = omega (arith, m.low 0 (lit< tt));
      degree = m.low 0 (lit< tt);
      low = small_1 m c.widen.new.table c.widen.ensures.value (low_of f) (low_of_kept f) c.work_off.new.self.low low_3
          (low_of g) (low_of_kept g) c.work_off-2.new.self.low low_2;
      high = small_1 m c.widen-2.new.table c.widen-2.ensures.value (high_of f) (high_of_kept f) c.work_off.new.self.high high_3
          (high_of g) (high_of_kept g) c.work_off-2.new.self.high high_2;
    })

pub returns : goal.returns
returns c =
    let m = c.args.m.now in
    let f = get_or c.args.by 2 c.index-by-2.result in
    let low_3 = rw c.degrees.ensures.value at c.work_off.ensures.low in
    let high_3 = rw c.degrees.ensures.value at c.work_off.ensures.high in
    let g = get_or c.args.by 1 c.index-by-1.result in
    let low_2 = rw c.degrees.ensures.value at c.work_off-2.ensures.low in
    let high_2 = rw c.degrees.ensures.value at c.work_off-2.ensures.high in
    let h = get_or c.args.by 0 c.index-by-0.result in
    let low_1 = rw c.degrees.ensures.value at c.work_off-3.ensures.low in
    let high_1 = rw c.degrees.ensures.value at c.work_off-3.ensures.high in
    let len : length c.args.by ≡ 3 = search rules in
    let f_is : f ≡ get_or c.args.by 2 no_factor = get_or_default c.args.by 2 c.index-by-2.result no_factor (omega arith) in
    let g_is : g ≡ get_or c.args.by 1 no_factor = get_or_default c.args.by 1 c.index-by-1.result no_factor (omega arith) in
    let h_is : h ≡ get_or c.args.by 0 no_factor = get_or_default c.args.by 0 c.index-by-0.result no_factor (omega arith) in
    record {
      low = worked_off m c.widen.new.table c.widen.ensures.value (low_of f) (low_of_kept f) c.work_off.new.self.low low_3
          (low_of g) (low_of_kept g) c.work_off-2.new.self.low low_2
          (low_of h) (low_of_kept h) c.work_off-3.new.self.low low_1
          ∙ low_over m c.args.by h g f h_is g_is f_is;
      high = worked_off m c.widen-2.new.table c.widen-2.ensures.value (high_of f) (high_of_kept f) c.work_off.new.self.high high_3
          (high_of g) (high_of_kept g) c.work_off-2.new.self.high high_2
          (high_of h) (high_of_kept h) c.work_off-3.new.self.high high_1
          ∙ high_over m c.args.by h g f h_is g_is f_is;
    }
