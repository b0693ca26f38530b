-- The sizes of all coefficients, and the sums of the three inputs in turn. Assumes nothing.
use Rattle.std.proofs.Common.{◌≡◌, ℕ, ◌<◌, ◌∷◌, [], get_or, arith, lit<}
use Rattle.forms.specs.Totals.{weighed_sizes}
use Rattle.forms.specs.BernsteinSound.{three_cases}
use Rattle.forms.proofs.Inputs.{room_3, room_2}
use Rattle.forms.proofs.Upto.{throughout}
use Rattle.forms.proofs.Sizing.{small_3, small_2, small_1, third_is, second_is, first_is, weighed_sizes_most}
use Rattle.forms.proofs.sums.weighed_sizes.Goals as goal

pub put_sizes-requires : goal.put_sizes-requires
put_sizes-requires c = throughout 0 64

pub add_rows-of_third-requires : goal.add_rows-of_third-requires
add_rows-of_third-requires c =
    let m = c.args.m.now in
    let ws = c.args.weights.now in
    let xs = c.put_sizes.new.sizes in
    rw c.degrees.ensures.value (record { room = room_3 m; degree = m.low 2 (lit< tt); small = small_3 ws.each m xs c.put_sizes.ensures.value })

pub add_rows-of_second-requires : goal.add_rows-of_second-requires
add_rows-of_second-requires c =
    let m = c.args.m.now in
    let ws = c.args.weights.now in
    let xs = c.put_sizes.new.sizes in
    let ys = c.add_rows-of_third.new.numbers in
    let after_3 = rw c.degrees.ensures.value at c.add_rows-of_third.ensures.sums in
    rw c.degrees.ensures.value (record { room = room_2 m; degree = m.low 1 (lit< tt); small = small_2 ws.each m xs c.put_sizes.ensures.value ys after_3 })

pub add_rows-of_first-requires : goal.add_rows-of_first-requires
add_rows-of_first-requires c =
    let m = c.args.m.now in
    let ws = c.args.weights.now in
    let xs = c.put_sizes.new.sizes in
    let ys = c.add_rows-of_third.new.numbers in
    let zs = c.add_rows-of_second.new.numbers in
    let after_3 = rw c.degrees.ensures.value at c.add_rows-of_third.ensures.sums in
    let after_2 = rw c.degrees.ensures.value at c.add_rows-of_second.ensures.sums in
    rw c.degrees.ensures.value (record { room = omega (arith, m.low 0 (lit< tt)); degree = m.low 0 (lit< tt); small = small_1 ws.each m xs c.put_sizes.ensures.value ys after_3 zs after_2 })

pub returns : goal.returns
returns c =
    let m = c.args.m.now in
    let ws = c.args.weights.now in
    let xs = c.put_sizes.new.sizes in
    let ys = c.add_rows-of_third.new.numbers in
    let zs = c.add_rows-of_second.new.numbers in
    let after_3 = rw c.degrees.ensures.value at c.add_rows-of_third.ensures.sums in
    let after_2 = rw c.degrees.ensures.value at c.add_rows-of_second.ensures.sums in
    let first = first_is ws.each m xs c.put_sizes.ensures.value ys after_3 zs after_2 c.add_rows-of_first.result (rw c.degrees.ensures.value at c.add_rows-of_first.ensures.value) in
    let second = second_is ws.each m xs c.put_sizes.ensures.value ys after_3 c.add_rows-of_second.result (rw c.degrees.ensures.value at c.add_rows-of_second.ensures.value) in
    let third = third_is ws.each m xs c.put_sizes.ensures.value c.add_rows-of_third.result (rw c.degrees.ensures.value at c.add_rows-of_third.ensures.value) in
    let r = c.add_rows-of_first.result ∷ (c.add_rows-of_second.result ∷ (c.add_rows-of_third.result ∷ [])) in
    let value : (v : ℕ) → v < 3 → get_or r v 0 ≡ weighed_sizes ws.each m v = three_cases (λ v. get_or r v 0 ≡ weighed_sizes ws.each m v) first second third in
    record { value = value; most = λ v l. rw (value v l) (weighed_sizes_most ws.each ws.light m v l) }
