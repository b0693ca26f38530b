use Rattle.std.proofs.Common.{◌≡◌, ◌+◌, ◌*◌, length, get_or, pos, refl, ap, ◌∙◌, arith, w32, SFits, to_z, of_z, rules}
use Rattle.std.proofs.lemmas.Int.{to_z-of_z}
use Rattle.std.proofs.lemmas.Slice.{take-put_mid}
use Rattle.mapping.specs.Bits.{spell, bits_of}
use Rattle.mapping.specs.Records.{value_bits}
use Rattle.mapping.proofs.Writing.{value_written, four_bytes}
use Rattle.mapping.proofs.writer.put_values.Goals as goal

pub loop-k-init : goal.loop-k-init
unfolding value_bits bits_of
loop-k-init c = refl

pub loop-k-preserved : goal.loop-k-preserved
loop-k-preserved c =
    let k = c.loop-k.k in
    let out = c.loop-k.out in
    let values = c.args.values.now in
    let x = get_or values k (pos 0) in
    let ys = c.copy_from_slice.new.self in
    let fits : SFits w32 x = search rules in
    let bytes : ys ≡ c.to_be_bytes.result = c.copy_from_slice.ensures.after in
    let spelled : bits_of ys ≡ spell 32 (of_z w32 x) =
    ap bits_of (bytes ∙ c.to_be_bytes.ensures) ∙ four_bytes (of_z w32 (to_z w32 (of_z w32 x))) ∙ ap (λ z. spell 32 (of_z w32 z)) (to_z-of_z w32 x fits) in
    let four : length ys ≡ 4 = ap length (bytes ∙ c.to_be_bytes.ensures) in
    value_written values k out _ ys c.loop-k-test.true spelled c.loop-k.invariant (take-put_mid (4 * k) _ out ys (4 * (k + 1)) (omega (arith, four)) (omega (arith, c.loop-k.auto.out, c.requires, c.loop-k-test.true)))
