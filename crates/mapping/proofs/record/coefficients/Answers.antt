use Rattle.std.proofs.Common.{◌≡◌, ◌++◌, length, replicate, pos, refl, sym, ap, ◌∙◌, subst, arith, lit<, take_all, w32, to_z, of_z}
use Rattle.std.proofs.lemmas.List.{length-take-le}
use Rattle.std.proofs.lemmas.List.Elements.{All-set, All-take, All-replicate}
use Rattle.std.proofs.lemmas.Int.{to_z-of_z}
use Rattle.mapping.specs.Records.{value_bits}
use Rattle.mapping.proofs.Coefficients.{Narrow, values_more, front_taken, padded}
use Rattle.mapping.proofs.record.coefficients.Goals as goal

pub loop-value-init : goal.loop-value-init
unfolding value_bits
loop-value-init c = (refl, omega arith, All-take Narrow c.args.count (replicate 64 (pos 0)) (All-replicate Narrow 64 (pos 0) (lit< tt)))

pub loop-value-preserved : goal.loop-value-preserved
loop-value-preserved c =
    let k = c.loop-value.value-index in
    let v = c.in_ok-take.field-0 in
    let got = c.in_ok-take.ensures.value in
    let x = to_z w32 (of_z w32 c.cast_signed.result) in
    let is : x ≡ c.cast_signed.result = to_z-of_z w32 c.cast_signed.result (record { sfits = c.cast_signed.type_inv }) in (
      values_more c.loop-value.value-items k v x _ c.loop-value.bits c.take.new.self (omega arith) got.0 (is ∙ c.cast_signed.ensures) c.loop-value.invariant.0 got.1,
      omega (arith, c.loop-value.invariant.1, got.2),
      All-set Narrow c.loop-value.value-items k x (subst Narrow (sym is) c.cast_signed.type_inv) c.loop-value.invariant.2,
    )

pub returns : goal.returns
returns c =
    let items = c.loop-value.value-items in
    let all : length items ≡ c.args.count = c.loop-value.auto.value-items ∙ length-take-le c.args.count (replicate 64 (pos 0)) c.requires in
    let read : c.args.bits.now ≡ value_bits items ++ c.loop-value.bits = c.loop-value.invariant.0 ∙ ap (λ xs. value_bits xs ++ c.loop-value.bits) (take_all c.loop-value.value-index items (omega arith)) in
    record {
      value = (
        padded items c.args.count all c.requires c.loop-value.invariant.2,
        read ∙ ap (λ xs. value_bits xs ++ c.loop-value.bits) (sym (front_taken items c.args.count all)),
      );
    }
