use Rattle.std.proofs.Common.{◌≡◌, ◌-◌, ◌*◌, ◌/◌, ◌%◌, ◌^◌, ◌<◌, ◌++◌, length, sym, refl, ap, ◌∙◌, lt_of_lt_of_le, arith, pow_mono, rules}
use lib.Bits.{bit_and}
use Rattle.mapping.specs.Bits.{spell}
use Rattle.mapping.proofs.Spelling.{length_field}
use Rattle.mapping.proofs.Windows.{ahead, fetch, fetch_below, ended, mask, give, give_below}
use Rattle.mapping.proofs.bits.BitReader.take.Goals as goal

pub returns-in_default : goal.returns-in_default
returns-in_default c =
    let e : length c.args.self.now ≡ c.loop-held.held = ap length c.loop-held.invariant.2 ∙ ended _ _ _ c.in_default.ensures.cases in
    record { value = (omega arith, refl) }

pub loop-held-preserved : goal.loop-held-preserved
loop-held-preserved c =
    let byte : c.in-Some.first.now < 256 = search rules in
    rw c.from.ensures (
      omega arith,
      fetch_below c.loop-held.held c.loop-held.window _ c.loop-held.invariant.1 byte,
      c.loop-held.invariant.2 ∙ fetch c.loop-held.held c.loop-held.window _ _ _ c.in-Some.ensures.cases.0 byte,
    )

pub overflow_cast-result : goal.overflow_cast-result
overflow_cast-result c =
    let b = give_below c.loop-held.held c.loop-held.window c.args.width c.loop-held-test.false c.loop-held.invariant.1 in
    record { fits = lt_of_lt_of_le b (pow_mono c.requires) }

pub returns : goal.returns
returns c =
    let left = c.loop-held.held - c.args.width in
    let value = c.loop-held.window / 2 ^ left in
    let m : bit_and c.loop-held.window ((1 * 2 ^ left) % 2 ^ 64 - 1) ≡ c.loop-held.window % 2 ^ left = mask c.loop-held.window left (omega arith) in
    let split : c.args.self.now ≡ spell c.args.width value ++ ahead left (bit_and c.loop-held.window ((1 * 2 ^ left) % 2 ^ 64 - 1)) c.loop-held.rest.now =
    c.loop-held.invariant.2 ∙ give c.loop-held.held c.loop-held.window c.args.width c.loop-held.rest.now c.loop-held-test.false
    ∙ ap (λ w. spell c.args.width value ++ ahead left w c.loop-held.rest.now) (sym m) in
    record {
      value = (
        give_below c.loop-held.held c.loop-held.window c.args.width c.loop-held-test.false c.loop-held.invariant.1,
        split,
        length_field c.args.width value _ _ split,
      );
    }
