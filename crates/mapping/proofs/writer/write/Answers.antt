use Rattle.std.proofs.Common.{◌≡◌, ℕ, ◌+◌, ◌*◌, ◌<◌, ◌++◌, length, take, ap, ◌∙◌, rules, arith, length-append}
use Rattle.std.proofs.lemmas.List.{take_at, drop_at}
use Rattle.std.proofs.ByRecursion.{All-from_get_or}
use Rattle.mapping.specs.Bits.{bits_of, Bytes}
use Rattle.mapping.specs.Records.{value_bits, record_bits, record_size}
use Rattle.mapping.proofs.Writing.{record_written, begins_with}
use Rattle.mapping.proofs.writer.write.Goals as goal

pub returns : goal.returns
returns c =
    let m = c.args.m.now in
    let size = 3 + 4 * c.count_terms-terms.result in
    let is : size ≡ record_size m = ap (λ (n : ℕ). 3 + 4 * n) c.count_terms-terms.ensures.value in
    let header = c.copy_from_slice.new.self in
    let values = c.put_values.new.out in
    let rest = c.split_at_mut-record.result.1.now in
    let long : length (header ++ values) ≡ size =
    omega (arith, length-append header values, ap length c.copy_from_slice.ensures.after, c.header_bytes.ensures.len, c.put_values.auto.out) in
    let bits : bits_of (header ++ values) ≡ record_bits m =
    record_written m header values (ap bits_of c.copy_from_slice.ensures.after ∙ c.header_bytes.ensures.bits) (c.put_values.ensures.bits ∙ ap (λ n. value_bits (take n m.coefficients)) c.count_terms-terms.ensures.value) in
    let front = ap bits_of (take_at (header ++ values) rest size long) ∙ bits in
    record {
      value = search rules;
      after = (front, drop_at (header ++ values) rest size long ∙ c.split_at_mut-record.ensures.back);
      back = λ bs q e.
          let all : Bytes (header ++ values ++ rest) = All-from_get_or (λ b. b < 256) (header ++ values ++ rest) 0 (λ i h. (c.type_inv.out i).fits) in
          begins_with m size _ bs is (omega (arith, length-append (header ++ values) rest, long)) all q front e;
    }
