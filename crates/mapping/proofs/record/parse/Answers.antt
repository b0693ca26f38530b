use Rattle.std.proofs.Common.{◌≡◌, ◌+◌, ◌<◌, ◌++◌, length, take, sym, refl, ap, ◌∙◌, arith, length-append}
use Rattle.std.proofs.lemmas.Result.{err_from_is_err_and}
use Rattle.mapping.specs.Bits.{bits_of}
use Rattle.mapping.specs.Terms.{terms}
use Rattle.mapping.specs.Headers.{header_bits}
use Rattle.mapping.specs.Records.{value_bits}
use Rattle.mapping.proofs.Reading.{low_degrees, refused_from, passed_from, short_refused, header_decides, length_header, accepted_from}
use Rattle.mapping.proofs.Spelling.{length_bits_of}
use Rattle.mapping.proofs.RoundTrip.{record_parsed}
use Rattle.mapping.proofs.record.parse.Goals as goal

pub returns-in_err-header : goal.returns-in_err-header
returns-in_err-header c =
    let p = err_from_is_err_and c.from_residual.result c.from_residual.ensures.1 in
    let bs = c.args.bytes.now in
    let short : length (bits_of bs) < 24 = omega (arith, ap length c.new-bits.ensures.value, c.in_err-header.ensures.value) in
    rw (p.1, p.2) (record { value = short_refused bs short })

pub returns-in_err-check : goal.returns-in_err-check
returns-in_err-check c =
    let p = err_from_is_err_and c.from_residual-in_err-check.result c.from_residual-in_err-check.ensures.1 in
    let bs = c.args.bytes.now in
    let h = c.in_ok-header.header in
    let got = c.in_ok-header.ensures.value in
    let decides = header_decides bs c.read.new.bits h got.0 (sym c.new-bits.ensures.value ∙ got.1) in
    let refused = refused_from tt _ c.in_err-check.field-0.0 (sym c.in_err-check.ensures.value) in
    rw (p.1, p.2) (record { value = decides ∙ refused })

-- the length that was checked leaves enough bits for the coefficients
pub returns-in_err-values : goal.returns-in_err-values
returns-in_err-values c =
    let bs = c.args.bytes.now in
    let h = c.in_ok-header.header in
    let got = c.in_ok-header.ensures.value in
    let rest = c.read.new.bits in
    let bits : bits_of bs ≡ header_bits h ++ rest = sym c.new-bits.ensures.value ∙ got.1 in
    let a = accepted_from h (length bs) (passed_from tt tt _ (sym c.in_ok-check.ensures.value)) in
    let long : length (bits_of bs) ≡ 24 + length rest = ap length bits ∙ length-append (header_bits h) rest ∙ ap (λ n. n + length rest) (length_header h) in
    absurd (omega (arith, a.size, length_bits_of bs, c.count_terms.ensures.value, c.in_err-values.ensures.value))

pub returns : goal.returns
returns c =
    let bs = c.args.bytes.now in
    let h = c.in_ok-header.header in
    let got = c.in_ok-header.ensures.value in
    let rest = c.read.new.bits in
    let bits : bits_of bs ≡ header_bits h ++ rest = sym c.new-bits.ensures.value ∙ got.1 in
    let passed = passed_from tt tt _ (sym c.in_ok-check.ensures.value) in
    let a = accepted_from h (length bs) passed in
    let values : rest ≡ value_bits (take (terms h.degrees) c.in_ok-values.values) ++ c.coefficients.new.bits =
    c.in_ok-values.ensures.value.1 ∙ ap (λ n. value_bits (take n c.in_ok-values.values) ++ c.coefficients.new.bits) c.count_terms.ensures.value in
    record {
      value = (
        header_decides bs rest h got.0 bits ∙ passed,
        record_parsed _ h bs c.coefficients.new.bits
            (record {
              format = sym a.format;
              inputs = refl;
              degree₁ = refl;
              degree₂ = refl;
              degree₃ = refl;
              kind = refl;
              shift = refl;
              zeros = sym a.zeros;
            })
            (bits ∙ ap (λ r. header_bits h ++ r) values) a.size,
      );
    }

pub invariant_of-result-clause-low : goal.invariant_of-result-clause-low
invariant_of-result-clause-low c = low_degrees c.in_ok-header.header c.in_ok-header.ensures.value.0
