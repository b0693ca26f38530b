use Rattle.std.proofs.Common.{◌+◌, ◌*◌, [], ◌∷◌, get_or, ap, ◌∙◌}
use Rattle.mapping.specs.Bits.{bits_of}
use Rattle.mapping.specs.Kinds.{kind_number}
use Rattle.mapping.proofs.RoundTrip.{header_fits}
use Rattle.mapping.proofs.Reading.{kind_below}
use Rattle.mapping.proofs.Writing.{three_bytes, header_number}
use Rattle.mapping.proofs.writer.header_bytes.Goals as goal

pub returns-clause-bits : goal.returns-clause-bits
returns-clause-bits c =
    let m = c.args.m.now in
    let fits = header_fits m in
    let word = ((((((1 * 4 + m.inputs) * 8 + get_or m.degrees 0 0) * 8 + get_or m.degrees 1 0) * 8 + get_or m.degrees 2 0) * 8 + kind_number m.kind) * 16 + m.shift) * 4 in
    let bytes = rw (c.from.ensures, c.from-2.ensures, c.from-3.ensures, c.from-4.ensures, c.from-5.ensures, c.from-6.ensures, c.number.ensures.value, c.from-7.ensures) at c.to_be_bytes.ensures in
    ap (λ bs. bits_of (get_or bs 1 0 ∷ (get_or bs 2 0 ∷ (get_or bs 3 0 ∷ [])))) bytes
    ∙ three_bytes word
    ∙ header_number m.inputs (get_or m.degrees 0 0) (get_or m.degrees 1 0) (get_or m.degrees 2 0) (kind_number m.kind) m.shift
    fits.inputs fits.degree₁ fits.degree₂ fits.degree₃ (kind_below m.kind) fits.shift
