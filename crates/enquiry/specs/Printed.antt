-- How parts of an answer are printed.
--     word v             the word of a verdict
--     denominator d      2^d, the denominator of an input at depth d
--     fraction x         numerator and denominator in base ten
-- Assumes nothing.
use Rattle.std.specs.Prelude.{ℕ, ◌^◌, min, List, ◌++◌, codes, decimal}
use Rattle.enquiry.specs.declared.report.Verdict.{Verdict}
use Rattle.enquiry.specs.declared.report.Verdict.TheVariants.{Fits, Leaves, Open}
use Rattle.enquiry.specs.declared.witness.Fraction.{Fraction}

abbrev pub word : Verdict → List ℕ
word Fits = codes "fits"
word Leaves = codes "leaves"
word Open = codes "open"

abbrev pub denominator : ℕ → ℕ
denominator d = 2 ^ min d 63

abbrev pub fraction : Fraction → List ℕ
fraction x = decimal x.numerator ++ (codes "/" ++ decimal (denominator x.depth))
