-- How a line is spelled: words and numbers in base ten, one space apart.
--     spelled l          the bytes of a line
-- Assumes nothing.
use Rattle.std.specs.Prelude.{ℕ, cond, List, ◌++◌, codes, decimal, ◌==◌, slice_index_or}
use Rattle.std.specs.Fmt.{signed_decimal}
use Rattle.enquiry.specs.Corners.{at_none}
use Rattle.enquiry.specs.Printed.{word, fraction}
use Rattle.job.specs.Denials.{denial_number}
use Rattle.job.specs.declared.line.Line.{Line}
use Rattle.job.specs.declared.line.Line.TheVariants as line

abbrev pub spelled : Line → List ℕ
spelled (line.Range r) = codes "range " ++ (signed_decimal r.low ++ (codes " " ++ (signed_decimal r.high ++ (codes " " ++ (signed_decimal r.slack ++ (codes " " ++ word r.verdict))))))
spelled (line.Halved n) = codes "halved " ++ decimal n
spelled (line.Cleared n) = codes "cleared " ++ decimal n
spelled (line.Point low high) = codes "point " ++ (signed_decimal low ++ (codes " " ++ signed_decimal high))
spelled (line.No d) = codes "no " ++ decimal (denial_number d)
spelled (line.Verdict v) = codes "verdict " ++ word v
spelled (line.Leaves s w) =
    let x = fraction (slice_index_or w.at 0 at_none) in
    let y = fraction (slice_index_or w.at 1 at_none) in
    let z = fraction (slice_index_or w.at 2 at_none) in
    codes "verdict leaves " ++ cond (s == 1) x (cond (s == 2) (x ++ (codes " " ++ y)) (x ++ (codes " " ++ (y ++ (codes " " ++ z)))))
