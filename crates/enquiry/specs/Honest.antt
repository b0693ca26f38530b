-- The promise of an enquiry, over the list of its reports, the oldest first.
--     Pairwise R xs      R holds of each element and each later one
--     Encloses m r       the range holds the exact value at each rational point of the box
--     Inside e l         the later range lies inside the earlier one
--     LowNear m r        at some rational point the value is at most low + slack
--     HighNear m r       at some rational point the value is at least high − slack
--     FitsTrue m r       where the verdict is fits, the value at each rational point is in the register
--     LeavesTrue m r     where the verdict is leaves, the value at some rational point is not
--     Settled e l        a verdict other than open stays as it is
--     Honest m reports   all of these, of every report and every two reports
--     Outside m w        the witness is a rational point whose value is not in the register
--     WitnessTrue m c    the witness that a closed enquiry gives, if any, is outside
-- Assumes nothing.
use Rattle.std.specs.Prelude.{◌≡◌, List, [], ◌∷◌, ◌+ℤ◌, ◌-ℤ◌, ◌≤ℤ◌, ◌≢◌}
use Rattle.std.specs.List.{AllByRecursion}
use Rattle.mapping.specs.Points.{Point, Rational}
use Rattle.mapping.specs.Values.{AtLeast, AtMost}
use Rattle.mapping.specs.declared.mapping.Mapping.{Mapping}
use Rattle.enquiry.specs.Corners.{witness_point}
use Rattle.enquiry.specs.InRegister.{InRegister}
use Rattle.enquiry.specs.declared.closed.Closed.{Closed}
use Rattle.enquiry.specs.declared.closed.Closed.TheVariants.{Without, With}
use Rattle.enquiry.specs.declared.report.Report.{Report}
use Rattle.enquiry.specs.declared.report.Verdict.TheVariants.{Fits, Leaves, Open}
use Rattle.enquiry.specs.declared.witness.Witness.{Witness}

abbrev pub Pairwise : {X : Type 0} → (X → X → Type 0) → List X → Type 0
Pairwise R [] = Unit {0}
Pairwise R (x ∷ xs) = AllByRecursion (R x) xs × Pairwise R xs

abbrev pub Encloses : Mapping → Report → Type 0
Encloses m r = (p : Point) → Rational p → AtLeast m p r.low × AtMost m p r.high

abbrev pub Inside : Report → Report → Type 0
Inside earlier later = (earlier.low ≤ℤ later.low) × (later.high ≤ℤ earlier.high)

abbrev pub LowNear : Mapping → Report → Type 0
LowNear m r = (p : Point) × Rational p × AtMost m p (r.low +ℤ r.slack)

abbrev pub HighNear : Mapping → Report → Type 0
HighNear m r = (p : Point) × Rational p × AtLeast m p (r.high -ℤ r.slack)

abbrev pub FitsTrue : Mapping → Report → Type 0
FitsTrue m r = r.verdict ≡ Fits → (p : Point) → Rational p → InRegister m p

abbrev pub LeavesTrue : Mapping → Report → Type 0
LeavesTrue m r = r.verdict ≡ Leaves → (p : Point) × Rational p × (InRegister m p → ⊥)

abbrev pub Settled : Report → Report → Type 0
Settled earlier later = (earlier.verdict ≢ Open) → later.verdict ≡ earlier.verdict

pub record Honest (m : Mapping) (reports : List Report) : Type 0 where
  pub encloses : AllByRecursion (Encloses m) reports
  pub nested : Pairwise Inside reports
  pub low_near : AllByRecursion (LowNear m) reports
  pub high_near : AllByRecursion (HighNear m) reports
  pub fits_true : AllByRecursion (FitsTrue m) reports
  pub leaves_true : AllByRecursion (LeavesTrue m) reports
  pub settled : Pairwise Settled reports

abbrev pub Outside : Mapping → Witness → Type 0
Outside m w = Rational (witness_point w) × (InRegister m (witness_point w) → ⊥)

abbrev pub WitnessTrue : Mapping → Closed → Type 0
WitnessTrue m (Without r) = Unit {0}
WitnessTrue m (With r w) = Outside m w
