-- The calls: what each answers, and the state after it. Regions are counted from 0, inputs from 1.
--     settle s o r       a call's result: r where nothing is refused, else the refusal and the state as it was
--     shape_of r         the shape of a region's cell
--     no_region s i      whether there is no region i
--     found s i          region i, or the refusal
--     tightened r s a    a part of region r with shape s: the tighter ends of the region's own and the form's, the form's slack
--     half_row ask m r v side    the lower half (side 0) or the upper half (side 1) of a region along an input, counted from 0
--     halved ask m s i n the lower half of region i along input n in its place, the upper half at the end
--     halve ask m s i n  halves region i along input n, and answers how many regions are open
--     cleared_of s i     region i leaves, the last one takes its number, and region i joins the cleared hull
--     clear m s i        clears region i, and answers how many regions are open
--     first_witness o w n    the witness w there is, else the new one n where o says so
--     probed m s i k     the ends at corner k of region i; where they lie wholly outside the register and there is no witness, the
--                        corner becomes it
--     probe m s i k      probes corner k of region i, and answers the ends
--     verdict_on m a w   leaves where there is a witness, else fits where the ends are in the register, else open
--     report_on m a w    the report of a range
--     report m s         the least low end, the greatest high end and the largest slack of all regions, and the verdict
--     closed_with r w    a report, and the witness if there is one
--     close m s          the report as it stands, and the witness if there is one
--     last_report c      the report of a closed enquiry
--     halve_refusals .., clear_refusals .., probe_refusals ..    the refusals of a call, each with its condition, in their order
-- Assumes nothing.
use Rattle.std.specs.Prelude.{ℕ, ◌-◌, ◌^◌, Bool, cond, not, ◌||◌, List, [], ◌∷◌, ◌++◌, length, ℤ, Some, None, Ok, Err, Option, Result, ◌==◌, nat_lt, slice_set}
use Rattle.std.specs.Int.{int_max, int_min}
use Rattle.std.specs.List.{swap_remove}
use Rattle.std.specs.Option.{unwrap_or}
use Rattle.mapping.specs.Cells.{depth, half}
use Rattle.mapping.specs.Listed.{first_listed}
use Rattle.mapping.specs.declared.cell.Shape.{Shape}
use Rattle.mapping.specs.declared.cell.Cell.{Cell}
use Rattle.mapping.specs.declared.mapping.Mapping.{Mapping}
use Rattle.forms.specs.declared.answer.Answer.{Answer}
use Rattle.enquiry.specs.InRegister.{wholly_in, wholly_out}
use Rattle.enquiry.specs.CellOf.{cell_of}
use Rattle.enquiry.specs.Corners.{witness_at}
use Rattle.forms.specs.Nested.{corner_ends}
use Rattle.enquiry.specs.States.{State, row_of, no_row, no_answer, region_at, join_on, hull}
use Rattle.enquiry.specs.declared.closed.Closed.{Closed}
use Rattle.enquiry.specs.declared.closed.Closed.TheVariants.{Without, With}
use Rattle.enquiry.specs.declared.refusal.Refusal.{Refusal}
use Rattle.enquiry.specs.declared.refusal.Refusal.TheVariants.{NoRegion, NoInput, Deepest, Full, NotWithin, NoCorner}
use Rattle.enquiry.specs.declared.report.Report.{Report}
use Rattle.enquiry.specs.declared.report.Verdict.{Verdict}
use Rattle.enquiry.specs.declared.report.Verdict.TheVariants.{Fits, Leaves, Open}
use Rattle.enquiry.specs.declared.table.Row.{Row}
use Rattle.enquiry.specs.declared.witness.Witness.{Witness}

abbrev pub settle : {T : Type 0} → State → Option Refusal → T × State → Result T Refusal × State
settle s None r = (Ok r.0, r.1)
settle s (Some f) r = (Err f, s)

abbrev pub shape_of : Row → Shape
shape_of r = (cell_of r.shape).shape

abbrev pub no_region : State → ℕ → Bool
no_region s i = not (nat_lt i (length s.rows))

abbrev pub found : State → ℕ → Result Row Refusal
found s i = cond (no_region s i) (Err NoRegion) (Ok (region_at s i))

-- halve

abbrev pub tightened : Row → Shape → Answer → Row
tightened r s a = row_of s (record { low = int_max r.answer.low a.low; high = int_min r.answer.high a.high; slack = a.slack })

abbrev pub half_row : (Mapping → Cell → Answer) → Mapping → Row → ℕ → ℕ → Row
half_row ask m r v side = tightened r (half (shape_of r) v side) (ask m (cell_of (half (shape_of r) v side)))

abbrev pub halved : (Mapping → Cell → Answer) → Mapping → State → ℕ → ℕ → State
halved ask m s i n = record {
  rows = slice_set s.rows i (half_row ask m (region_at s i) (n - 1) 0) ++ half_row ask m (region_at s i) (n - 1) 1 ∷ [];
  cleared = s.cleared;
  witness = s.witness;
}

abbrev pub halve_refusals : Mapping → State → ℕ → ℕ → List (Bool × Refusal)
halve_refusals m s i n =
    (no_region s i, NoRegion)
    ∷ ((n == 0 || nat_lt m.inputs n, NoInput)
    ∷ ((not (nat_lt (depth (shape_of (region_at s i)) (n - 1)) 10), Deepest)
    ∷ ((not (nat_lt (length s.rows) 64), Full)
    ∷ [])))

unfoldable pub halve : (Mapping → Cell → Answer) → Mapping → State → ℕ → ℕ → Result ℕ Refusal × State
halve ask m s i n = let after = halved ask m s i n in settle s (first_listed (halve_refusals m s i n)) (length after.rows, after)

-- clear

abbrev pub cleared_of : State → ℕ → State
cleared_of s i = record {
  rows = swap_remove s.rows i no_row;
  cleared = join_on s.cleared (region_at s i).answer;
  witness = s.witness;
}

abbrev pub clear_refusals : Mapping → State → ℕ → List (Bool × Refusal)
clear_refusals m s i =
    (no_region s i, NoRegion)
    ∷ ((not (wholly_in m (region_at s i).answer.low (region_at s i).answer.high), NotWithin)
    ∷ [])

unfoldable pub clear : Mapping → State → ℕ → Result ℕ Refusal × State
clear m s i = let after = cleared_of s i in settle s (first_listed (clear_refusals m s i)) (length after.rows, after)

-- probe

abbrev pub first_witness : Bool → Option Witness → Witness → Option Witness
first_witness out (Some w) new = Some w
first_witness out None new = cond out (Some new) None

abbrev pub probed : Mapping → State → ℕ → ℕ → (ℤ × ℤ) × State
probed m s i k =
    let c = shape_of (region_at s i) in
    let ends = corner_ends m c k in (
      ends,
      record {
        rows = s.rows;
        cleared = s.cleared;
        witness = first_witness (wholly_out m ends.0 ends.1) s.witness (witness_at c k);
      },
    )

abbrev pub probe_refusals : Mapping → State → ℕ → ℕ → List (Bool × Refusal)
probe_refusals m s i k =
    (no_region s i, NoRegion)
    ∷ ((not (nat_lt k (2 ^ m.inputs)), NoCorner)
    ∷ [])

unfoldable pub probe : Mapping → State → ℕ → ℕ → Result (ℤ × ℤ) Refusal × State
probe m s i k = settle s (first_listed (probe_refusals m s i k)) (probed m s i k)

-- report and close

abbrev pub verdict_on : Mapping → Answer → Option Witness → Verdict
verdict_on m a (Some w) = Leaves
verdict_on m a None = cond (wholly_in m a.low a.high) Fits Open

abbrev pub report_on : Mapping → Answer → Option Witness → Report
report_on m a w = record { low = a.low; high = a.high; slack = a.slack; verdict = verdict_on m a w }

unfoldable pub report : Mapping → State → Report
report m s = report_on m (unwrap_or (hull s) no_answer) s.witness

abbrev pub closed_with : Report → Option Witness → Closed
closed_with r None = Without r
closed_with r (Some w) = With r w

unfoldable pub close : Mapping → State → Closed
close m s = closed_with (report m s) s.witness

abbrev pub last_report : Closed → Report
last_report (Without r) = r
last_report (With r w) = r
