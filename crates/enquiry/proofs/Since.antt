-- A report of a sound state is true, and what was reported stays so.
--     TrueReport m r    the range encloses and is near at both ends, and the verdict is true
--     Since m r s        what an earlier report r has settled: every enclosure lies inside its range, leaves means that there is a
--                        witness, fits means that the ends of r are in the register
-- Assumes nothing.
use Rattle.std.proofs.Common.{◌≡◌, ℕ, ◌-◌, ◌<◌, Bool, true, cond, length, ◌≤ℤ◌, is_some, IfSome, Some, None, Option, unwrap_or, sym, refl, ap, ◌∙◌, subst, ⊎_elim, arith, MatchOption}
use lib.Signed.{≤ℤ_refl}
use Rattle.std.specs.Int.{int_max, int_min}
use Rattle.std.specs.List.{AllByRecursion}
use Rattle.std.proofs.ByRecursion.{All-get_or, All-from_get_or}
use Rattle.mapping.specs.Listed.{first_listed}
use Rattle.mapping.specs.Points.{Point, Rational}
use Rattle.mapping.specs.declared.cell.Cell.{Cell}
use Rattle.mapping.specs.declared.mapping.Mapping.{Mapping}
use Rattle.forms.specs.declared.answer.Answer.{Answer}
use Rattle.enquiry.specs.Honest.{Outside, Encloses, Inside, LowNear, HighNear, FitsTrue, LeavesTrue, Settled}
use Rattle.enquiry.specs.InRegister.{InRegister, wholly_in}
use Rattle.enquiry.specs.CellOf.{cell_of}
use Rattle.enquiry.specs.Corners.{witness_point}
use Rattle.enquiry.specs.States.{State, no_row, no_answer, region_at, hull}
use Rattle.enquiry.specs.Steps.{half_row, halved, halve_refusals, halve, cleared_of, clear_refusals, clear, first_witness, probed, probe_refusals, probe, verdict_on, report}
use Rattle.enquiry.specs.declared.report.Report.{Report}
use Rattle.enquiry.specs.declared.report.Verdict.{Verdict}
use Rattle.enquiry.specs.declared.report.Verdict.TheVariants.{Fits, Leaves, Open}
use Rattle.enquiry.specs.declared.witness.Witness.{Witness}
use Rattle.enquiry.proofs.Register.{in_from_ends, in_narrower}
use Rattle.enquiry.proofs.Hulls.{ends, on_all, Between, between_left, between_right, Holds, holds_left, holds_right, held_join, Near, near_join, hull_all, hull_cleared, hull_row, at_value, at_value_all}
use Rattle.enquiry.proofs.Regions.{SomeRow, all_halved, all_without}
use Rattle.enquiry.proofs.Refused.{after_settle, can_halve, can_clear}
use Rattle.enquiry.proofs.Sound.{Holding, Sound}

pub record TrueReport (m : Mapping) (r : Report) : Type 0 where
  pub encloses : Encloses m r
  pub low_near : LowNear m r
  pub high_near : HighNear m r
  pub fits_true : FitsTrue m r
  pub leaves_true : LeavesTrue m r

abbrev pub range_of : Report → Answer
range_of r = record { low = r.low; high = r.high; slack = r.slack }

pub record Since (m : Mapping) (r : Report) (s : State) : Type 0 where
  pub rows_inside : AllByRecursion (λ x. Holds (range_of r) x.answer) s.rows
  pub cleared_inside : IfSome s.cleared (Holds (range_of r))
  pub leaves : r.verdict ≡ Leaves → is_some s.witness ≡ true
  pub fits : r.verdict ≡ Fits → wholly_in m r.low r.high ≡ true

-- what a verdict tells
fits_told : (m : Mapping) (a : Answer) (w : Option Witness) → verdict_on m a w ≡ Fits → wholly_in m a.low a.high ≡ true
fits_told m a (Some w) e = absurd (cc)
fits_told m a None e = grind arith

leaves_told : (m : Mapping) (a : Answer) (w : Option Witness) → verdict_on m a w ≡ Leaves → is_some w ≡ true
leaves_told m a (Some w) e = refl
leaves_told m a None e = grind arith

witness_point_of : (m : Mapping) (w : Option Witness) → is_some w ≡ true → IfSome w (Outside m) → (p : Point) × Rational p × (InRegister m p → ⊥)
witness_point_of m (Some w) e h = (witness_point w, h.0, h.1)
witness_point_of m None e h = absurd (cc)

-- a point at which all is covered: the origin
abbrev origin : Point
origin = record { denominator = 1; numerator = λ v. 0 }

origin_rational : Rational origin
origin_rational = (omega arith, λ v h. omega arith)

module _ (m : Mapping) (s : State) (ok : Sound m s) where
  hull_between : (p : Point) → Rational p → MatchOption (hull s) ⊥ (Between m p)
  hull_between p r =
      ⊎_elim
      (λ (h : MatchOption s.cleared ⊥ (Between m p)). hull_cleared (Between m p) (between_left m p) s h)
      (λ (h : SomeRow (Holding m p) s.rows). hull_row (Between m p) (between_left m p) (between_right m p) s h.0 h.1 h.2.1)
      (ok.covered p r)

  -- the hull is there
  hull_value : (P : Answer → Type 0) → IfSome (hull s) P → P (unwrap_or (hull s) no_answer)
  hull_value P h = at_value_all P (Between m origin) (hull s) no_answer (hull_between origin origin_rational) h

  hull_near : Near m (unwrap_or (hull s) no_answer)
  hull_near = hull_value (Near m) (hull_all (Near m) (near_join m) s ok.cleared_near ok.near)

  report_encloses : Encloses m (report m s)
  unfolding report
  report_encloses p r = at_value (Between m p) (hull s) no_answer (hull_between p r)

  pub report_true : TrueReport m (report m s)
  unfolding report
  report_true = record {
    encloses = report_encloses;
    low_near = hull_near.low;
    high_near = hull_near.high;
    fits_true = λ e p r.
        let b = report_encloses p r in
        in_from_ends m _ _ p (fits_told m (unwrap_or (hull s) no_answer) s.witness e) b.0 b.1;
    leaves_true = λ e. witness_point_of m s.witness (leaves_told m (unwrap_or (hull s) no_answer) s.witness e) ok.outside;
  }

  -- a report settles what it says
  pub since_report : Since m (report m s) s
  unfolding report
  since_report = record {
    rows_inside = All-from_get_or (λ x. Holds (unwrap_or (hull s) no_answer) x.answer) s.rows no_row (λ k l.
        let b = (region_at s k).answer in
        at_value (λ a. Holds a b) (hull s) no_answer
        (hull_row (λ a. Holds a b) (holds_left b) (holds_right b) s k l (≤ℤ_refl b.low, ≤ℤ_refl b.high)));
    cleared_inside = cleared_held s.cleared refl;
    leaves = leaves_told m (unwrap_or (hull s) no_answer) s.witness;
    fits = fits_told m (unwrap_or (hull s) no_answer) s.witness;
  }
    where
      cleared_held : (o : Option Answer) → s.cleared ≡ o → IfSome o (Holds (unwrap_or (hull s) no_answer))
      cleared_held None e = tt
      cleared_held (Some b) e =
          at_value (λ a. Holds a b) (hull s) no_answer
          (hull_cleared (λ a. Holds a b) (holds_left b) s (subst (λ o. MatchOption o ⊥ (λ a. Holds a b)) (sym e) (≤ℤ_refl b.low, ≤ℤ_refl b.high)))

  module _ (r : Report) (true-r : TrueReport m r) (since : Since m r s) where
    later_held : Holds (range_of r) (unwrap_or (hull s) no_answer)
    later_held = hull_value (Holds (range_of r)) (hull_all (Holds (range_of r)) (held_join (range_of r)) s since.cleared_inside since.rows_inside)

    pub later_inside : Inside r (report m s)
    unfolding report
    later_inside = later_held

    settled_fits : (w : Option Witness) → IfSome w (Outside m) → r.verdict ≡ Fits → verdict_on m (unwrap_or (hull s) no_answer) w ≡ Fits
    settled_fits (Some w) out e = absurd (out.1 (true-r.fits_true e (witness_point w) out.0))
    settled_fits None out e =
        ap (λ b. cond b Fits Open) (in_narrower m r.low r.high _ _ later_held.0 later_held.1 (since.fits e))

    settled_leaves : (w : Option Witness) → is_some w ≡ true → verdict_on m (unwrap_or (hull s) no_answer) w ≡ Leaves
    settled_leaves (Some w) e = refl
    settled_leaves None e = absurd (cc)

    pub later_settled : Settled r (report m s)
    unfolding report
    later_settled closed = step r.verdict refl
      where
        step : (v : Verdict) → r.verdict ≡ v → verdict_on m (unwrap_or (hull s) no_answer) s.witness ≡ r.verdict
        step Fits e = settled_fits s.witness ok.outside e ∙ sym e
        step Leaves e = settled_leaves s.witness (since.leaves e) ∙ sym e
        step Open e = absurd (closed e)

-- calls keep what was settled
module _ (m : Mapping) (r : Report) (s : State) (since : Since m r s) where
  pub halve_since : (ask : Mapping → Cell → Answer) (i n : ℕ) → Since m r (halve ask m s i n).1
  unfolding halve
  halve_since ask i n =
      after_settle (Since m r) s (first_listed (halve_refusals m s i n)) (length (halved ask m s i n).rows, halved ask m s i n) since
      (λ e. record {
        rows_inside = all_halved (λ x. Holds (range_of r) x.answer) s.rows i (can_halve m s i n e).there _ _
            (inside (half_ask 0) (can_halve m s i n e).there) (inside (half_ask 1) (can_halve m s i n e).there) since.rows_inside;
        cleared_inside = since.cleared_inside;
        leaves = since.leaves;
        fits = since.fits;
      })
    where
      half_ask : ℕ → Answer
      half_ask side = ask m (cell_of (half_row ask m (region_at s i) (n - 1) side).shape)

      inside : (a : Answer) → i < length s.rows → (r.low ≤ℤ int_max (region_at s i).answer.low a.low) × (int_min (region_at s i).answer.high a.high ≤ℤ r.high)
      inside a l =
          let h = All-get_or (λ x. Holds (range_of r) x.answer) s.rows i no_row l since.rows_inside in
          (omega ends, omega ends)

  pub clear_since : (i : ℕ) → Since m r (clear m s i).1
  unfolding clear
  clear_since i =
      after_settle (Since m r) s (first_listed (clear_refusals m s i)) (length (cleared_of s i).rows, cleared_of s i) since
      (λ e.
      let l = can_clear m s i e in
      record {
        rows_inside = all_without (λ x. Holds (range_of r) x.answer) s.rows i l since.rows_inside;
        cleared_inside = on_all (Holds (range_of r)) (held_join (range_of r)) s.cleared (region_at s i).answer since.cleared_inside
            (All-get_or (λ x. Holds (range_of r) x.answer) s.rows i no_row l since.rows_inside);
        leaves = since.leaves;
        fits = since.fits;
      })

  still_some : (out : Bool) (old : Option Witness) (new : Witness) → is_some old ≡ true → is_some (first_witness out old new) ≡ true
  still_some out (Some w) new e = refl
  still_some out None new e = absurd (cc)

  pub probe_since : (i k : ℕ) → Since m r (probe m s i k).1
  unfolding probe
  probe_since i k =
      after_settle (Since m r) s (first_listed (probe_refusals m s i k)) (probed m s i k) since
      (λ e. record {
        rows_inside = since.rows_inside;
        cleared_inside = since.cleared_inside;
        leaves = λ f. still_some _ s.witness _ (since.leaves f);
        fits = since.fits;
      })
