-- What is true of the state of an enquiry after every call.
--     Covered m p s      the value at the point lies in the enclosure of an open region that holds the point, or in the cleared hull
--     Sound m s          every rational point is covered, every region is within the limits, every region and the cleared hull is
--                        near at both ends within its own slack, and the witness is outside
-- Assumes nothing.
use Rattle.std.proofs.Common.{◌≡◌, ℕ, ◌-◌, ◌<◌, Bool, true, false, ◌⊎◌, length, ℤ, ◌+ℤ◌, ◌-ℤ◌, IfSome, Some, None, Option, sym, refl, subst, inl, inr, ⊎_elim, arith, MatchOption}
use lib.Signed.{lt_z}
use Rattle.std.specs.Int.{int_max, int_min}
use Rattle.std.specs.List.{AllByRecursion, swap_remove}
use Rattle.std.proofs.ByRecursion.{All-get_or}
use Rattle.std.proofs.lemmas.Bool.{cond_both}
use Rattle.mapping.specs.Cells.{depth, Valid, box, half}
use Rattle.mapping.specs.Listed.{first_listed}
use Rattle.mapping.specs.Points.{Point, Rational, In}
use Rattle.mapping.specs.Values.{AtLeast, AtMost}
use Rattle.mapping.specs.declared.cell.Shape.{Shape}
use Rattle.mapping.specs.declared.cell.Cell.{Cell}
use Rattle.mapping.specs.declared.mapping.Mapping.{Mapping}
use Rattle.mapping.proofs.Bounds.{at_least_weaker, at_most_weaker}
use Rattle.mapping.proofs.Halving.{valid_cell, half_valid, half_covers}
use Rattle.forms.specs.Rules.{Rules}
use Rattle.forms.specs.declared.answer.Answer.{Answer}
use Rattle.enquiry.specs.Honest.{Outside}
use Rattle.enquiry.specs.InRegister.{wholly_out}
use Rattle.enquiry.specs.CellOf.{cell_of}
use Rattle.forms.specs.Nested.{corner_point}
use Rattle.enquiry.specs.Corners.{witness_at}
use Rattle.forms.specs.Nested.{corner_ends}
use Rattle.enquiry.specs.States.{State, no_row, region_at, opened}
use Rattle.enquiry.specs.Steps.{shape_of, half_row, halved, halve_refusals, halve, cleared_of, clear_refusals, clear, first_witness, probed, probe_refusals, probe}
use Rattle.enquiry.specs.declared.table.Row.{Row}
use Rattle.enquiry.specs.declared.witness.Witness.{Witness}
use Rattle.enquiry.proofs.Register.{out_from_ends}
use Rattle.enquiry.proofs.Cells.{cell_of_valid, box_valid, in_box}
use Rattle.forms.specs.Corners.{corner_rational}
use Rattle.enquiry.proofs.Corners.{corner_holds, witness_rational, witness_held}
use Rattle.enquiry.proofs.Hulls.{ends, on_all, on_left, on_right, Between, between_left, between_right, Near, near_join}
use Rattle.enquiry.proofs.Regions.{SomeRow, all_halved, some_halved, all_without, some_without}
use Rattle.enquiry.proofs.Refused.{after_settle, can_halve, can_clear}

abbrev pub Holding : Mapping → Point → Row → Type 0
Holding m p r = In p r.shape × Between m p r.answer

abbrev pub Covered : Mapping → Point → State → Type 0
Covered m p s = MatchOption s.cleared ⊥ (Between m p) ⊎ SomeRow (Holding m p) s.rows

pub record Sound (m : Mapping) (s : State) : Type 0 where
  pub covered : (p : Point) → Rational p → Covered m p s
  pub valid : AllByRecursion (λ r. Valid r.shape) s.rows
  pub near : AllByRecursion (λ r. Near m r.answer) s.rows
  pub cleared_near : IfSome s.cleared (Near m)
  pub outside : IfSome s.witness (Outside m)

-- the greater of two low ends, the smaller of two high ends
at_least_max : (m : Mapping) (p : Point) (x y : ℤ) → AtLeast m p x → AtLeast m p y → AtLeast m p (int_max x y)
at_least_max m p x y a b =
    cond_both (lt_z y x) x y (AtLeast m p) (λ e. a) (λ e. b)

at_most_min : (m : Mapping) (p : Point) (x y : ℤ) → AtMost m p x → AtMost m p y → AtMost m p (int_min x y)
at_most_min m p x y a b =
    cond_both (lt_z y x) y x (AtMost m p) (λ e. b) (λ e. a)

module _ (ask : Mapping → Cell → Answer) (rules : Rules ask) (m : Mapping) where
  -- a form's answer over the cell of a shape within the limits
  answer_between : (s : Shape) (p : Point) → Valid s → Rational p → In p s → Between m p (ask m (cell_of s))
  answer_between s p ok r i =
      let here : In p (cell_of s).shape = subst (In p) (sym (cell_of_valid s ok)) i in
      (rules.low_holds m (cell_of s) p r here, rules.high_holds m (cell_of s) p r here)

  answer_near : (s : Shape) → Near m (ask m (cell_of s))
  answer_near s =
      let low = rules.low_near m (cell_of s) in
      let high = rules.high_near m (cell_of s) in
      record { low = (low.0, low.1, low.3); high = (high.0, high.1, high.3) }

  pub opened_sound : Sound m (opened ask m)
  unfolding opened
  opened_sound = record {
    covered = λ p r. inr (0, omega arith, (in_box p r, answer_between box p box_valid r (in_box p r)));
    valid = (box_valid, tt);
    near = (answer_near box, tt);
    cleared_near = tt;
    outside = tt;
  }

  -- one half of a region within the limits
  module _ (r : Row) (v side : ℕ) (ok : Valid r.shape) (lv : v < 3) (ls : side < 2) (shallow : depth (shape_of r) v < 10) where
    half_row_valid : Valid (half_row ask m r v side).shape
    half_row_valid = half_valid (shape_of r) v side (subst Valid (sym (cell_of_valid r.shape ok)) ok) lv ls shallow

    half_row_between : (p : Point) → Rational p → In p (half (shape_of r) v side) → Between m p r.answer → Holding m p (half_row ask m r v side)
    half_row_between p q i b =
        let a = answer_between (half (shape_of r) v side) p half_row_valid q i in
        (i, (at_least_max m p _ _ b.0 a.0, at_most_min m p _ _ b.1 a.1))

    half_row_near : Near m (half_row ask m r v side).answer
    half_row_near =
        let n = answer_near (half (shape_of r) v side) in
        let a = ask m (cell_of (half (shape_of r) v side)) in
        record {
          low = (n.low.0, n.low.1, at_most_weaker m n.low.0 (a.low +ℤ a.slack) (int_max r.answer.low a.low +ℤ a.slack) (omega ends) n.low.2);
          high = (n.high.0, n.high.1, at_least_weaker m n.high.0 (int_min r.answer.high a.high -ℤ a.slack) (a.high -ℤ a.slack) (omega ends) n.high.2);
        }

  halved_sound : (s : State) (i n : ℕ) → Sound m s → i < length s.rows → n - 1 < 3 → depth (shape_of (region_at s i)) (n - 1) < 10 → Sound m (halved ask m s i n)
  halved_sound s i n ok l lv shallow =
      let r = region_at s i in
      let valid : Valid r.shape = All-get_or (λ x. Valid x.shape) s.rows i no_row l ok.valid in
      let is : shape_of r ≡ r.shape = cell_of_valid r.shape valid in
      let low = half_row ask m r (n - 1) 0 in
      let high = half_row ask m r (n - 1) 1 in
      record {
        covered = λ p q.
            ⊎_elim inl
            (λ (c : SomeRow (Holding m p) s.rows). inr (some_halved (Holding m p) s.rows i l low high
            (λ h.
            ⊎_elim
            (λ (x : In p (half (shape_of r) (n - 1) 0)). inl (half_row_between r (n - 1) 0 valid lv (omega arith) shallow p q x h.1))
            (λ (x : In p (half (shape_of r) (n - 1) 1)). inr (half_row_between r (n - 1) 1 valid lv (omega arith) shallow p q x h.1))
            (half_covers (shape_of r) (n - 1) p (subst Valid (sym is) valid) lv (subst (In p) (sym is) h.0)))
            c))
            (ok.covered p q);
        valid = all_halved (λ x. Valid x.shape) s.rows i l low high (half_row_valid r (n - 1) 0 valid lv (omega arith) shallow) (half_row_valid r (n - 1) 1 valid lv (omega arith) shallow) ok.valid;
        near = all_halved (λ x. Near m x.answer) s.rows i l low high (half_row_near r (n - 1) 0 valid lv (omega arith) shallow) (half_row_near r (n - 1) 1 valid lv (omega arith) shallow) ok.near;
        cleared_near = ok.cleared_near;
        outside = ok.outside;
      }

  pub halve_sound : (s : State) (i n : ℕ) → Sound m s → Sound m (halve ask m s i n).1
  unfolding halve
  halve_sound s i n ok =
      after_settle (Sound m) s (first_listed (halve_refusals m s i n)) (length (halved ask m s i n).rows, halved ask m s i n) ok
      (λ e.
      let h = can_halve m s i n e in
      halved_sound s i n ok h.there (omega (arith, h.input, m.few)) h.shallow)

cleared_sound : (m : Mapping) (s : State) (i : ℕ) → Sound m s → i < length s.rows → Sound m (cleared_of s i)
cleared_sound m s i ok l = record {
  covered = λ p q.
      ⊎_elim
      (λ (h : MatchOption s.cleared ⊥ (Between m p)). inl (on_left (Between m p) (between_left m p) s.cleared (region_at s i).answer h))
      (λ (c : SomeRow (Holding m p) s.rows).
      ⊎_elim
      (λ (h : Holding m p (region_at s i)). inl (on_right (Between m p) (between_right m p) s.cleared (region_at s i).answer h.1))
      (λ (h : SomeRow (Holding m p) (swap_remove s.rows i no_row)). inr h)
      (some_without (Holding m p) s.rows i l c))
      (ok.covered p q);
  valid = all_without (λ x. Valid x.shape) s.rows i l ok.valid;
  near = all_without (λ x. Near m x.answer) s.rows i l ok.near;
  cleared_near = on_all (Near m) (near_join m) s.cleared (region_at s i).answer ok.cleared_near (All-get_or (λ x. Near m x.answer) s.rows i no_row l ok.near);
  outside = ok.outside;
}

pub clear_sound : (m : Mapping) (s : State) (i : ℕ) → Sound m s → Sound m (clear m s i).1
unfolding clear
clear_sound m s i ok =
    after_settle (Sound m) s (first_listed (clear_refusals m s i)) (length (cleared_of s i).rows, cleared_of s i) ok
    (λ e. cleared_sound m s i ok (can_clear m s i e))

-- a corner whose ends are wholly out is outside
new_witness : (m : Mapping) (c : Shape) (k : ℕ) (old : Option Witness) (out : Bool) → Valid c → wholly_out m (corner_ends m c k).0 (corner_ends m c k).1 ≡ out
    → IfSome old (Outside m) → IfSome (first_witness out old (witness_at c k)) (Outside m)
new_witness m c k (Some w) out ok e h = h
new_witness m c k None false ok e h = tt
new_witness m c k None true ok e h =
    let ends = corner_holds c k ok m in (
      witness_rational c k ok,
      λ held. out_from_ends m _ _ (corner_point c k) (corner_rational c k ok) e ends.0 ends.1 (witness_held c k ok m held),
    )

pub probe_sound : (m : Mapping) (s : State) (i k : ℕ) → Sound m s → Sound m (probe m s i k).1
unfolding probe
probe_sound m s i k ok =
    after_settle (Sound m) s (first_listed (probe_refusals m s i k)) (probed m s i k) ok
    (λ e. record {
      covered = ok.covered;
      valid = ok.valid;
      near = ok.near;
      cleared_near = ok.cleared_near;
      outside = new_witness m (shape_of (region_at s i)) k s.witness _ (valid_cell (cell_of (region_at s i).shape)) refl ok.outside;
    })
