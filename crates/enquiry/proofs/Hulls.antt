-- Hulls: what holds of the parts holds of the hull, and what holds of one part and grows holds of it. Assumes nothing.
use Rattle.std.proofs.Common.{ℕ, zero, suc, ◌<◌, List, [], ◌∷◌, length, get_or, ◌+ℤ◌, ◌-ℤ◌, ◌≤ℤ◌, IfSome, Some, None, fold, Option, unwrap_or, ⊎_elim, arith, MatchOption}
use Rattle.std.specs.List.{AllByRecursion}
use Rattle.std.proofs.lemmas.Int.{clamps}
use Rattle.arith.proofs.Ring.{lin}
use Rattle.arith.proofs.Order.{total}
use Rattle.mapping.specs.Points.{Point, Rational}
use Rattle.mapping.specs.Values.{AtLeast, AtMost}
use Rattle.mapping.specs.declared.mapping.Mapping.{Mapping}
use Rattle.mapping.proofs.Bounds.{at_least_weaker, at_most_weaker}
use Rattle.forms.specs.declared.answer.Answer.{Answer}
use Rattle.enquiry.specs.States.{State, no_row, join, join_on, hull}
use Rattle.enquiry.specs.declared.table.Row.{Row}

-- what there may be, with something joined on
module _ (P : Answer → Type 0) where
  pub on_all : ((x y : Answer) → P x → P y → P (join x y)) → (h : Option Answer) (a : Answer) → IfSome h P → P a → IfSome (join_on h a) P
  on_all f None a p q = q
  on_all f (Some x) a p q = f x a p q

  pub on_left : ((x y : Answer) → P x → P (join x y)) → (h : Option Answer) (a : Answer) → MatchOption h ⊥ P → MatchOption (join_on h a) ⊥ P
  on_left f None a p = absurd p
  on_left f (Some x) a p = f x a p

  pub on_right : ((x y : Answer) → P y → P (join x y)) → (h : Option Answer) (a : Answer) → P a → MatchOption (join_on h a) ⊥ P
  on_right f None a p = p
  on_right f (Some x) a p = f x a p

  -- the same along a list of regions
  rows_all : ((x y : Answer) → P x → P y → P (join x y)) → (rows : List Row) (h : Option Answer)
      → IfSome h P → AllByRecursion (λ r. P r.answer) rows → IfSome (fold (λ h r. join_on h r.answer) h rows) P
  rows_all f [] h p q = p
  rows_all f (r ∷ rows) h p q = rows_all f rows (join_on h r.answer) (on_all f h r.answer p q.0) q.1

  rows_left : ((x y : Answer) → P x → P (join x y)) → (rows : List Row) (h : Option Answer)
      → MatchOption h ⊥ P → MatchOption (fold (λ h r. join_on h r.answer) h rows) ⊥ P
  rows_left f [] h p = p
  rows_left f (r ∷ rows) h p = rows_left f rows (join_on h r.answer) (on_left f h r.answer p)

  rows_one : ((x y : Answer) → P x → P (join x y)) → ((x y : Answer) → P y → P (join x y)) → (rows : List Row) (h : Option Answer)
      → (k : ℕ) → k < length rows → P (get_or rows k no_row).answer → MatchOption (fold (λ h r. join_on h r.answer) h rows) ⊥ P
  rows_one f g [] h k l p = absurd (omega arith)
  rows_one f g (r ∷ rows) h zero l p = rows_left f rows (join_on h r.answer) (on_right g h r.answer p)
  rows_one f g (r ∷ rows) h (suc k) l p = rows_one f g rows (join_on h r.answer) k (omega arith) p

  pub hull_all : ((x y : Answer) → P x → P y → P (join x y)) → (s : State) → IfSome s.cleared P → AllByRecursion (λ r. P r.answer) s.rows → IfSome (hull s) P
  unfolding hull
  hull_all f s p q = rows_all f s.rows s.cleared p q

  pub hull_cleared : ((x y : Answer) → P x → P (join x y)) → (s : State) → MatchOption s.cleared ⊥ P → MatchOption (hull s) ⊥ P
  unfolding hull
  hull_cleared f s p = rows_left f s.rows s.cleared p

  pub hull_row : ((x y : Answer) → P x → P (join x y)) → ((x y : Answer) → P y → P (join x y)) → (s : State)
      → (k : ℕ) → k < length s.rows → P (get_or s.rows k no_row).answer → MatchOption (hull s) ⊥ P
  unfolding hull
  hull_row f g s k l p = rows_one f g s.rows s.cleared k l p

  -- the value where there is one
  pub at_value : (o : Option Answer) (d : Answer) → MatchOption o ⊥ P → P (unwrap_or o d)
  at_value None d p = absurd p
  at_value (Some x) d p = p

  pub at_value_all : (Q : Answer → Type 0) (o : Option Answer) (d : Answer) → MatchOption o ⊥ Q → IfSome o P → P (unwrap_or o d)
  at_value_all Q None d q p = absurd q
  at_value_all Q (Some x) d q p = p

-- the value at a point lies in an enclosure
abbrev pub Between : Mapping → Point → Answer → Type 0
Between m p a = AtLeast m p a.low × AtMost m p a.high

-- an enclosure holds another
abbrev pub Holds : Answer → Answer → Type 0
Holds a b = (a.low ≤ℤ b.low) × (b.high ≤ℤ a.high)

-- both ends are near values that are reached
pub record Near (m : Mapping) (a : Answer) : Type 0 where
  pub low : (p : Point) × Rational p × AtMost m p (a.low +ℤ a.slack)
  pub high : (p : Point) × Rational p × AtLeast m p (a.high -ℤ a.slack)

-- orders of ends, with the smaller and the greater of two
pub ruleset ends = (arith, lin, clamps)

pub between_left : (m : Mapping) (p : Point) (x y : Answer) → Between m p x → Between m p (join x y)
between_left m p x y b =
    (at_least_weaker m p (join x y).low x.low (omega ends) b.0, at_most_weaker m p x.high (join x y).high (omega ends) b.1)

pub between_right : (m : Mapping) (p : Point) (x y : Answer) → Between m p y → Between m p (join x y)
between_right m p x y b =
    (at_least_weaker m p (join x y).low y.low (omega ends) b.0, at_most_weaker m p y.high (join x y).high (omega ends) b.1)

pub holds_left : (b x y : Answer) → Holds x b → Holds (join x y) b
holds_left b x y h = (omega ends, omega ends)

pub holds_right : (b x y : Answer) → Holds y b → Holds (join x y) b
holds_right b x y h = (omega ends, omega ends)

pub held_join : (r x y : Answer) → Holds r x → Holds r y → Holds r (join x y)
held_join r x y h k = (omega ends, omega ends)

-- the end that counts brings its own slack, and the larger slack is no less
pub near_join : (m : Mapping) (x y : Answer) → Near m x → Near m y → Near m (join x y)
near_join m x y a b = record {
  low = ⊎_elim
      (λ (h : x.low ≤ℤ y.low). (a.low.0, a.low.1, at_most_weaker m a.low.0 (x.low +ℤ x.slack) ((join x y).low +ℤ (join x y).slack) (omega ends) a.low.2))
      (λ (h : y.low ≤ℤ x.low). (b.low.0, b.low.1, at_most_weaker m b.low.0 (y.low +ℤ y.slack) ((join x y).low +ℤ (join x y).slack) (omega ends) b.low.2))
      (total x.low y.low);
  high = ⊎_elim
      (λ (h : x.high ≤ℤ y.high). (b.high.0, b.high.1, at_least_weaker m b.high.0 ((join x y).high -ℤ (join x y).slack) (y.high -ℤ y.slack) (omega ends) b.high.2))
      (λ (h : y.high ≤ℤ x.high). (a.high.0, a.high.1, at_least_weaker m a.high.0 ((join x y).high -ℤ (join x y).slack) (x.high -ℤ x.slack) (omega ends) a.high.2))
      (total x.high y.high);
}
