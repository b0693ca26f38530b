-- Calls that may be refused: what is known where none of the listed conditions held, and the state after. Assumes nothing.
use Rattle.std.proofs.Common.{◌≡◌, ℕ, ◌-◌, ◌<◌, ◌≤◌, Bool, false, not, ◌||◌, eqb, ltb, List, [], ◌∷◌, length, Some, None, Option, refl, arith}
use Rattle.std.specs.List.{AllByRecursion}
use Rattle.std.proofs.lemmas.Bool.Decides.{nat_tests}
use Rattle.mapping.specs.Cells.{depth}
use Rattle.mapping.specs.Listed.{first_listed}
use Rattle.mapping.specs.declared.mapping.Mapping.{Mapping}
use Rattle.enquiry.specs.States.{State, region_at}
use Rattle.enquiry.specs.Steps.{settle, shape_of, halve_refusals, clear_refusals}
use Rattle.enquiry.specs.declared.refusal.Refusal.{Refusal}

-- nothing is refused: every condition failed
pub passed : (cs : List (Bool × Refusal)) → first_listed cs ≡ None → AllByRecursion (λ c. c.0 ≡ false) cs
passed [] e = tt
passed (c ∷ cs) e =
    let here : c.0 ≡ false = grind arith in
    let rest : first_listed cs ≡ None = grind arith in
    (here, passed cs rest)

-- a fact of the state before and of the changed state is one of the state after
pub after_settle : {T : Type 0} (P : State → Type 0) (s : State) (o : Option Refusal) (r : T × State) → P s → (o ≡ None → P r.1) → P (settle s o r).1
after_settle P s None r p q = q refl
after_settle P s (Some f) r p q = p

below : (a b : ℕ) → not (ltb a b) ≡ false → a < b
below a b e = grind (arith, nat_tests)

counted : (n s : ℕ) → (eqb n 0 || ltb s n) ≡ false → (1 ≤ n) × (n ≤ s)
counted n s e = (grind (arith, nat_tests), grind (arith, nat_tests))

-- what is known of a halving that is not refused
pub record CanHalve (m : Mapping) (s : State) (i n : ℕ) : Type 0 where
  pub there : i < length s.rows
  pub input : (1 ≤ n) × (n ≤ m.inputs)
  pub shallow : depth (shape_of (region_at s i)) (n - 1) < 10
  pub room : length s.rows < 64

pub can_halve : (m : Mapping) (s : State) (i n : ℕ) → first_listed (halve_refusals m s i n) ≡ None → CanHalve m s i n
can_halve m s i n e =
    let h = passed (halve_refusals m s i n) e in
    record { there = below _ _ h.0; input = counted _ _ h.1.0; shallow = below _ _ h.1.1.0; room = below _ _ h.1.1.1.0 }

pub can_clear : (m : Mapping) (s : State) (i : ℕ) → first_listed (clear_refusals m s i) ≡ None → i < length s.rows
can_clear m s i e = below _ _ (passed (clear_refusals m s i) e).0
