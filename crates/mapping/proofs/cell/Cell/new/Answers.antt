use native.Mathlib.Nat.{div-eq_of_lt}
use Rattle.std.proofs.Common.{◌≡◌, ◌/◌, ◌^◌, ◌<◌, ◌≤◌, get_or, rules, tests, arith}
use Rattle.std.proofs.lemmas.Iterator.{cases_from_any, YieldsList-from_slice}
use Rattle.mapping.specs.Cells.{whole_part}
use Rattle.mapping.specs.declared.cell.Part.{Part}
use Rattle.mapping.proofs.cell.Cell.new.Goals as goal

abbrev Outside : Part → Type 0
Outside p = p.depth ≤ 10 → p.place / 2 ^ p.depth ≡ 0 → ⊥

not_outside : (p : Part) → p.depth ≤ 10 → p.place < 2 ^ p.depth → Outside p → ⊥
not_outside p shallow inside h = h shallow (div-eq_of_lt inside)

pub returns-then-any : goal.returns-then-any
returns-then-any c = record {
  value = λ ok.
      let parts = c.args.shape.parts in
      let h = cases_from_any _ _ _ Outside (λ p. Unit {0}) c.any.ensures.ran (YieldsList-from_slice parts cc) (λ x q k. search (rules, tests)) (λ x q k. search (rules, tests)) in
      let found = rw c.if-any.true at h in
      let v = found.0 in
      let near : v < 3 = omega (arith, ok.three) in
      not_outside (get_or parts v whole_part) (ok.shallow v near) (ok.inside v near) (found.2 whole_part);
}
