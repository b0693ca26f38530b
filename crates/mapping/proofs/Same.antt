-- A mapping is told by its numbers: its invariants have one proof each. Assumes nothing.
use Rattle.std.proofs.Common.{◌≡◌, ℕ, ◌^◌, ◌<◌, ◌≤◌, length, get_or, pos}
use mathlib.Core.HLevel.{is_prop→PathP, Π_prop}
use native.Mathlib.Bridge.{le_prop}
use native.Mathlib.Nat.{ℕ_set}
use lib.IntN.{ℤ_set}
use lib.Signed.{mag}
use Rattle.mapping.specs.Terms.{terms}
use Rattle.mapping.specs.declared.mapping.Mapping.{Mapping}

pub same_mapping : (a b : Mapping) → a.inputs ≡ b.inputs → a.degrees ≡ b.degrees → a.kind ≡ b.kind → a.shift ≡ b.shift → a.coefficients ≡ b.coefficients → a ≡ b
same_mapping a b s n k q c = λ i. record {
  inputs = s i;
  degrees = n i;
  kind = k i;
  shift = q i;
  coefficients = c i;
  some = is_prop→PathP (λ j. 1 ≤ s j) (λ j. le_prop) a.some b.some i;
  few = is_prop→PathP (λ j. s j ≤ 3) (λ j. le_prop) a.few b.few i;
  three = is_prop→PathP (λ j. length (n j) ≡ 3) (λ j. ℕ_set (length (n j)) 3) a.three b.three i;
  low = is_prop→PathP (λ j. (v : ℕ) → v < 3 → get_or (n j) v 0 ≤ 7) (λ j. Π_prop (λ v. Π_prop (λ h. le_prop))) a.low b.low i;
  absent = is_prop→PathP (λ j. (v : ℕ) → s j ≤ v → v < 3 → get_or (n j) v 0 ≡ 0) (λ j. Π_prop (λ v. Π_prop (λ g. Π_prop (λ h. ℕ_set (get_or (n j) v 0) 0)))) a.absent b.absent i;
  small = is_prop→PathP (λ j. terms (n j) ≤ 64) (λ j. le_prop) a.small b.small i;
  fine = is_prop→PathP (λ j. q j ≤ 15) (λ j. le_prop) a.fine b.fine i;
  table = is_prop→PathP (λ j. length (c j) ≡ 64) (λ j. ℕ_set (length (c j)) 64) a.table b.table i;
  narrow = is_prop→PathP (λ j. (k : ℕ) → mag (get_or (c j) k (pos 0)) < 2 ^ 31) (λ j. Π_prop (λ k. le_prop)) a.narrow b.narrow i;
  unused = is_prop→PathP (λ j. (k : ℕ) → terms (n j) ≤ k → get_or (c j) k (pos 0) ≡ pos 0) (λ j. Π_prop (λ k. Π_prop (λ h. ℤ_set (get_or (c j) k (pos 0)) (pos 0)))) a.unused b.unused i;
}
