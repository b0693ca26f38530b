-- The numbers before the index are those of the two tables, and all are summable. Assumes nothing.
use Rattle.std.proofs.Common.{◌≡◌, ℕ, ◌<◌, ◌≤◌, length, neg_ℤ}
use Rattle.std.specs.NonZero.{non_zero_u64_get}
use Rattle.arith.specs.Rounding.{quot_down, quot_up}
use Rattle.forms.specs.Arrays.{numbers}
use Rattle.forms.specs.Works.{summable, EachWithin}
use Rattle.forms.proofs.whole.first_tables.Given as goal

abbrev pub invariant-loop-index : goal.invariant-loop-index
invariant-loop-index l =
    (length l.low ≡ 64)
    × (length l.mirrored ≡ 64)
    × ((t : ℕ) → t < l.index → numbers l.low t ≡ quot_down (numbers l.initial.low t) (non_zero_u64_get l.denominator))
    × ((t : ℕ) → t < l.index → numbers l.mirrored t ≡ neg_ℤ (quot_up (numbers l.initial.low t) (non_zero_u64_get l.denominator)))
    × ((t : ℕ) → l.index ≤ t → numbers l.low t ≡ numbers l.initial.low t)
    × EachWithin summable l.low
    × EachWithin summable l.mirrored
