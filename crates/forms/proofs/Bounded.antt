-- The sizes of the numbers in arrays. Assumes nothing.
use Rattle.std.proofs.Common.{◌≡◌, ℕ, ◌<◌, List, length, set, ℤ, pos, negsuc, neg_ℤ, sym, subst, ⊎_elim, div-le_self, arith, w64, SFits, to_z, of_z}
use borrow.Author.Differences.{fits_in}
use Rattle.std.proofs.lemmas.List.{get_or-set_same, get_or-set_other}
use Rattle.std.proofs.lemmas.Int.{to_z-of_z}
use Rattle.std.proofs.lemmas.Bool.{cases_eq}
use Rattle.arith.specs.Rounding.{quot_down, quot_up}
use Rattle.arith.proofs.Ring.{lin}
use Rattle.forms.specs.Arrays.{numbers}
use Rattle.forms.specs.Worked.{Within}
use Rattle.forms.specs.Works.{summable, EachWithin}

-- a new number at one place
pub all_set : (b : ℕ) (xs : List ℤ) (k : ℕ) (z : ℤ) → k < length xs → EachWithin b xs → Within b z → EachWithin b (set xs k z)
all_set b xs k z len all new j =
    ⊎_elim
    (λ (e : j ≡ k). subst (λ i. Within b (numbers (set xs k z) i)) (sym e) (subst (Within b) (sym (get_or-set_same xs k z (pos 0) len)) new))
    (λ (e : j ≡ k → ⊥). subst (Within b) (sym (get_or-set_other xs k j z (pos 0) e)) (all j))
    (cases_eq j k)

-- a summable number in a word of 64 bits
pub summable_fits : (z : ℤ) → Within summable z → SFits w64 z
summable_fits z w = omega (arith, lin, fits_in, w.0, w.1)

pub word : (z : ℤ) → Within summable z → to_z w64 (of_z w64 z) ≡ z
word z w = to_z-of_z w64 z (summable_fits z w)

-- the opposite number, and a quotient
pub within_neg : (b : ℕ) (z : ℤ) → Within b z → Within b (neg_ℤ z)
within_neg b z w = (omega (arith, lin, w.1), omega (arith, lin, w.0))

pub within_down : (b m : ℕ) (z : ℤ) → Within b z → Within b (quot_down z m)
unfolding quot_down
within_down b m (pos a) w = (omega (arith, lin), omega (arith, lin, div-le_self a m, w.1))
within_down b m (negsuc a) w = (omega (arith, lin, div-le_self a m, w.0), omega (arith, lin))

pub within_up : (b m : ℕ) (z : ℤ) → Within b z → Within b (quot_up z m)
unfolding quot_up
within_up b m z w = within_neg b (quot_down (neg_ℤ z) m) (within_down b m (neg_ℤ z) (within_neg b z w))
