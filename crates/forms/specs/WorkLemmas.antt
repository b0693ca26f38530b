-- Weighing and halving keep the rules of work on rows. Assumes nothing.
use Rattle.std.specs.Prelude.{◌≡◌, ℕ, zero, suc, ◌-◌, ◌*◌, ◌/◌, ◌%◌, ◌≤◌, ℤ, pos, ◌*ℤ◌, refl}
use Rattle.std.proofs.Common.{◌∙◌, ap₂, mul-le-mul_right, mul-le-mul, arith}
use lib.IntN.{+ℤ_idl}
use Rattle.arith.specs.Sums.{sum}
use Rattle.arith.proofs.Ring.{lin, mul-one}
use Rattle.arith.proofs.Sums.{sum_ext}
use Rattle.forms.specs.Arrays.{numbers}
use Rattle.forms.specs.Choose.{factorial, choose, weight}
use Rattle.forms.specs.ChooseLemmas.{factorial_pos}
use Rattle.forms.specs.Halving.{Row, mean_down, rounds, kept, deep}
use Rattle.forms.specs.HalvingLemmas.{kept_keep, deep_keep}
use Rattle.forms.specs.Worked.{Within}
use Rattle.forms.specs.Works.{weighed_row, summable, grown, Weighable, Weighed, Halvable, Halved, Reads, WorkRules}

-- ---- what the work reads of a row

pub weighed_reads : (n : ℕ) → Reads n (weighed_row n)
unfolding weighed_row
weighed_reads n r s h k l =
    sum_ext (suc n) (λ i. r i *ℤ pos (weight n k i)) (λ i. s i *ℤ pos (weight n k i)) (λ i b. λ t. h i (omega arith) t *ℤ pos (weight n k i))

pub kept_reads : (f : ℤ → ℤ → ℤ) (n b : ℕ) → Reads n (kept f n b)
kept_reads f n b r s h k l = kept_keep (λ x y. x ≡ y) f f (λ a b x y p q. ap₂ f p q) n b r s h k l

pub deep_reads : (f : ℤ → ℤ → ℤ) (n d p : ℕ) → Reads n (deep (kept f n) d p)
deep_reads f n d p r s h k l = deep_keep (λ d x y. x ≡ y) (kept f n) (kept f n) n (λ d b r s q i j. kept_reads f n b r s q i j) r s h d p k l

-- ---- how large numbers are

-- a larger bound
pub within_more : (a b : ℕ) (z : ℤ) → a ≤ b → Within a z → Within b z
within_more a b z l w = (omega (arith, lin, w.0), omega (arith, lin, w.1))

-- no bound shrinks
pub grows : (n b : ℕ) → b ≤ grown n b
grows n b =
    let same : b ≤ b = omega arith in
    let inner : b * 1 ≤ b * factorial n = mul-le-mul same (factorial_pos n) in
    let one : 1 ≤ suc n = omega arith in
    let outer : 1 * (b * factorial n) ≤ suc n * (b * factorial n) = mul-le-mul_right (b * factorial n) one in
    omega (arith, inner, outer)

-- ---- rows of one number, which no work changes

lone_kept : (b : ℕ) (r : Row) → kept mean_down 0 b r 0 ≡ r 0
unfolding kept rounds
lone_kept zero r = refl
lone_kept (suc b) r = let e : 0 - 0 ≡ 0 = omega arith in rw e

lone_deep : (d p : ℕ) (r : Row) → deep (kept mean_down 0) d p r 0 ≡ r 0
unfolding deep
lone_deep zero p r = refl
lone_deep (suc d) p r = lone_kept (p % 2) (deep (kept mean_down 0) d (p / 2) r) ∙ lone_deep d (p / 2) r

lone_weighed : (r : Row) → weighed_row 0 r 0 ≡ r 0
unfolding weighed_row sum weight choose factorial
lone_weighed r = +ℤ_idl (r 0 *ℤ pos 1) ∙ mul-one (r 0)

-- ---- the rules

pub weigh_rules : WorkRules weighed_row Weighable Weighed
weigh_rules = record {
  reads = weighed_reads;
  row_fit = λ n xs ys h f. record { bound = f.bound; each = h f.bound f.each; room = f.room };
  not_yet = λ n xs f b all k. within_more b (grown n b) (numbers xs k) (grows n b) (all k);
  row_grown = λ n xs old new ys zs read made so_far put b all. put (grown n b) (so_far b all) (made b (read b all));
  lone = lone_weighed;
}

pub halve_rules : (d p : ℕ) → WorkRules (λ n. deep (kept mean_down n) d p) (Halvable d) Halved
halve_rules d p = record {
  reads = λ n. deep_reads mean_down n d p;
  row_fit = λ n xs ys h f. (f.0, h summable f.1);
  not_yet = λ n xs f. f.1;
  row_grown = λ n xs old new ys zs read made so_far put. put summable so_far made;
  lone = lone_deep d p;
}
