-- The numerators of a row, as a loop adds them up in 64 bits, and how large they are. Assumes nothing.
use Rattle.std.proofs.Common.{◌≡◌, ℕ, suc, ◌*◌, ◌^◌, ◌<◌, ◌≤◌, List, ℤ, pos, ◌*ℤ◌, neg_ℤ, nat_abs, ◌≤ℤ◌, sym, refl, subst, mul-le-mul_right, arith, w64, SFits}
use borrow.Author.Differences.{fits_in, abs_is, mag_is}
use Rattle.arith.specs.Sums.{sum}
use Rattle.arith.proofs.Ring.{lin}
use Rattle.mapping.specs.declared.mapping.Mapping.{Mapping}
use Rattle.forms.specs.Arrays.{numbers}
use Rattle.forms.specs.Choose.{factorial, weight}
use Rattle.forms.specs.Worked.{Within}
use Rattle.forms.specs.Works.{weighed_row, EachWithin, grown, Weighable}
use Rattle.forms.proofs.Between.{Between, term_between, sum_between}
use Rattle.forms.specs.ChooseLemmas.{weight_le}

size_of : (b : ℕ) (z : ℤ) → Within b z → nat_abs z ≤ b
size_of b z w = omega (arith, lin, abs_is z, w.0, w.1)

module _ (n j : ℕ) (xs : List ℤ) (place : j ≤ n) where
  abbrev pub weigh_term : ℕ → ℤ
  weigh_term i = numbers xs i *ℤ pos (weight n j i)

  each : (b : ℕ) → EachWithin b xs → (i : ℕ) → i < suc n → Between (neg_ℤ (pos (b * factorial n))) (pos (b * factorial n)) (weigh_term i)
  each b all i l = term_between b (factorial n) (weight n j i) (numbers xs i) (size_of b (numbers xs i) (all i)) (weight_le n j i place (omega arith))

  -- the first t terms
  part : (b : ℕ) → EachWithin b xs → (t : ℕ) → t ≤ suc n → Within (grown n b) (sum t weigh_term)
  part b all t l =
      let s = sum_between t weigh_term (b * factorial n) (λ i k. each b all i (omega arith)) in
      let m : t * (b * factorial n) ≤ grown n b = mul-le-mul_right (b * factorial n) l in
      let lo : neg_ℤ (pos (t * (b * factorial n))) ≤ℤ sum t weigh_term = s.from in
      let hi : sum t weigh_term ≤ℤ pos (t * (b * factorial n)) = s.to in
      (omega (arith, lin), omega (arith, lin))

  pub term_fits : Weighable n xs → (i : ℕ) → i < suc n → SFits w64 (weigh_term i)
  term_fits w i l =
      let s = each w.bound w.each i l in
      let one : 1 ≤ suc n = omega arith in
      let m : 1 * (w.bound * factorial n) ≤ grown n w.bound = mul-le-mul_right (w.bound * factorial n) one in
      let lo : neg_ℤ (pos (w.bound * factorial n)) ≤ℤ weigh_term i = s.from in
      let hi : weigh_term i ≤ℤ pos (w.bound * factorial n) = s.to in
      omega (arith, lin, fits_in, w.room)

  pub part_fits : Weighable n xs → (t : ℕ) → t ≤ suc n → SFits w64 (sum t weigh_term)
  part_fits w t l = let s = part w.bound w.each t l in omega (arith, lin, fits_in, w.room, s.0, s.1)

  pub all_terms : sum (suc n) weigh_term ≡ weighed_row n (numbers xs) j
  unfolding weighed_row
  all_terms = refl

  pub numerator_size : (b : ℕ) → EachWithin b xs → Within (grown n b) (sum (suc n) weigh_term)
  numerator_size b all = part b all (suc n) (omega arith)

-- the coefficients of a mapping, in an array
pub coefficients_within : (m : Mapping) (xs : List ℤ) → ((k : ℕ) → numbers xs k ≡ numbers m.coefficients k) → EachWithin (2 ^ 31) xs
coefficients_within m xs same k =
    let z = numbers m.coefficients k in
    subst (Within (2 ^ 31)) (sym (same k)) (omega (arith, lin, m.narrow k, mag_is z), omega (arith, lin, m.narrow k, mag_is z))
