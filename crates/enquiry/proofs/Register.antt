-- The register and the ends of a range: three laws, on which all that is said of the register rests. Assumes nothing.
use Rattle.std.proofs.Common.{◌≡◌, true, ℤ, ◌≤ℤ◌, arith}
use Rattle.std.proofs.lemmas.Int.{ints}
use Rattle.mapping.specs.Points.{Point, Rational}
use Rattle.mapping.specs.Values.{AtLeast, AtMost}
use Rattle.mapping.specs.Registers.{register_low, register_high}
use Rattle.mapping.specs.declared.mapping.Mapping.{Mapping}
use Rattle.mapping.proofs.Bounds.{at_least_weaker, at_most_weaker, bounds_in_order}
use Rattle.enquiry.specs.InRegister.{InRegister, wholly_in, wholly_out}

module _ (m : Mapping) (low high : ℤ) where
  -- a value between ends that are wholly in is in
  pub in_from_ends : (p : Point) → wholly_in m low high ≡ true → AtLeast m p low → AtMost m p high → InRegister m p
  unfolding InRegister wholly_in
  in_from_ends p e a b =
      let x : register_low m ≤ℤ low = grind (arith, ints) in
      let y : high ≤ℤ register_high m = grind (arith, ints) in
      (at_least_weaker m p _ _ x a, at_most_weaker m p _ _ y b)

  -- a value between ends that are wholly out is not
  pub out_from_ends : (p : Point) → Rational p → wholly_out m low high ≡ true → AtLeast m p low → AtMost m p high → InRegister m p → ⊥
  unfolding InRegister wholly_out
  out_from_ends p r e a b held =
      let x : low ≤ℤ register_high m = bounds_in_order m p r low (register_high m) a held.1 in
      let y : register_low m ≤ℤ high = bounds_in_order m p r (register_low m) high held.0 b in
      grind (arith, ints)

  -- narrower ends are wholly in too
  pub in_narrower : (l h : ℤ) → low ≤ℤ l → h ≤ℤ high → wholly_in m low high ≡ true → wholly_in m l h ≡ true
  unfolding wholly_in
  in_narrower l h a b e = grind (arith, ints)
