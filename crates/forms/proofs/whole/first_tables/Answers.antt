-- Two tables, one more number in each at each turn. Assumes nothing.
use Rattle.std.proofs.Common.{◌≡◌, ℕ, ◌<◌, length, ℤ, pos, ◌-ℤ◌, neg_ℤ, sym, ap, ◌∙◌, subst, ap₂, arith, length-set, w64, SFits, to_z, of_z}
use lib.IntN.{+ℤ_idl}
use Rattle.arith.specs.Rounding.{quot_down, quot_up}
use Rattle.mapping.specs.Terms.{flat}
use Rattle.mapping.specs.Values.{degree, coefficient}
use Rattle.forms.specs.Arrays.{numbers}
use Rattle.forms.specs.Works.{summable}
use Rattle.forms.specs.Worked.{Within}
use Rattle.forms.proofs.Between.{first_text}
use Rattle.forms.proofs.Filling.{place_more, places_behind}
use Rattle.forms.proofs.Places.{flat_below}
use Rattle.forms.proofs.Bounded.{all_set, summable_fits, word, within_neg, within_down, within_up}
use Rattle.forms.proofs.whole.first_tables.Goals as goal

module _ (c : goal.After-struct_told-in-loop-index-1) where
  abbrev t : ℕ
  t = c.loop-index.index

  abbrev z : ℤ
  z = numbers c.numerators.new.table t

  abbrev F : ℕ
  F = c.denominator-denominator.result.value

  z_within : Within summable z
  z_within = c.numerators.ensures.size t

  read : to_z w64 (of_z w64 (numbers c.loop-index.low t)) ≡ z
  read = ap (λ x. to_z w64 (of_z w64 x)) (c.loop-index.invariant.4 t (omega arith)) ∙ word z z_within

  down_is : to_z w64 (of_z w64 c.between-down.result.0) ≡ quot_down z F
  down_is =
      let is : c.between-down.result.0 ≡ quot_down z F = c.between-down.ensures.down ∙ ap (λ x. quot_down x F) read in
      ap (λ x. to_z w64 (of_z w64 x)) is ∙ word (quot_down z F) (within_down summable F z z_within)

  up_is : to_z w64 (of_z w64 c.between-down.result.1) ≡ quot_up z F
  up_is =
      let is : c.between-down.result.1 ≡ quot_up z F = c.between-down.ensures.up ∙ ap (λ x. quot_up x F) read in
      ap (λ x. to_z w64 (of_z w64 x)) is ∙ word (quot_up z F) (within_up summable F z z_within)

  minus_is : pos 0 -ℤ to_z w64 (of_z w64 c.between-down.result.1) ≡ neg_ℤ (quot_up z F)
  minus_is = ap (λ x. pos 0 -ℤ x) up_is ∙ +ℤ_idl (neg_ℤ (quot_up z F))

  minus_within : Within summable (neg_ℤ (quot_up z F))
  minus_within = within_neg summable (quot_up z F) (within_up summable F z z_within)

pub overflow_sub-mirrored : goal.overflow_sub-mirrored
overflow_sub-mirrored c = subst (SFits w64) (sym (minus_is c)) (summable_fits (neg_ℤ (quot_up (z c) (F c))) (minus_within c))

pub loop-index-preserved : goal.loop-index-preserved
loop-index-preserved c =
    let low = c.loop-index.low in
    let high = c.loop-index.mirrored in
    let nums = c.numerators.new.table in
    let m = c.args.m.now in
    let inv = c.loop-index.invariant in
    let low_room : t c < length low = omega (arith, inv.0, c.loop-index-test.true, c.terms-index-end.ensures.value, m.small) in
    let high_room : t c < length high = omega (arith, inv.1, c.loop-index-test.true, c.terms-index-end.ensures.value, m.small) in
    let minus : to_z w64 (of_z w64 (pos 0 -ℤ to_z w64 (of_z w64 c.between-down.result.1))) ≡ neg_ℤ (quot_up (z c) (F c)) =
    ap (λ x. to_z w64 (of_z w64 x)) (minus_is c) ∙ word (neg_ℤ (quot_up (z c) (F c))) (minus_within c) in (
      simp length-set inv.0,
      simp length-set inv.1,
      place_more (λ k. quot_down (numbers nums k) (F c)) low (t c) _ low_room (down_is c) inv.2,
      place_more (λ k. neg_ℤ (quot_up (numbers nums k) (F c))) high (t c) _ high_room minus inv.3,
      places_behind low nums (t c) _ inv.4,
      all_set summable low (t c) _ low_room inv.5 (subst (Within summable) (sym (down_is c)) (within_down summable (F c) (z c) (z_within c))),
      all_set summable high (t c) _ high_room inv.6 (subst (Within summable) (sym minus) (minus_within c)),
    )

pub returns-clause-low : goal.returns-clause-low
returns-clause-low c =
    let m = c.args.m.now in
    λ i j k il jl kl.
    let below : flat m.degrees i j k < c.loop-index.index = omega (arith, flat_below m.degrees i j k il jl kl, c.terms-index-end.ensures.value, c.loop-index-test.false) in
    c.loop-index.invariant.2 (flat m.degrees i j k) below
    ∙ ap₂ quot_down (c.numerators.ensures.value i j k il jl kl) c.denominator-denominator.ensures.value
    ∙ first_text quot_down (degree m 0) (degree m 1) (degree m 2) (coefficient m) i j k

pub returns-clause-high : goal.returns-clause-high
returns-clause-high c =
    let m = c.args.m.now in
    λ i j k il jl kl.
    let below : flat m.degrees i j k < c.loop-index.index = omega (arith, flat_below m.degrees i j k il jl kl, c.terms-index-end.ensures.value, c.loop-index-test.false) in
    c.loop-index.invariant.3 (flat m.degrees i j k) below
    ∙ ap neg_ℤ (ap₂ quot_up (c.numerators.ensures.value i j k il jl kl) c.denominator-denominator.ensures.value
    ∙ first_text quot_up (degree m 0) (degree m 1) (degree m 2) (coefficient m) i j k)
