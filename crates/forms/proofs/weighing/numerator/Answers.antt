-- The sum of a row's numbers, each times its weight, in 64 bits. Assumes nothing.
use Rattle.std.proofs.Common.{◌≡◌, suc, ◌+◌, ◌<◌, take, pos, ◌*ℤ◌, sym, ap, ◌∙◌, subst, ap₂, arith, length-take, get_or-take, w64, SFits, to_z, of_z, rules}
use Rattle.std.proofs.lemmas.Int.{to_z-of_z}
use Rattle.arith.specs.Sums.{sum}
use Rattle.arith.proofs.Sums.{sum_none}
use Rattle.forms.specs.Arrays.{numbers}
use Rattle.forms.specs.Worked.{Within}
use Rattle.forms.specs.Works.{grown}
use Rattle.forms.proofs.Numerators.{step_fits, step_is}
use Rattle.forms.proofs.RowSums.{weigh_term, term_fits, part_fits, all_terms, numerator_size}
use Rattle.forms.proofs.weighing.numerator.Given as given
use Rattle.forms.proofs.weighing.numerator.Goals as goal

module _ (g : given.Over) (c : goal.After-sum-1 g) where
  here : c.loop-i.i < suc g.row.N
  here = omega (arith, c.loop-i-test.true, length-take (g.row.N + 1) c.args.row.now)

  item : to_z w64 (of_z w64 (numbers (take (g.row.N + 1) c.args.row.now) c.loop-i.i)) *ℤ to_z w64 (of_z w64 c.from.result)
      ≡ weigh_term g.row.N c.args.j c.args.row.now c.requires.place c.loop-i.i
  item =
      let fits : SFits w64 (numbers (take (g.row.N + 1) c.args.row.now) c.loop-i.i) = search rules in
      ap₂ ◌*ℤ◌ (to_z-of_z w64 _ fits ∙ get_or-take (g.row.N + 1) c.args.row.now c.loop-i.i (pos 0) (omega (arith, here)))
      (to_z-of_z w64 c.from.result (record { sfits = c.from.type_inv }) ∙ c.from.ensures ∙ ap pos c.weight.ensures.value)

  fits_here : SFits w64 (weigh_term g.row.N c.args.j c.args.row.now c.requires.place c.loop-i.i)
  fits_here = term_fits g.row.N c.args.j c.args.row.now c.requires.place c.requires.size c.loop-i.i here

  next_fits : SFits w64 (sum (c.loop-i.i + 1) (weigh_term g.row.N c.args.j c.args.row.now c.requires.place))
  next_fits = part_fits g.row.N c.args.j c.args.row.now c.requires.place c.requires.size (c.loop-i.i + 1) (omega (arith, here))

pub loop-i-init : goal.loop-i-init
loop-i-init g c = sym (sum_none (weigh_term g.row.N c.args.j c.args.row.now c.requires.place))

pub overflow_mul-sum : goal.overflow_mul-sum
overflow_mul-sum g c = subst (SFits w64) (sym (item g c)) (fits_here g c)

pub overflow_add-sum : goal.overflow_add-sum
overflow_add-sum g c =
    step_fits (weigh_term g.row.N c.args.j c.args.row.now c.requires.place) c.loop-i.i _ _ c.loop-i.invariant (item g c) (fits_here g c) (next_fits g c)

pub loop-i-preserved : goal.loop-i-preserved
loop-i-preserved g c =
    step_is (weigh_term g.row.N c.args.j c.args.row.now c.requires.place) c.loop-i.i _ _ c.loop-i.invariant (item g c) (fits_here g c) (next_fits g c)

pub returns : goal.returns
returns g c =
    let row = c.args.row.now in
    let all : c.loop-i.i ≡ suc g.row.N = omega (arith, c.loop-i-test.false, c.loop-i.auto.i-end, length-take (g.row.N + 1) row, c.told-row, c.requires.degree) in
    let is = c.loop-i.invariant ∙ ap (λ t. sum t (weigh_term g.row.N c.args.j row c.requires.place)) all in
    record {
      value = is ∙ all_terms g.row.N c.args.j row c.requires.place;
      size = λ b each. subst (Within (grown g.row.N b)) (sym is) (numerator_size g.row.N c.args.j row c.requires.place b each);
    }
